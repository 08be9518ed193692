-- The lines of a log's text, and which of them an audit takes.
use Rattle.std.specs.Prelude.{◌≡◌, ℕ, ◌+◌, ◌==◌, ◌≤◌, false, List, [], ◌∷◌, ◌++◌, length, if◌then◌else◌}
use Rattle.std.specs.Fmt.{decimal}
use Rattle.act_text.specs.Texts.{act_text}
use Rattle.play_log.specs.Lines.{LogLine, IsLogLine, is_left_out}
use Rattle.audit_lines.specs.declared.read.ReadLine.{ReadLine}

-- the byte begins the first of the pieces
abbrev pub begun : ℕ → List (List ℕ) → List (List ℕ)
begun byte [] = (byte ∷ []) ∷ []
begun byte (piece ∷ pieces) = (byte ∷ piece) ∷ pieces

abbrev pub with_byte : ℕ → List (List ℕ) → List (List ℕ)
with_byte byte pieces = if byte == 10 then [] ∷ pieces else begun byte pieces

-- What stands between the line feeds of a text: each one ends a line, and the last line may lack it. A carriage return stays.
abbrev pub pieces_of : List ℕ → List (List ℕ)
pieces_of [] = []
pieces_of (byte ∷ bytes) = with_byte byte (pieces_of bytes)

-- `NUMBER PASS ACT = REPLY`, without its line feed
abbrev pub text_of_line : ℕ → LogLine → List ℕ
text_of_line number line = decimal number ++ (32 ∷ (decimal line.pass ++ (32 ∷ act_text line.said)))

-- such a text for each line, numbered from that number on
abbrev pub texts_from : ℕ → List LogLine → List (List ℕ)
texts_from number [] = []
texts_from number (line ∷ lines) = text_of_line number line ∷ texts_from (number + 1) lines

-- the line says this: it is canonical with its own number and of at most 512 bytes, made by a pass from 0 to 8, with a reply that a log has
pub record IsOfPlay (number : ℕ) (text : List ℕ) (line : LogLine) : Type 0 where
  pub whole : text ≡ text_of_line number line
  pub canonical : IsLogLine line
  pub short : length text ≤ 512
  pub few : line.pass ≤ 8
  pub printed : is_left_out (line.said).reply ≡ false

abbrev pub line_of : ReadLine → LogLine
line_of read = record { pass = read.pass; said = read.said }
