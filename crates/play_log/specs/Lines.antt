-- The text of a log: a line for each entry, and then `end`.
use Rattle.std.specs.Prelude.{◌≡◌, ◌⊎◌, ℕ, ◌+◌, ◌^◌, ◌<◌, Bool, true, false, List, [], ◌∷◌, ◌++◌, All, codes, if◌then◌else◌}
use Rattle.std.specs.Fmt.{decimal}
use Rattle.act_text.specs.Texts.{act_text, IsActText}
use Rattle.act_text.specs.declared.reply.TextReply.{TextReply}
use Rattle.act_text.specs.declared.reply.TextReply.TheVariants.{Idle, NoNote, Busy}
use Rattle.act_text.specs.declared.text.ActText.{ActText}

-- what a line says, but for its number
pub record LogLine : Type 0 where
  pub pass : ℕ
  pub said : ActText

-- the names are names, and the numbers are within their limits
pub record IsLogLine (line : LogLine) : Type 0 where
  pub pass : line.pass < 2 ^ 32
  pub said : IsActText line.said

-- `NUMBER PASS ACT = REPLY`
abbrev pub line_text : ℕ → LogLine → List ℕ
line_text number line = decimal number ++ codes " " ++ decimal line.pass ++ codes " " ++ act_text line.said ++ codes "\n"

-- the lines, numbered from that number on
abbrev pub lines_from : ℕ → List LogLine → List ℕ
lines_from number [] = []
lines_from number (line ∷ lines) = line_text number line ++ lines_from (number + 1) lines

abbrev pub log_text : List LogLine → List ℕ
log_text lines = lines_from 1 lines ++ codes "end\n"

-- Each line is canonical, with its own number, and the last one is `end`, which may lack its line feed.
pub record HasLines (text : List ℕ) (lines : List LogLine) : Type 0 where
  pub canonical : All IsLogLine lines
  pub whole : (text ≡ log_text lines) ⊎ (text ≡ lines_from 1 lines ++ codes "end")

-- an act with such a reply did nothing, and has no line
abbrev pub is_left_out : TextReply → Bool
is_left_out (Idle why) = true
is_left_out NoNote = true
is_left_out Busy = true
is_left_out other = false

-- the lines of one act
abbrev pub lines_of : ℕ → ActText → List LogLine
lines_of pass said = if is_left_out said.reply then [] else record { pass = pass; said = said } ∷ []
