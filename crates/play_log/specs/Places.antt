-- Lines with their places in a history of several passes, as each pass keeps its own.
use Rattle.std.specs.Prelude.{◌≡◌, ℕ, ◌+◌, ◌<◌, Bool, List, All, length, [], ◌∷◌, ◌++◌, codes, map, if◌then◌else◌}
use Rattle.std.specs.Fmt.{decimal}
use Rattle.act_text.specs.Texts.{act_text}
use Rattle.act_text.specs.declared.text.ActText.{ActText}
use Rattle.play_log.specs.declared.placed.Placed.{Placed}
use Rattle.play_log.specs.Lines.{LogLine, is_left_out}
use Rattle.play_log.specs.Spelled.{number_in, rest_spelled}

-- a line, and how many entries of all passes stand before its own
pub record PlacedLine : Type 0 where
  pub place : ℕ
  pub line : LogLine

-- the same as it is written, but for its number
pub record PlacedText : Type 0 where
  pub place : ℕ
  pub rest : List ℕ

abbrev pub line_place : PlacedLine → ℕ
line_place l = l.place

abbrev pub text_place : PlacedText → ℕ
text_place t = t.place

-- `PASS ACT = REPLY`
abbrev pub rest_text : LogLine → List ℕ
rest_text line = decimal line.pass ++ codes " " ++ act_text line.said

abbrev pub placed_text : PlacedLine → PlacedText
placed_text l = record { place = l.place; rest = rest_text l.line }

-- with words that stand in a table
abbrev pub placed_spelled : List (List ℕ) → Placed → PlacedText
placed_spelled words it = record { place = it.place; rest = rest_spelled words it.line }

-- the words of each are there
abbrev pub AreSpelled : List (List ℕ) → List Placed → Type 0
AreSpelled words lines = All (λ it. number_in it.line < length words) lines

-- `NUMBER PASS ACT = REPLY`
abbrev pub numbered : ℕ → PlacedText → List ℕ
numbered n t = decimal n ++ codes " " ++ t.rest ++ codes "\n"

abbrev pub numbered_from : ℕ → List PlacedText → List ℕ
numbered_from n [] = []
numbered_from n (t ∷ ts) = numbered n t ++ numbered_from (n + 1) ts

-- what a pass keeps of its acts: their lines, and whether memory was wanting for one
pub record PassLogValue : Type 0 where
  pub lines : List PlacedText
  pub broken : Bool

-- it has these lines, and no more
abbrev pub IsKeptAt : List PlacedLine → PassLogValue → Type 0
IsKeptAt lines log = log.lines ≡ map placed_text lines

abbrev pub AreKeptAt : List (List PlacedLine) → List PassLogValue → Type 0
AreKeptAt [] [] = Unit {0}
AreKeptAt (lines ∷ lists) (log ∷ logs) = IsKeptAt lines log × AreKeptAt lists logs
AreKeptAt _ _ = ⊥

abbrev pub lists_of : List PassLogValue → List (List PlacedText)
lists_of logs = map (λ log. log.lines) logs

-- the lines of one act
abbrev pub placed_of : ℕ → ℕ → ActText → List PlacedLine
placed_of place pass said = if is_left_out said.reply then [] else record { place = place; line = record { pass = pass; said = said } } ∷ []
