-- Lines whose words stand in a table.
use Rattle.std.specs.Prelude.{◌≡◌, ℕ, ◌+◌, ◌<◌, List, [], ◌∷◌, ◌++◌, All, codes, length, slice_index_or}
use Rattle.std.specs.Fmt.{decimal}
use Rattle.act_text.specs.Texts.{act_text}
use Rattle.play_log.specs.declared.line.Line.{Line}
use Rattle.play_log.specs.declared.line.Line.TheVariants.{Said, Finished}
use Rattle.play_log.specs.declared.words.Made.{Made}

-- the longer list begins with the other
abbrev pub Begins : {T : Type 0} → List T → List T → Type 0
Begins {T} old new = (rest : List T) × (new ≡ old ++ rest)

-- each act has its words
abbrev pub AreMade : List Made → Type 0
AreMade made = All (λ it. it.text.items ≡ act_text it.act) made

-- the number of a line's words
abbrev pub number_in : Line → ℕ
number_in (Said pass number) = number
number_in (Finished pass number frames) = number

-- the words of each line are there
abbrev pub AreThere : List (List ℕ) → List Line → Type 0
AreThere words lines = All (λ line. number_in line < length words) lines

-- `PASS WORDS`, and the frames of a step behind them
abbrev pub rest_spelled : List (List ℕ) → Line → List ℕ
rest_spelled words (Said pass number) = decimal pass ++ codes " " ++ slice_index_or words number []
rest_spelled words (Finished pass number frames) = decimal pass ++ codes " " ++ slice_index_or words number [] ++ codes " " ++ decimal frames

-- the line with its number
abbrev pub line_spelled : List (List ℕ) → ℕ → Line → List ℕ
line_spelled words n line = decimal n ++ codes " " ++ rest_spelled words line ++ codes "\n"

-- the lines, numbered from that number on
abbrev pub spelled_from : List (List ℕ) → ℕ → List Line → List ℕ
spelled_from words n [] = []
spelled_from words n (line ∷ lines) = line_spelled words n line ++ spelled_from words (n + 1) lines
