-- The log of a history.
use Rattle.std.specs.Prelude.{◌≡◌, ℕ, false, List, [], ◌∷◌, All}
use Rattle.play_log.specs.Entries.{Entry, printed}
use Rattle.play_log.specs.Kept.{LogValue, IsKept}
use Rattle.play_log.specs.Lines.{LogLine, IsLogLine, log_text}
use Rattle.play_log.specs.Saying.{Says}
use Rattle.play_log.specs.Scenes.{Scene}

-- each entry has its line, in the same order
abbrev pub AllSay : Scene → List LogLine → List Entry → Type 0
AllSay s [] [] = Unit {0}
AllSay s (line ∷ lines) (entry ∷ entries) = Says s line entry × AllSay s lines entries
AllSay s _ _ = ⊥

-- the lines are those of the history: one for each entry but those that are left out
pub record AreLinesOf (s : Scene) (history : List Entry) (lines : List LogLine) : Type 0 where
  pub canonical : All IsLogLine lines
  pub say : AllSay s lines (printed history)

-- unless memory was wanting, the log has the lines of the history
abbrev pub Keeps : Scene → List Entry → LogValue → Type 0
Keeps s history log = log.broken ≡ false → (lines : List LogLine) × IsKept lines log × AreLinesOf s history lines

-- the text is that of the history: its lines, numbered from 1, and then `end`
pub record IsLogged (s : Scene) (history : List Entry) (text : List ℕ) : Type 0 where
  pub lines : List LogLine
  pub of_history : AreLinesOf s history lines
  pub whole : text ≡ log_text lines
