-- What a log keeps of the acts that it was told.
use Rattle.std.specs.Prelude.{◌≡◌, ℕ, Bool, List, length}
use Rattle.play_log.specs.Lines.{LogLine, lines_from}

pub record LogValue : Type 0 where
  pub text : List ℕ
  -- how many lines it has
  pub count : ℕ
  -- memory was wanting, and an act has no line
  pub broken : Bool

-- it has these lines, and no more
pub record IsKept (lines : List LogLine) (log : LogValue) : Type 0 where
  pub text : log.text ≡ lines_from 1 lines
  pub count : log.count ≡ length lines
