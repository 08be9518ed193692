-- One line of a text, for who goes along it: it passes each test, or stops the check at one.
use Rattle.std.specs.Prelude.{◌≡◌, ℕ, false, List, []}
use Rattle.omx_types.specs.declared.fault.AuditWhy.{AuditWhy}
use Rattle.il_machine.specs.World.{World}
use Rattle.play_log.specs.Lines.{LogLine}
use Rattle.audit_lines.specs.Lines.{IsOfPlay}
use Rattle.audit_order.specs.Steps.{OrderValue}
use Rattle.audit_forms.specs.Audited.{Answers, AtPiece, Case, IsNext, IsThere, IsWrittenIn, Moment, No, after}

-- The piece is a line that passes each test, and leads so to the next moment.
pub record PassesLine (x : Case) (number : ℕ) (at : Moment) (piece : List ℕ) (next : Moment) : Type 0 where
  pub line : LogLine
  pub of_play : IsOfPlay number piece line
  pub order : OrderValue
  pub allowed : IsNext x at (line.said).act order
  pub there : IsThere x at (line.said).act
  pub world : World
  pub answered : Answers x at line world
  pub written : IsWrittenIn x world
  pub next_is : next ≡ after at line x order world

-- The piece passes the tests before the one of that why, and not that one: it goes on to no moment.
abbrev pub StopsAt : Case → ℕ → Moment → List ℕ → AuditWhy → Type 0
StopsAt x number at piece why = AtPiece false x number at piece [] (No number why) (λ next. ⊥)
