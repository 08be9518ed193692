-- The lines of a log, of which each send, drop, setting and tunnel is the next one that a client asks for.
use Rattle.std.specs.Prelude.{◌≡◌, List, [], ◌∷◌}
use Rattle.il_machine.specs.declared.answer.Progress.{Progress}
use Rattle.play_forms.specs.Plans.{PlanValue}
use Rattle.play_log.specs.Lines.{LogLine}
use Rattle.audit_order.specs.Steps.{OrderValue, nothing_asked}
use Rattle.audit_forms.specs.Audited.{ComesNext}
use Rattle.audit_forms.specs.Told.{nothing_told, told_more}

-- from where so much was told and so much asked, to where so much is
abbrev pub AdmitsFrom : PlanValue → List Progress → OrderValue → List LogLine → OrderValue → Type 0
AdmitsFrom plan told order [] after = after ≡ order
AdmitsFrom plan told order (line ∷ lines) after =
    (next : OrderValue) × ComesNext plan told order (line.said).act next × AdmitsFrom plan (told_more line.said plan.parts told) next lines after

-- from the first line on
abbrev pub AdmitsLines : PlanValue → List LogLine → OrderValue → Type 0
AdmitsLines plan lines order = AdmitsFrom plan (nothing_told plan.parts) nothing_asked lines order
