use Rattle.audit_order.specs.Steps.{nothing_asked}
use Rattle.audit_forms.specs.Told.{nothing_told}
use Rattle.audit_laws.proofs.Walking.{admits_on, admitted, requested}
use Rattle.audit_laws.proofs.admitted.law_of_admitted_lines.Goals as goal

pub returns : goal.returns
returns c = record {
  goes_on = λ plan lines line order next A C. admits_on plan (nothing_told plan.parts) nothing_asked lines line order next A C;
  requested = λ plan files handles world ready stage own lines entries after order N A. requested plan files handles world ready stage own lines entries after order N A;
  admitted = λ plan files handles world ready stage own lines entries after N C. admitted plan files handles world ready stage own lines entries after N C;
}
