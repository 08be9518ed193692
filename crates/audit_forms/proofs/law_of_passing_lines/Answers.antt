use Rattle.audit_forms.proofs.Passing.{passes_on, stops_there}
use Rattle.audit_forms.proofs.law_of_passing_lines.Goals as goal

pub returns : goal.returns
returns c = record {
  goes_on = λ case number at next piece pieces verdict e P A. passes_on case number at next piece pieces verdict e P A;
  stops = λ case number at piece pieces why e A. stops_there case number at piece pieces why e A;
}
