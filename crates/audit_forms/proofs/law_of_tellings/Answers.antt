use Rattle.audit_forms.proofs.Telling.{all_told}
use Rattle.audit_forms.proofs.law_of_tellings.Goals as goal

pub returns : goal.returns
returns c = all_told
