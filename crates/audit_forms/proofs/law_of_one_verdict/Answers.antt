use Rattle.audit_forms.proofs.OneVerdict.{audits_one, text_one}
use Rattle.audit_forms.proofs.law_of_one_verdict.Goals as goal

pub returns : goal.returns
returns c = record { lines = audits_one; text = text_one }
