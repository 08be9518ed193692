use Rattle.audit_lines.specs.Lines.{pieces_of}
use Rattle.audit_forms.specs.Whole.{case_of, start_at}
use Rattle.run_audit.proofs.EveryText.{some_verdict}
use Rattle.run_audit.proofs.laws.law_of_every_text.Goals as goal

pub returns : goal.returns
returns c = λ outside plan opening text none. some_verdict (case_of outside plan opening) 1 (start_at plan opening) (pieces_of text) none
