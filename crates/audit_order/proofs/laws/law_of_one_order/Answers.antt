use Rattle.audit_order.proofs.One.{admits_one}
use Rattle.audit_order.proofs.laws.law_of_one_order.Goals as goal

pub returns : goal.returns
returns c = admits_one
