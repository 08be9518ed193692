use Rattle.audit_order.proofs.AllAsked.{admitted, in_time}
use Rattle.audit_order.proofs.laws.law_of_order.Goals as goal

pub returns : goal.returns
returns c = record { in_time = in_time; admitted = admitted }
