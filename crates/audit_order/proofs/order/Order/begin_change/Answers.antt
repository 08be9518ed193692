use Rattle.std.proofs.Common.{refl}
use Rattle.audit_order.proofs.order.Order.begin_change.Goals as goal

pub returns-in_default-clause-no : goal.returns-in_default-clause-no
returns-in_default-clause-no c = λ no. (refl, λ next H. c.in_default.ensures.none H.source H.may)
