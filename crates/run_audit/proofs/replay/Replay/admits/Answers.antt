use Rattle.std.proofs.Common.{sym, ◌∙◌, subst}
use Rattle.audit_order.specs.Steps.{Admits}
use Rattle.run_audit.proofs.Lined.{none_next}
use Rattle.run_audit.proofs.replay.Replay.admits.Goals as goal

pub returns-clause-no : goal.returns-clause-no
returns-clause-no g c e next H =
    none_next c.args.self.now.plan c.args.self.now.told.items c.args.self.now.order c.args.act.now (sym c.is_asked.ensures ∙ c.if-not-is_asked.false)
    (λ n A. (c.admit.ensures.no e).1 n (subst (λ t. Admits c.args.self.now.plan t c.args.self.now.order c.args.act.now n) (sym c.as_slice.ensures.value) A)) next H
