use Rattle.std.proofs.Common.{inl, inr, refl, sym, subst}
use Rattle.audit_order.specs.Steps.{OrderValue}
use Rattle.audit_forms.specs.Audited.{ComesNext}
use Rattle.run_audit.specs.Leading.{has_failed}
use Rattle.run_audit.specs.Opening.{play_sight}
use Rattle.run_audit.proofs.Files.{files_fail}
use Rattle.run_audit.proofs.Trying.{files_so, stands_so}
use Rattle.run_audit.proofs.leaving.Replay+S+PlayClient.try_act.Goals as goal

pub act-passed-requires-clause-stands : goal.act-passed-requires-clause-stands
act-passed-requires-clause-stands g c =
    let q = c.requires.stands in
    (q.0, q.1, q.2, stands_so (play_sight g.S.Source) c.args.self.now c.admits.new.self c.admits.ensures.rest q.0 q.1 q.2 q.3)

pub returns-then-admits-clause-tried : goal.returns-then-admits-clause-tried
returns-then-admits-clause-tried g c = λ tells x w I. (
    let old = c.args.self.now in
    let L = c.act-passed.ensures in
    let y = L.stands tells x w (stands_so (play_sight g.S.Source) old c.admits.new.self c.admits.ensures.rest tells x w I) in
    (y.0, y.1, inr (subst (λ (o : OrderValue). ComesNext old.plan old.told.items old.order c.args.act o) (sym L.order) (c.admits.ensures.yes c.if-admits.true), y.2)))

pub returns-then-admits-clause-files : goal.returns-then-admits-clause-files
returns-then-admits-clause-files g c =
    let see = play_sight g.S.Source in
    let q = c.requires.stands in
    let mid = c.admits.new.self in
    let new = c.act-passed.new.self in
    let F = (c.act-passed.ensures).files q.0 q.1 q.2 (stands_so see c.args.self.now mid c.admits.ensures.rest q.0 q.1 q.2 q.3) in
    files_so see c.args.self.now mid c.admits.ensures.rest new (files_fail see (has_failed c.act-passed.result) mid new F)

pub returns-else-admits-clause-tried : goal.returns-else-admits-clause-tried
returns-else-admits-clause-tried g c = λ tells x w I. (
  w,
  stands_so (play_sight g.S.Source) c.args.self.now c.admits.new.self c.admits.ensures.rest tells x w I,
  inl (c.admits.ensures.no c.if-admits.false, c.admits.ensures.still c.if-admits.false, refl),
)
