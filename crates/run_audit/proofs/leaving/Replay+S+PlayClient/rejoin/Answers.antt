use Rattle.std.proofs.Common.{Option, refl, sym, ◌∙◌, ap, subst}
use Rattle.audit_order.specs.declared.ends.LinkEnds.{LinkEnds}
use Rattle.audit_order.specs.Asked.{change_act}
use Rattle.run_audit.specs.Leaving.{AreTried, rejoining}
use Rattle.run_audit.specs.Opening.{play_sight}
use Rattle.run_audit.proofs.Files.{files_join}
use Rattle.run_audit.proofs.Trying.{tried_so}
use Rattle.run_audit.proofs.leaving.Replay+S+PlayClient.rejoin.Goals as goal

pub try_act-requires-2-clause-stands : goal.try_act-requires-2-clause-stands
try_act-requires-2-clause-stands g c =
    let q = c.requires.stands in
    let a = c.try_act.ensures.tried q.0 q.1 q.2 q.3 in
    (q.0, q.1, a.0, a.1)

pub try_act-requires-3-clause-stands : goal.try_act-requires-3-clause-stands
try_act-requires-3-clause-stands g c =
    let q = c.requires.stands in
    let a = c.try_act.ensures.tried q.0 q.1 q.2 q.3 in
    let b = c.try_act-2.ensures.tried q.0 q.1 a.0 a.1 in
    (q.0, q.1, b.0, b.1)

pub returns-clause-tried : goal.returns-clause-tried
returns-clause-tried g c = λ tells x w I. (
    let old = c.args.self.now in
    let one = c.try_act.new.self in
    let two = c.try_act-2.new.self in
    let new = c.try_act-3.new.self in
    let a = c.try_act.ensures.tried tells x w I in
    let b = c.try_act-2.ensures.tried tells x a.0 a.1 in
    let d = c.try_act-3.ensures.tried tells x b.0 b.1 in
    let E : LinkEnds = c.in-Some.ends in
    let plan2 = c.try_act.ensures.plan in
    let plan3 = c.try_act-2.ensures.plan ∙ plan2 in
    let told2 = ap (λ t. t.items) c.try_act.ensures.told in
    let told3 = ap (λ t. t.items) c.try_act-2.ensures.told ∙ told2 in
    let first = tried_so old.plan old.plan old.told.items old.told.items x c.set_port.result (change_act E 3) old.order w one.order a.0 refl refl c.set_port.ensures a.2 in
    let second = tried_so one.plan old.plan one.told.items old.told.items x c.set_port-2.result (change_act E 4) one.order a.0 two.order b.0 plan2 told2 c.set_port-2.ensures b.2 in
    let third = tried_so two.plan old.plan two.told.items old.told.items x (change_act E 5) (change_act E 5) two.order b.0 new.order d.0 plan3 told3 refl d.2 in (
      d.0,
      d.1,
      subst (λ (o : Option LinkEnds). AreTried old.plan old.told.items x (rejoining o) old.order w new.order d.0) (sym (sym c.at.ensures ∙ c.in-Some.is))
          (one.order, a.0, first, (two.order, b.0, second, (new.order, d.0, third, (refl, refl)))),
    ))

pub returns-clause-files : goal.returns-clause-files
returns-clause-files g c =
    let see = play_sight g.S.Source in
    files_join see c.args.self.now c.try_act-2.new.self c.try_act-3.new.self
    (files_join see c.args.self.now c.try_act.new.self c.try_act-2.new.self c.try_act.ensures.files c.try_act-2.ensures.files)
    c.try_act-3.ensures.files
