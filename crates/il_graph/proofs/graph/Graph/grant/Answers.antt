use Rattle.std.proofs.Common.{◌∙◌, refl}
use Rattle.il_machine.specs.declared.answer.Granted.TheVariants as grants
use Rattle.il_machine.specs.Acts as acts
use Rattle.il_graph.proofs.Granting.{no_grant, granted}
use Rattle.il_graph.proofs.HandedIn.{keeps_over, keeps_same}
use Rattle.il_graph.proofs.Whole.{whole_over, files_over, is_whole_over}
use Rattle.il_graph.proofs.graph.Graph.grant.Goals as goal

pub returns-in-Some-clause-step : goal.returns-in-Some-clause-step
returns-in-Some-clause-step g c = rw (← c.self.view_is) (whole_over g.C.Client.progress _ c.self.inside.core acts.Grant (acts.Granted _) tt c.self.invariant.1 (λ w B. tt) (no_grant g.C.Client.progress c.self.inside.core c.in-Some.reason c.in-Some.ensures))

pub returns-clause-step : goal.returns-clause-step
returns-clause-step g c =
    rw (← c.self.view_is) (whole_over g.C.Client.progress _ c.close_out.new.self acts.Grant (acts.Granted _) tt c.self.invariant.1 (λ w B. tt) (granted g.C.Client.progress c.self.inside.core c.grant-waiter.new.self c.close_out.new.self c.grant-waiter.result c.close_out.ensures.closes c.in_default.ensures c.grant-waiter.ensures.change))

pub returns-in-Some-clause-held : goal.returns-in-Some-clause-held
returns-in-Some-clause-held g c = rw (← c.self.view_is) (keeps_same g.C.Client.progress c.self.inside.core)

pub returns-clause-held : goal.returns-clause-held
returns-clause-held g c =
    let G = c.self.inside.core in
    rw (← c.self.view_is) (keeps_over g.C.Client.progress G c.close_out.new.self acts.Grant (acts.Granted (grants.Granted c.grant-waiter.result)) refl refl (λ w. tt) c.law_of_worlds.ensures.one (granted g.C.Client.progress c.self.inside.core c.grant-waiter.new.self c.close_out.new.self c.grant-waiter.result c.close_out.ensures.closes c.in_default.ensures c.grant-waiter.ensures.change))

pub returns-clause-clients : goal.returns-clause-clients
returns-clause-clients g c = rw (← c.self.view_is) (λ k. c.close_out.ensures.clients k ∙ c.grant-waiter.ensures.clients k)

pub invariant_of-self : goal.invariant_of-self
invariant_of-self g c =
    (c.self.invariant.0, is_whole_over g.C.Client.progress _ c.close_out.new.self acts.Grant (acts.Granted _) tt c.self.invariant.1 (λ w B. tt) (granted g.C.Client.progress c.self.inside.core c.grant-waiter.new.self c.close_out.new.self c.grant-waiter.result c.close_out.ensures.closes c.in_default.ensures c.grant-waiter.ensures.change) c.close_out.ensures.settled)

pub returns-clause-files : goal.returns-clause-files
returns-clause-files g c =
    rw (← c.self.view_is) (files_over g.C.Client.progress _ c.close_out.new.self acts.Grant (acts.Granted _) tt c.self.invariant.1 (λ w B. tt) (granted g.C.Client.progress c.self.inside.core c.grant-waiter.new.self c.close_out.new.self c.grant-waiter.result c.close_out.ensures.closes c.in_default.ensures c.grant-waiter.ensures.change))
