use Rattle.std.proofs.Common.{◌≡◌, Err, None, Ok, refl, ◌∙◌}
use Rattle.omx_types.specs.declared.error.OmxError.TheVariants as errors
use Rattle.omx_types.specs.declared.error.CallError.{CallError}
use Rattle.omx_types.specs.declared.error.CallError.TheVariants.{Omx}
use Rattle.il_machine.specs.declared.answer.Acted.{Acted}
use Rattle.il_machine.specs.Look.{look}
use Rattle.il_machine.specs.Answers.{Acts}
use Rattle.il_machine.specs.Flow.{supply_idle, with_supplied}
use Rattle.graph_core.specs.Supplying.{IsSuppliable}
use Rattle.graph_core.specs.Entries.{look_of, kept}
use Rattle.il_graph.proofs.Calling.{Found, found}
use Rattle.il_graph.proofs.Acting.{HasPort, unnamed, without_port, with_port, and_port, port_there, reason_is, idle_by, did_by}
use Rattle.il_machine.specs.Acts as acts
use Rattle.il_machine.specs.declared.answer.Acted.TheVariants as acted
use Rattle.il_graph.proofs.HandedIn.{keeps_over, keeps_same}
use Rattle.il_graph.proofs.Whole.{whole_over, files_over, is_whole_over}
use Rattle.il_machine.specs.Run.{Step}
use Rattle.stock_laws.specs.Bare.{StepsBare}
use Rattle.il_graph.proofs.graph.Graph.supply.Given.{Over}
use Rattle.il_graph.proofs.graph.Graph.supply.Goals.{After-close_out}
use Rattle.il_graph.proofs.graph.Graph.supply.Goals as goal

pub returns-in_default-clause-step : goal.returns-in_default-clause-step
returns-in_default-clause-step g c =
    rw (← c.self.view_is) (whole_over g.C.Client.progress _ c.self.inside.core (acts.Supply c.args.h c.args.port) (acts.Supplied _) tt c.self.invariant.1 (λ w B. tt) (unnamed g.C.Client.progress c.self.inside.core c.args.h c.args.port Acted CallError Omx
    (λ w v i k q. Acts {E = CallError} (supply_idle (look w) k q) (Err (Omx errors.InvalidComponent)) w (with_supplied q w) v) c.in_default.ensures.place))

pub returns-then-not-has_port-clause-step : goal.returns-then-not-has_port-clause-step
returns-then-not-has_port-clause-step g c =
    let p = g.C.Client.progress in
    let G = c.self.inside.core in
    let F : Found p G c.args.h c.in-Some.place = found p G c.args.h c.in-Some.place c.in-Some.ensures.place c.in-Some.ensures.within in
    rw (← c.self.view_is) (whole_over g.C.Client.progress _ c.self.inside.core (acts.Supply c.args.h c.args.port) (acts.Supplied _) tt c.self.invariant.1 (λ w B. tt) (without_port p G c.args.h c.args.port c.in-Some.place F Acted CallError Omx
    (λ w v i k q. Acts {E = CallError} (supply_idle (look w) k q) (Err (Omx errors.BadPortIndex)) w (with_supplied q w) v) (rw c.if-not-has_port.true at c.has_port.ensures)))

pub supply_idle-requires : goal.supply_idle-requires
supply_idle-requires g c =
    let p = g.C.Client.progress in
    let G = c.self.inside.core in
    let F : Found p G c.args.h c.in-Some.place = found p G c.args.h c.in-Some.place c.in-Some.ensures.place c.in-Some.ensures.within in
    let H : HasPort p G c.args.h c.args.port c.in-Some.place F = with_port p G c.args.h c.args.port c.in-Some.place F (rw c.if-not-has_port.false at c.has_port.ensures) in
    port_there p G c.args.h c.args.port c.in-Some.place F H

pub returns-in-Some-supply_idle-clause-step : goal.returns-in-Some-supply_idle-clause-step
returns-in-Some-supply_idle-clause-step g c =
    let p = g.C.Client.progress in
    let G = c.self.inside.core in
    let F : Found p G c.args.h c.in-Some.place = found p G c.args.h c.in-Some.place c.in-Some.ensures.place c.in-Some.ensures.within in
    let H : HasPort p G c.args.h c.args.port c.in-Some.place F = with_port p G c.args.h c.args.port c.in-Some.place F (rw c.if-not-has_port.false at c.has_port.ensures) in
    rw (← c.self.view_is) (whole_over g.C.Client.progress _ c.self.inside.core (acts.Supply c.args.h c.args.port) (acts.Supplied _) tt c.self.invariant.1 (λ w B. tt) (idle_by p G c.args.h c.args.port c.in-Some.place F H (λ l k q. supply_idle l k q) (λ i k q w. with_supplied q w) c.in-Some-supply_idle.reason c.in-Some-supply_idle.ensures))

pub supply-requires : goal.supply-requires
supply-requires g c =
    let p = g.C.Client.progress in
    let G = c.self.inside.core in
    let F : Found p G c.args.h c.in-Some.place = found p G c.args.h c.in-Some.place c.in-Some.ensures.place c.in-Some.ensures.within in
    let H : HasPort p G c.args.h c.args.port c.in-Some.place F = with_port p G c.args.h c.args.port c.in-Some.place F (rw c.if-not-has_port.false at c.has_port.ensures) in
    let may : supply_idle (look_of G) F.component H.it ≡ None = reason_is p G c.args.h c.args.port c.in-Some.place F H (λ l k q. supply_idle l k q) (λ i k q w. with_supplied q w) None c.in_default-supply_idle.ensures in
    and_port p G c.args.h c.args.port c.in-Some.place F H (λ k q. IsSuppliable (look_of G) k q) (record { may = may })

-- the core's step
stepped : (g : Over) (c : After-close_out g) → StepsBare (kept g.C.Client.progress c.self.inside.core) (kept g.C.Client.progress c.close_out.new.self) (λ w v. Step w (acts.Supply c.args.h c.args.port) (acts.Supplied (Ok acted.Did)) v)
stepped g c =
    let p = g.C.Client.progress in
    let G = c.self.inside.core in
    let F : Found p G c.args.h c.in-Some.place = found p G c.args.h c.in-Some.place c.in-Some.ensures.place c.in-Some.ensures.within in
    let H : HasPort p G c.args.h c.args.port c.in-Some.place F = with_port p G c.args.h c.args.port c.in-Some.place F (rw c.if-not-has_port.false at c.has_port.ensures) in
    did_by p G c.args.h c.args.port c.in-Some.place F H (λ l k q. supply_idle l k q) (λ i k q w. with_supplied q w) c.supply.new.self c.close_out.new.self c.in_default-supply_idle.ensures c.supply.ensures.change c.close_out.ensures.closes

pub returns-clause-step : goal.returns-clause-step
returns-clause-step g c =
    rw (← c.self.view_is) (whole_over g.C.Client.progress _ c.close_out.new.self (acts.Supply c.args.h c.args.port) (acts.Supplied _) tt c.self.invariant.1 (λ w B. tt) (stepped g (goal.at.returns-clause-step g c).After-close_out))

pub returns-in_default-clause-held : goal.returns-in_default-clause-held
returns-in_default-clause-held g c = rw (← c.self.view_is) (keeps_same g.C.Client.progress c.self.inside.core)

pub returns-then-not-has_port-clause-held : goal.returns-then-not-has_port-clause-held
returns-then-not-has_port-clause-held g c = rw (← c.self.view_is) (keeps_same g.C.Client.progress c.self.inside.core)

pub returns-in-Some-supply_idle-clause-held : goal.returns-in-Some-supply_idle-clause-held
returns-in-Some-supply_idle-clause-held g c = rw (← c.self.view_is) (keeps_same g.C.Client.progress c.self.inside.core)

pub returns-clause-held : goal.returns-clause-held
returns-clause-held g c =
    let G = c.self.inside.core in
    rw (← c.self.view_is) (keeps_over g.C.Client.progress G c.close_out.new.self (acts.Supply c.args.h c.args.port) (acts.Supplied (Ok acted.Did)) refl refl (λ w. tt) c.law_of_worlds.ensures.one (stepped g (goal.at.returns-clause-held g c).After-close_out))

pub returns-clause-clients : goal.returns-clause-clients
returns-clause-clients g c = rw (← c.self.view_is) (λ k. c.close_out.ensures.clients k ∙ c.supply.ensures.clients k)

pub invariant_of-self : goal.invariant_of-self
invariant_of-self g c =
    (c.self.invariant.0, is_whole_over g.C.Client.progress _ c.close_out.new.self (acts.Supply c.args.h c.args.port) (acts.Supplied _) tt c.self.invariant.1 (λ w B. tt) (stepped g (goal.at.invariant_of-self g c).After-close_out) c.close_out.ensures.settled)

pub returns-clause-files : goal.returns-clause-files
returns-clause-files g c =
    rw (← c.self.view_is) (files_over g.C.Client.progress _ c.close_out.new.self (acts.Supply c.args.h c.args.port) (acts.Supplied _) tt c.self.invariant.1 (λ w B. tt) (stepped g (goal.at.returns-clause-files g c).After-close_out))
