use Rattle.std.proofs.Common.{ℕ, Err, Ok, refl, ◌∙◌}
use Rattle.omx_types.specs.declared.error.OmxError.{OmxError}
use Rattle.omx_types.specs.declared.error.OmxError.TheVariants as errors
use Rattle.il_machine.specs.declared.answer.Acted.{Acted}
use Rattle.il_machine.specs.declared.port.Port.{Port}
use Rattle.il_machine.specs.World.{Component, World}
use Rattle.il_machine.specs.Look.{look}
use Rattle.il_machine.specs.Flow.{back_idle, handed_back}
use Rattle.il_machine.specs.Answers.{plain, Acts}
use Rattle.graph_core.specs.Entries.{kept}
use Rattle.il_graph.proofs.Calling.{Found, found}
use Rattle.il_graph.proofs.Acting.{HasPort, unnamed, without_port, with_port, port_there, idle_on, did_on}
use Rattle.il_machine.specs.Acts as acts
use Rattle.il_machine.specs.declared.answer.Acted.TheVariants as acted
use Rattle.il_graph.proofs.HandedIn.{keeps_over, keeps_same}
use Rattle.il_graph.proofs.Whole.{whole_over, files_over, is_whole_over}
use Rattle.il_machine.specs.Run.{Step}
use Rattle.stock_laws.specs.Bare.{StepsBare}
use Rattle.il_graph.proofs.graph.Graph.hand_back.Given.{Over}
use Rattle.il_graph.proofs.graph.Graph.hand_back.Goals.{After-close_out}
use Rattle.il_graph.proofs.graph.Graph.hand_back.Goals as goal

pub returns-in_default-clause-step : goal.returns-in_default-clause-step
returns-in_default-clause-step g c = rw (← c.self.view_is) (whole_over g.C.Client.progress _ c.self.inside.core (acts.HandBack c.args.h c.args.port) (acts.Acted _) tt c.self.invariant.1 (λ w B. tt) (unnamed g.C.Client.progress c.self.inside.core c.args.h c.args.port Acted OmxError plain
    (λ w v i k q. Acts (back_idle (look w) k q) (Err errors.InvalidComponent) w (handed_back i k q q.state.link w) v) c.in_default.ensures.place))

pub returns-then-not-has_port-clause-step : goal.returns-then-not-has_port-clause-step
returns-then-not-has_port-clause-step g c =
    let p = g.C.Client.progress in
    let G = c.self.inside.core in
    let F : Found p G c.args.h c.in-Some.place = found p G c.args.h c.in-Some.place c.in-Some.ensures.place c.in-Some.ensures.within in
    rw (← c.self.view_is) (whole_over g.C.Client.progress _ c.self.inside.core (acts.HandBack c.args.h c.args.port) (acts.Acted _) tt c.self.invariant.1 (λ w B. tt) (without_port p G c.args.h c.args.port c.in-Some.place F Acted OmxError plain
    (λ w v i k q. Acts (back_idle (look w) k q) (Err errors.BadPortIndex) w (handed_back i k q q.state.link w) v) (rw c.if-not-has_port.true at c.has_port.ensures)))

pub back_idle-requires : goal.back_idle-requires
back_idle-requires g c =
    let p = g.C.Client.progress in
    let G = c.self.inside.core in
    let F : Found p G c.args.h c.in-Some.place = found p G c.args.h c.in-Some.place c.in-Some.ensures.place c.in-Some.ensures.within in
    let H : HasPort p G c.args.h c.args.port c.in-Some.place F = with_port p G c.args.h c.args.port c.in-Some.place F (rw c.if-not-has_port.false at c.has_port.ensures) in
    port_there p G c.args.h c.args.port c.in-Some.place F H

pub returns-in-Some-back_idle-clause-step : goal.returns-in-Some-back_idle-clause-step
returns-in-Some-back_idle-clause-step g c =
    let p = g.C.Client.progress in
    let G = c.self.inside.core in
    let F : Found p G c.args.h c.in-Some.place = found p G c.args.h c.in-Some.place c.in-Some.ensures.place c.in-Some.ensures.within in
    let H : HasPort p G c.args.h c.args.port c.in-Some.place F = with_port p G c.args.h c.args.port c.in-Some.place F (rw c.if-not-has_port.false at c.has_port.ensures) in
    rw (← c.self.view_is) (whole_over g.C.Client.progress _ c.self.inside.core (acts.HandBack c.args.h c.args.port) (acts.Acted _) tt c.self.invariant.1 (λ w B. tt) (idle_on p G c.args.h c.args.port c.in-Some.place F H back_idle (λ (i : ℕ) (k : Component) (q : Port) (w : World). handed_back i k q q.state.link w) c.in-Some-back_idle.reason c.in-Some-back_idle.ensures))

pub hand_back-requires : goal.hand_back-requires
hand_back-requires g c =
    let p = g.C.Client.progress in
    let G = c.self.inside.core in
    let F : Found p G c.args.h c.in-Some.place = found p G c.args.h c.in-Some.place c.in-Some.ensures.place c.in-Some.ensures.within in
    let H : HasPort p G c.args.h c.args.port c.in-Some.place F = with_port p G c.args.h c.args.port c.in-Some.place F (rw c.if-not-has_port.false at c.has_port.ensures) in
    port_there p G c.args.h c.args.port c.in-Some.place F H

-- the core's step
stepped : (g : Over) (c : After-close_out g) → StepsBare (kept g.C.Client.progress c.self.inside.core) (kept g.C.Client.progress c.close_out.new.self) (λ w v. Step w (acts.HandBack c.args.h c.args.port) (acts.Acted (Ok acted.Did)) v)
stepped g c =
    let p = g.C.Client.progress in
    let G = c.self.inside.core in
    let F : Found p G c.args.h c.in-Some.place = found p G c.args.h c.in-Some.place c.in-Some.ensures.place c.in-Some.ensures.within in
    let H : HasPort p G c.args.h c.args.port c.in-Some.place F = with_port p G c.args.h c.args.port c.in-Some.place F (rw c.if-not-has_port.false at c.has_port.ensures) in
    did_on p G c.args.h c.args.port c.in-Some.place F H back_idle (λ (i : ℕ) (k : Component) (q : Port) (w : World). handed_back i k q q.state.link w) c.hand_back.new.self c.close_out.new.self c.in_default-back_idle.ensures c.hand_back.ensures.change c.close_out.ensures.closes

pub returns-clause-step : goal.returns-clause-step
returns-clause-step g c =
    rw (← c.self.view_is) (whole_over g.C.Client.progress _ c.close_out.new.self (acts.HandBack c.args.h c.args.port) (acts.Acted _) tt c.self.invariant.1 (λ w B. tt) (stepped g (goal.at.returns-clause-step g c).After-close_out))

pub returns-in_default-clause-held : goal.returns-in_default-clause-held
returns-in_default-clause-held g c = rw (← c.self.view_is) (keeps_same g.C.Client.progress c.self.inside.core)

pub returns-then-not-has_port-clause-held : goal.returns-then-not-has_port-clause-held
returns-then-not-has_port-clause-held g c = rw (← c.self.view_is) (keeps_same g.C.Client.progress c.self.inside.core)

pub returns-in-Some-back_idle-clause-held : goal.returns-in-Some-back_idle-clause-held
returns-in-Some-back_idle-clause-held g c = rw (← c.self.view_is) (keeps_same g.C.Client.progress c.self.inside.core)

pub returns-clause-held : goal.returns-clause-held
returns-clause-held g c =
    let G = c.self.inside.core in
    rw (← c.self.view_is) (keeps_over g.C.Client.progress G c.close_out.new.self (acts.HandBack c.args.h c.args.port) (acts.Acted (Ok acted.Did)) refl refl (λ w. tt) c.law_of_worlds.ensures.one (stepped g (goal.at.returns-clause-held g c).After-close_out))

pub returns-clause-clients : goal.returns-clause-clients
returns-clause-clients g c = rw (← c.self.view_is) (λ k. c.close_out.ensures.clients k ∙ c.hand_back.ensures.clients k)

pub invariant_of-self : goal.invariant_of-self
invariant_of-self g c =
    (c.self.invariant.0, is_whole_over g.C.Client.progress _ c.close_out.new.self (acts.HandBack c.args.h c.args.port) (acts.Acted _) tt c.self.invariant.1 (λ w B. tt) (stepped g (goal.at.invariant_of-self g c).After-close_out) c.close_out.ensures.settled)

pub returns-clause-files : goal.returns-clause-files
returns-clause-files g c =
    rw (← c.self.view_is) (files_over g.C.Client.progress _ c.close_out.new.self (acts.HandBack c.args.h c.args.port) (acts.Acted _) tt c.self.invariant.1 (λ w B. tt) (stepped g (goal.at.returns-clause-files g c).After-close_out))
