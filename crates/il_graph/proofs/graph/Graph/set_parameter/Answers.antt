use Rattle.std.proofs.Common.{Err, ◌∙◌, Ok, refl}
use Rattle.omx_types.specs.declared.error.OmxError.TheVariants as errors
use Rattle.il_machine.specs.World.{Component, with_component}
use Rattle.il_machine.specs.Look.{Look, look}
use Rattle.il_machine.specs.Due.{ClosesTo}
use Rattle.il_machine.specs.Answers.{Answers}
use Rattle.il_machine.specs.Parameters.{set_parameter_refusal, with_value}
use Rattle.il_graph.proofs.Calling.{Found, found, not_found, refused_at, accepted_at}
use Rattle.il_machine.specs.Acts as acts
use Rattle.il_graph.proofs.HandedIn.{keeps_over, keeps_same}
use Rattle.il_graph.proofs.Whole.{whole_over, files_over, is_whole_over}
use Rattle.il_machine.specs.Run.{Step}
use Rattle.stock_laws.specs.Bare.{StepsBare}
use Rattle.graph_core.specs.Entries.{kept}
use Rattle.il_graph.proofs.graph.Graph.set_parameter.Given.{Over}
use Rattle.il_graph.proofs.graph.Graph.set_parameter.Goals.{After-close_out}
use Rattle.il_graph.proofs.graph.Graph.set_parameter.Goals as goal

pub returns-in_default-clause-step : goal.returns-in_default-clause-step
returns-in_default-clause-step g c = rw (← c.self.view_is) (whole_over g.C.Client.progress _ c.self.inside.core (acts.SetParameter c.args.h c.args.key c.args.value) (acts.Plain _) tt c.self.invariant.1 (λ w B. tt) (not_found g.C.Client.progress (Unit {0}) c.self.inside.core c.args.h (λ w v i k. Answers (set_parameter_refusal (look w).headers k c.args.key c.args.value) (Err errors.InvalidComponent) w v (λ _. ClosesTo (with_component i (with_value c.args.key c.args.value k) w) v)) c.in_default.ensures.place))

pub returns-in-Some-set_parameter_refusal-clause-step : goal.returns-in-Some-set_parameter_refusal-clause-step
returns-in-Some-set_parameter_refusal-clause-step g c =
    let p = g.C.Client.progress in
    let G = c.self.inside.core in
    let F : Found p G c.args.h c.in-Some.place = found p G c.args.h c.in-Some.place c.in-Some.ensures.place c.in-Some.ensures.within in
    rw (← c.self.view_is) (whole_over g.C.Client.progress _ c.self.inside.core (acts.SetParameter c.args.h c.args.key c.args.value) (acts.Plain _) tt c.self.invariant.1 (λ w B. tt) (refused_at p (λ (l : Look) (k : Component). set_parameter_refusal l.headers k c.args.key c.args.value) G c.args.h c.in-Some.place c.in-Some-set_parameter_refusal.error (λ w v i k (_ : (Unit {0})). ClosesTo (with_component i (with_value c.args.key c.args.value k) w) v) F c.in-Some-set_parameter_refusal.ensures))

-- the core's step
stepped : (g : Over) (c : After-close_out g) → StepsBare (kept g.C.Client.progress c.self.inside.core) (kept g.C.Client.progress c.close_out.new.self) (λ w v. Step w (acts.SetParameter c.args.h c.args.key c.args.value) (acts.Plain (Ok tt)) v)
stepped g c =
    let p = g.C.Client.progress in
    let G = c.self.inside.core in
    let F : Found p G c.args.h c.in-Some.place = found p G c.args.h c.in-Some.place c.in-Some.ensures.place c.in-Some.ensures.within in
    accepted_at p (λ (l : Look) (k : Component). set_parameter_refusal l.headers k c.args.key c.args.value) G c.set_value.new.self c.close_out.new.self c.args.h c.in-Some.place tt (λ i k w. with_component i (with_value c.args.key c.args.value k) w) F c.in_default-set_parameter_refusal.ensures c.set_value.ensures.set c.close_out.ensures.closes

pub returns-clause-step : goal.returns-clause-step
returns-clause-step g c =
    rw (← c.self.view_is) (whole_over g.C.Client.progress _ c.close_out.new.self (acts.SetParameter c.args.h c.args.key c.args.value) (acts.Plain _) tt c.self.invariant.1 (λ w B. tt) (stepped g (goal.at.returns-clause-step g c).After-close_out))

pub returns-clause-clients : goal.returns-clause-clients
returns-clause-clients g c = rw (← c.self.view_is) (λ k. c.close_out.ensures.clients k ∙ c.set_value.ensures.clients k)

pub returns-in_default-clause-held : goal.returns-in_default-clause-held
returns-in_default-clause-held g c = rw (← c.self.view_is) (keeps_same g.C.Client.progress c.self.inside.core)

pub returns-in-Some-set_parameter_refusal-clause-held : goal.returns-in-Some-set_parameter_refusal-clause-held
returns-in-Some-set_parameter_refusal-clause-held g c = rw (← c.self.view_is) (keeps_same g.C.Client.progress c.self.inside.core)

pub returns-clause-held : goal.returns-clause-held
returns-clause-held g c =
    let G = c.self.inside.core in
    rw (← c.self.view_is) (keeps_over g.C.Client.progress G c.close_out.new.self (acts.SetParameter c.args.h c.args.key c.args.value) (acts.Plain (Ok tt)) refl refl (λ w. tt) c.law_of_worlds.ensures.one (stepped g (goal.at.returns-clause-held g c).After-close_out))

pub invariant_of-self : goal.invariant_of-self
invariant_of-self g c =
    (c.self.invariant.0, is_whole_over g.C.Client.progress _ c.close_out.new.self (acts.SetParameter c.args.h c.args.key c.args.value) (acts.Plain _) tt c.self.invariant.1 (λ w B. tt) (stepped g (goal.at.invariant_of-self g c).After-close_out) c.close_out.ensures.settled)

pub returns-clause-files : goal.returns-clause-files
returns-clause-files g c =
    rw (← c.self.view_is) (files_over g.C.Client.progress _ c.close_out.new.self (acts.SetParameter c.args.h c.args.key c.args.value) (acts.Plain _) tt c.self.invariant.1 (λ w B. tt) (stepped g (goal.at.returns-clause-files g c).After-close_out))
