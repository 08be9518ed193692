use Rattle.std.proofs.Common.{Err, ◌∙◌, Ok, refl}
use Rattle.omx_types.specs.declared.error.OmxError.TheVariants as errors
use Rattle.il_machine.specs.declared.answer.Acted.{Acted}
use Rattle.il_machine.specs.World.{Component, with_component}
use Rattle.il_machine.specs.Look.{look}
use Rattle.il_machine.specs.Answers.{Acts}
use Rattle.il_machine.specs.Commands.{run_idle, run_front}
use Rattle.il_graph.proofs.Calling.{Found, found, not_found, idle_at, did_at}
use Rattle.il_machine.specs.Acts as acts
use Rattle.il_graph.proofs.HandedIn.{keeps_over, keeps_same}
use Rattle.il_machine.specs.declared.answer.Acted.TheVariants as acted
use Rattle.il_graph.proofs.Whole.{whole_over, files_over, is_whole_over}
use Rattle.il_machine.specs.Run.{Step}
use Rattle.stock_laws.specs.Bare.{StepsBare}
use Rattle.graph_core.specs.Entries.{kept}
use Rattle.il_graph.proofs.graph.Graph.run_command.Given.{Over}
use Rattle.il_graph.proofs.graph.Graph.run_command.Goals.{After-close_out}
use Rattle.il_graph.proofs.graph.Graph.run_command.Goals as goal

pub returns-in_default-clause-step : goal.returns-in_default-clause-step
returns-in_default-clause-step g c = rw (← c.self.view_is) (whole_over g.C.Client.progress _ c.self.inside.core (acts.RunCommand c.args.h) (acts.Acted _) tt c.self.invariant.1 (λ w B. tt) (not_found g.C.Client.progress Acted c.self.inside.core c.args.h
    (λ w v i k. Acts (run_idle k k.commands) (Err errors.InvalidComponent) w (with_component i (run_front (look w) k.commands k) w) v) c.in_default.ensures.place))

pub returns-in-Some-run_idle-clause-step : goal.returns-in-Some-run_idle-clause-step
returns-in-Some-run_idle-clause-step g c =
    let p = g.C.Client.progress in
    let G = c.self.inside.core in
    let F : Found p G c.args.h c.in-Some.place = found p G c.args.h c.in-Some.place c.in-Some.ensures.place c.in-Some.ensures.within in
    rw (← c.self.view_is) (whole_over g.C.Client.progress _ c.self.inside.core (acts.RunCommand c.args.h) (acts.Acted _) tt c.self.invariant.1 (λ w B. tt) (idle_at p (λ (k : Component). run_idle k k.commands) G c.args.h c.in-Some.place c.in-Some-run_idle.reason (λ i k w. with_component i (run_front (look w) k.commands k) w) F c.in-Some-run_idle.ensures))

-- the core's step
stepped : (g : Over) (c : After-close_out g) → StepsBare (kept g.C.Client.progress c.self.inside.core) (kept g.C.Client.progress c.close_out.new.self) (λ w v. Step w (acts.RunCommand c.args.h) (acts.Acted (Ok acted.Did)) v)
stepped g c =
    let p = g.C.Client.progress in
    let G = c.self.inside.core in
    let F : Found p G c.args.h c.in-Some.place = found p G c.args.h c.in-Some.place c.in-Some.ensures.place c.in-Some.ensures.within in
    did_at p (λ (k : Component). run_idle k k.commands) G c.run_command.new.self c.close_out.new.self c.args.h c.in-Some.place (λ i k w. with_component i (run_front (look w) k.commands k) w) F c.in_default-run_idle.ensures c.run_command.ensures.change c.close_out.ensures.closes

pub returns-clause-step : goal.returns-clause-step
returns-clause-step g c =
    rw (← c.self.view_is) (whole_over g.C.Client.progress _ c.close_out.new.self (acts.RunCommand c.args.h) (acts.Acted _) tt c.self.invariant.1 (λ w B. tt) (stepped g (goal.at.returns-clause-step g c).After-close_out))

pub returns-clause-clients : goal.returns-clause-clients
returns-clause-clients g c = rw (← c.self.view_is) (λ k. c.close_out.ensures.clients k ∙ c.run_command.ensures.clients k)

pub returns-in_default-clause-held : goal.returns-in_default-clause-held
returns-in_default-clause-held g c = rw (← c.self.view_is) (keeps_same g.C.Client.progress c.self.inside.core)

pub returns-in-Some-run_idle-clause-held : goal.returns-in-Some-run_idle-clause-held
returns-in-Some-run_idle-clause-held g c = rw (← c.self.view_is) (keeps_same g.C.Client.progress c.self.inside.core)

pub returns-clause-held : goal.returns-clause-held
returns-clause-held g c =
    let G = c.self.inside.core in
    rw (← c.self.view_is) (keeps_over g.C.Client.progress G c.close_out.new.self (acts.RunCommand c.args.h) (acts.Acted (Ok acted.Did)) refl refl (λ w. tt) c.law_of_worlds.ensures.one (stepped g (goal.at.returns-clause-held g c).After-close_out))

pub invariant_of-self : goal.invariant_of-self
invariant_of-self g c =
    (c.self.invariant.0, is_whole_over g.C.Client.progress _ c.close_out.new.self (acts.RunCommand c.args.h) (acts.Acted _) tt c.self.invariant.1 (λ w B. tt) (stepped g (goal.at.invariant_of-self g c).After-close_out) c.close_out.ensures.settled)

pub returns-clause-files : goal.returns-clause-files
returns-clause-files g c =
    rw (← c.self.view_is) (files_over g.C.Client.progress _ c.close_out.new.self (acts.RunCommand c.args.h) (acts.Acted _) tt c.self.invariant.1 (λ w B. tt) (stepped g (goal.at.returns-clause-files g c).After-close_out))
