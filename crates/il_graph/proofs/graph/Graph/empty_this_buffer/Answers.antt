use Rattle.std.proofs.Common.{Err, ◌∙◌, Ok}
use Rattle.omx_types.specs.declared.error.OmxError.TheVariants as errors
use Rattle.il_machine.specs.declared.header.HeaderState.{HeaderState}
use Rattle.il_machine.specs.World.{Component, port_of}
use Rattle.il_machine.specs.Headers.{loaded}
use Rattle.il_machine.specs.Look.{look}
use Rattle.il_machine.specs.Due.{ClosesTo}
use Rattle.il_machine.specs.Answers.{Answers}
use Rattle.il_machine.specs.Buffers.{AtState, AtPort, empty_refusal, with_todo, load_in}
use Rattle.graph_core.specs.Changes.{IsHandedIn}
use Rattle.graph_core.specs.Entries.{look_of, kept}
use Rattle.il_graph.proofs.Calling.{Found, found, not_found}
use Rattle.il_graph.proofs.Handing.{there_is_one, changed_on, refused_with, done_with}
use Rattle.il_graph.proofs.HandedIn.{emptied_in, emptied_over, others_same}
use Rattle.il_graph.proofs.Whole.{whole_over, files_over, is_whole_over}
use Rattle.il_machine.specs.Acts as acts
use Rattle.il_graph.proofs.HandedIn.{client_there}
use Rattle.il_machine.specs.Run.{Step}
use Rattle.stock_laws.specs.Bare.{StepsBare}
use Rattle.il_graph.proofs.graph.Graph.empty_this_buffer.Given.{Over}
use Rattle.il_graph.proofs.graph.Graph.empty_this_buffer.Goals.{After-close_out}
use Rattle.il_graph.proofs.graph.Graph.empty_this_buffer.Goals as goal

pub returns-in_default-clause-step : goal.returns-in_default-clause-step
returns-in_default-clause-step g c =
    let n = c.args.header.held in
    rw (← c.self.view_is) (whole_over g.C.Client.progress _ c.self.inside.core (acts.EmptyThisBuffer c.args.h c.args.port c.args.header.held) (acts.Plain _) tt c.self.invariant.1 (client_there g.C.Client.progress c.self.inside.core c.args.header (rw (← c.self.view_is) at c.requires.handed)) (not_found g.C.Client.progress (Unit {0}) c.self.inside.core c.args.h
    (λ w v i k. AtState n.number (look w) (λ s. Answers (empty_refusal k (port_of k c.args.port) s n.content) (Err errors.InvalidComponent) w v (λ _. AtPort (port_of k c.args.port) (λ p. ClosesTo (with_todo p.key n.number (loaded (load_in n)) w) v)))) c.in_default.ensures.place))

pub returns-in-Some-empty_refusal-clause-step : goal.returns-in-Some-empty_refusal-clause-step
returns-in-Some-empty_refusal-clause-step g c =
    let p = g.C.Client.progress in
    let G = c.self.inside.core in
    let n = c.args.header.held in
    let F : Found p G c.args.h c.in-Some.place = found p G c.args.h c.in-Some.place c.in-Some.ensures.place c.in-Some.ensures.within in
    let handed : IsHandedIn c.args.header (look_of G) = rw (← c.self.view_is) at c.requires.handed in
    let x = there_is_one _ ((look_of G).headers.header n.number) handed.1 in
    rw (← c.self.view_is) (whole_over g.C.Client.progress _ c.self.inside.core (acts.EmptyThisBuffer c.args.h c.args.port c.args.header.held) (acts.Plain _) tt c.self.invariant.1 (client_there g.C.Client.progress c.self.inside.core c.args.header (rw (← c.self.view_is) at c.requires.handed)) (refused_with p (λ (k : Component) (s : HeaderState). empty_refusal k (port_of k c.args.port) s n.content) G c.args.h c.in-Some.place n.number x.0 c.in-Some-empty_refusal.error
    (λ w v i k s (_ : Unit {0}). AtPort (port_of k c.args.port) (λ p. ClosesTo (with_todo p.key n.number (loaded (load_in n)) w) v)) F x.1 c.in-Some-empty_refusal.ensures))

-- the core's step
stepped : (g : Over) (c : After-close_out g) → StepsBare (kept g.C.Client.progress c.self.inside.core) (kept g.C.Client.progress c.close_out.new.self) (λ w v. Step w (acts.EmptyThisBuffer c.args.h c.args.port c.args.header.held) (acts.Plain (Ok tt)) v)
stepped g c =
    let p = g.C.Client.progress in
    let G = c.self.inside.core in
    let n = c.args.header.held in
    let F : Found p G c.args.h c.in-Some.place = found p G c.args.h c.in-Some.place c.in-Some.ensures.place c.in-Some.ensures.within in
    let handed : IsHandedIn c.args.header (look_of G) = rw (← c.self.view_is) at c.requires.handed in
    let x = there_is_one _ ((look_of G).headers.header n.number) handed.1 in
    let step = changed_on p G c.take_in.new.self c.close_out.new.self c.args.h c.in-Some.place c.args.port (λ k q w. with_todo q.key n.number (loaded (load_in n)) w) F c.take_in.ensures.change c.close_out.ensures.closes in
    done_with p (λ (k : Component) (s : HeaderState). empty_refusal k (port_of k c.args.port) s n.content) G c.close_out.new.self c.args.h c.in-Some.place n.number x.0 tt
    (λ w v i k s (_ : Unit {0}). AtPort (port_of k c.args.port) (λ p. ClosesTo (with_todo p.key n.number (loaded (load_in n)) w) v)) F x.1 c.in_default-empty_refusal.ensures step

pub returns-clause-step : goal.returns-clause-step
returns-clause-step g c =
    rw (← c.self.view_is) (whole_over g.C.Client.progress _ c.close_out.new.self (acts.EmptyThisBuffer c.args.h c.args.port c.args.header.held) (acts.Plain _) tt c.self.invariant.1 (client_there g.C.Client.progress c.self.inside.core c.args.header (rw (← c.self.view_is) at c.requires.handed)) (stepped g (goal.at.returns-clause-step g c).After-close_out))

pub returns-clause-clients : goal.returns-clause-clients
returns-clause-clients g c = rw (← c.self.view_is) (λ k. c.close_out.ensures.clients k ∙ c.take_in.ensures.clients k)

pub returns-in_default-clause-held : goal.returns-in_default-clause-held
returns-in_default-clause-held g c = rw (← c.self.view_is) (others_same g.C.Client.progress c.self.inside.core c.args.header)

pub returns-in-Some-empty_refusal-clause-held : goal.returns-in-Some-empty_refusal-clause-held
returns-in-Some-empty_refusal-clause-held g c = rw (← c.self.view_is) (others_same g.C.Client.progress c.self.inside.core c.args.header)

pub returns-clause-held : goal.returns-clause-held
returns-clause-held g c =
    let G = c.self.inside.core in
    let handed : IsHandedIn c.args.header (look_of G) = rw (← c.self.view_is) at c.requires.handed in
    rw (← c.self.view_is) (emptied_over g.C.Client.progress G c.close_out.new.self c.args.h c.args.port c.args.header (Ok tt) handed c.law_of_worlds.ensures.one (stepped g (goal.at.returns-clause-held g c).After-close_out))

pub returns-clause-taken : goal.returns-clause-taken
returns-clause-taken g c =
    let G = c.self.inside.core in
    let handed : IsHandedIn c.args.header (look_of G) = rw (← c.self.view_is) at c.requires.handed in
    emptied_in g.C.Client.progress G c.close_out.new.self c.args.h c.args.port c.args.header handed c.law_of_worlds.ensures.one (stepped g (goal.at.returns-clause-taken g c).After-close_out)

pub invariant_of-self : goal.invariant_of-self
invariant_of-self g c = (
  c.self.invariant.0,
  is_whole_over g.C.Client.progress _ c.close_out.new.self (acts.EmptyThisBuffer c.args.h c.args.port c.args.header.held) (acts.Plain _) tt c.self.invariant.1 (client_there g.C.Client.progress c.self.inside.core c.args.header (rw (← c.self.view_is) at c.requires.handed)) (stepped g (goal.at.invariant_of-self g c).After-close_out) c.close_out.ensures.settled,
)

pub returns-clause-files : goal.returns-clause-files
returns-clause-files g c =
    rw (← c.self.view_is) (files_over g.C.Client.progress _ c.close_out.new.self (acts.EmptyThisBuffer c.args.h c.args.port c.args.header.held) (acts.Plain _) tt c.self.invariant.1 (client_there g.C.Client.progress c.self.inside.core c.args.header (rw (← c.self.view_is) at c.requires.handed)) (stepped g (goal.at.returns-clause-files g c).After-close_out))
