use Rattle.std.proofs.Common.{◌≡◌, ℕ, Bool, Some, None, is_some, Ok, Err, MatchOption, ◌∙◌, subst}
use Rattle.omx_types.specs.declared.error.OmxError.TheVariants as errors
use Rattle.il_machine.specs.declared.header.HeaderState.{HeaderState}
use Rattle.il_machine.specs.World.{Component, port_of, with_component}
use Rattle.il_machine.specs.Look.{look}
use Rattle.il_machine.specs.Due.{ClosesTo}
use Rattle.il_machine.specs.Answers.{Answers}
use Rattle.il_machine.specs.Buffers.{AtState, AtPort, free_buffer_refusal, without_header, unpopulated}
use Rattle.header_core.specs.BufferHeader.{is_clients}
use Rattle.graph_core.specs.Changes.{IsHandedIn}
use Rattle.graph_core.specs.Entries.{look_of, component_at, kept}
use Rattle.il_graph.proofs.Calling.{Found, found, not_found}
use Rattle.il_graph.proofs.Handing.{there_is_one, goes_back, and_true, changed_on, refused_with, done_with}
use Rattle.il_graph.proofs.HandedIn.{freed_in, freed_over, others_same}
use Rattle.il_graph.proofs.Whole.{whole_over, files_over, is_whole_over}
use Rattle.il_machine.specs.Acts as acts
use Rattle.il_graph.proofs.HandedIn.{client_there}
use Rattle.il_graph.proofs.HandedIn.{with_client_then}
use Rattle.il_machine.specs.Run.{Step}
use Rattle.stock_laws.specs.Bare.{StepsBare}
use Rattle.il_graph.proofs.graph.Graph.free_buffer.Given.{Over}
use Rattle.il_graph.proofs.graph.Graph.free_buffer.Goals.{After-given_back}
use Rattle.il_graph.proofs.graph.Graph.free_buffer.Goals as goal

pub returns-in_default-clause-step : goal.returns-in_default-clause-step
returns-in_default-clause-step g c =
    let n = c.args.header.held in
    rw (← c.self.view_is) (whole_over g.C.Client.progress _ c.self.inside.core (acts.FreeBuffer c.args.h c.args.port c.args.header.held.number) (acts.Freed _) tt c.self.invariant.1 (client_there g.C.Client.progress c.self.inside.core c.args.header (rw (← c.self.view_is) at c.requires.handed)) (not_found g.C.Client.progress Bool c.self.inside.core c.args.h
    (λ w v i k. AtState n.number (look w) (λ s. Answers (free_buffer_refusal k (port_of k c.args.port) s) (Err errors.InvalidComponent) w v (λ b. AtPort (port_of k c.args.port) (λ p. (b ≡ s.client_memory) × ClosesTo (without_header n.number (with_component i (unpopulated p k) w)) v)))) c.in_default.ensures.place))

pub returns-in-Some-free_buffer_refusal-clause-step : goal.returns-in-Some-free_buffer_refusal-clause-step
returns-in-Some-free_buffer_refusal-clause-step g c =
    let p = g.C.Client.progress in
    let G = c.self.inside.core in
    let n = c.args.header.held in
    let F : Found p G c.args.h c.in-Some.place = found p G c.args.h c.in-Some.place c.in-Some.ensures.place c.in-Some.ensures.within in
    let handed : IsHandedIn c.args.header (look_of G) = rw (← c.self.view_is) at c.requires.handed in
    let x = there_is_one _ ((look_of G).headers.header n.number) handed.1 in
    let refused = subst (λ (m : ℕ). MatchOption (component_at c.in-Some.place G) ⊥ (λ k. AtState m (look_of G) (λ s. Some c.in-Some-free_buffer_refusal.error ≡ free_buffer_refusal k (port_of k c.args.port) s))) c.id.ensures c.in-Some-free_buffer_refusal.ensures in
    rw (← c.self.view_is) (whole_over g.C.Client.progress _ c.self.inside.core (acts.FreeBuffer c.args.h c.args.port c.args.header.held.number) (acts.Freed _) tt c.self.invariant.1 (client_there g.C.Client.progress c.self.inside.core c.args.header (rw (← c.self.view_is) at c.requires.handed)) (refused_with p (λ (k : Component) (s : HeaderState). free_buffer_refusal k (port_of k c.args.port) s) G c.args.h c.in-Some.place n.number x.0 c.in-Some-free_buffer_refusal.error
    (λ w v i k s (b : Bool). AtPort (port_of k c.args.port) (λ p. (b ≡ s.client_memory) × ClosesTo (without_header n.number (with_component i (unpopulated p k) w)) v)) F x.1 refused))

-- the core's step
stepped : (g : Over) (c : After-given_back g) → StepsBare (kept g.C.Client.progress c.self.inside.core) (kept g.C.Client.progress c.close_out.new.self) (λ w v. Step w (acts.FreeBuffer c.args.h c.args.port c.args.header.held.number) (acts.Freed (Ok (is_some c.given_back.result))) v)
stepped g c =
    let p = g.C.Client.progress in
    let G = c.self.inside.core in
    let n = c.args.header.held in
    let F : Found p G c.args.h c.in-Some.place = found p G c.args.h c.in-Some.place c.in-Some.ensures.place c.in-Some.ensures.within in
    let handed : IsHandedIn c.args.header (look_of G) = rw (← c.self.view_is) at c.requires.handed in
    let x = there_is_one _ ((look_of G).headers.header n.number) handed.1 in
    let allowed = subst (λ (m : ℕ). MatchOption (component_at c.in-Some.place G) ⊥ (λ k. AtState m (look_of G) (λ s. None ≡ free_buffer_refusal k (port_of k c.args.port) s))) c.id.ensures c.in_default-free_buffer_refusal.ensures in
    let step = changed_on p G c.free_buffer-memory.new.self c.close_out.new.self c.args.h c.in-Some.place c.args.port (λ k q w. without_header n.number (with_component c.in-Some.place (unpopulated q k) w)) F c.free_buffer-memory.ensures.change c.close_out.ensures.closes in
    let back : is_some c.given_back.result ≡ x.0.client_memory = goes_back (λ b. b.items) c.given_back.result c.free_buffer-memory.result (is_clients c.args.header.store) x.0.client_memory c.given_back.ensures c.free_buffer-memory.ensures.own x.2.1.memory in
    let said = and_true p G c.close_out.new.self (port_of F.component c.args.port) (is_some c.given_back.result ≡ x.0.client_memory) (λ w v q. ClosesTo (without_header n.number (with_component c.in-Some.place (unpopulated q F.component) w)) v) back step in
    done_with p (λ (k : Component) (s : HeaderState). free_buffer_refusal k (port_of k c.args.port) s) G c.close_out.new.self c.args.h c.in-Some.place n.number x.0 (is_some c.given_back.result)
    (λ w v i k s (b : Bool). AtPort (port_of k c.args.port) (λ p. (b ≡ s.client_memory) × ClosesTo (without_header n.number (with_component i (unpopulated p k) w)) v)) F x.1 allowed said

pub returns-clause-step : goal.returns-clause-step
returns-clause-step g c =
    rw (← c.self.view_is) (whole_over g.C.Client.progress _ c.close_out.new.self (acts.FreeBuffer c.args.h c.args.port c.args.header.held.number) (acts.Freed _) tt c.self.invariant.1 (client_there g.C.Client.progress c.self.inside.core c.args.header (rw (← c.self.view_is) at c.requires.handed)) (stepped g (goal.at.returns-clause-step g c).After-given_back))

pub returns-clause-clients : goal.returns-clause-clients
returns-clause-clients g c = rw (← c.self.view_is) (λ k. c.close_out.ensures.clients k ∙ c.free_buffer-memory.ensures.clients k)

pub returns-in_default-clause-held : goal.returns-in_default-clause-held
returns-in_default-clause-held g c = rw (← c.self.view_is) (others_same g.C.Client.progress c.self.inside.core c.args.header)

pub returns-in-Some-free_buffer_refusal-clause-held : goal.returns-in-Some-free_buffer_refusal-clause-held
returns-in-Some-free_buffer_refusal-clause-held g c = rw (← c.self.view_is) (others_same g.C.Client.progress c.self.inside.core c.args.header)

pub returns-clause-held : goal.returns-clause-held
returns-clause-held g c =
    let G = c.self.inside.core in
    let handed : IsHandedIn c.args.header (look_of G) = rw (← c.self.view_is) at c.requires.handed in
    rw (← c.self.view_is) (freed_over g.C.Client.progress G c.close_out.new.self c.args.h c.args.port c.args.header (Ok (is_some c.given_back.result)) handed c.law_of_worlds.ensures.one (stepped g (goal.at.returns-clause-held g c).After-given_back))

pub returns-clause-taken : goal.returns-clause-taken
returns-clause-taken g c =
    let G = c.self.inside.core in
    let handed : IsHandedIn c.args.header (look_of G) = rw (← c.self.view_is) at c.requires.handed in
    freed_in g.C.Client.progress G c.close_out.new.self c.args.h c.args.port c.args.header (is_some c.given_back.result) handed c.law_of_worlds.ensures.one (stepped g (goal.at.returns-clause-taken g c).After-given_back)

pub invariant_of-self : goal.invariant_of-self
invariant_of-self g c = (
  c.self.invariant.0,
  is_whole_over g.C.Client.progress _ c.close_out.new.self (acts.FreeBuffer c.args.h c.args.port c.args.header.held.number) (acts.Freed _) tt c.self.invariant.1 (client_there g.C.Client.progress c.self.inside.core c.args.header (rw (← c.self.view_is) at c.requires.handed)) (stepped g (goal.at.invariant_of-self g c).After-given_back) c.close_out.ensures.settled,
)

pub returns-clause-files : goal.returns-clause-files
returns-clause-files g c =
    rw (← c.self.view_is) (files_over g.C.Client.progress _ c.close_out.new.self (acts.FreeBuffer c.args.h c.args.port c.args.header.held.number) (acts.Freed _) tt c.self.invariant.1 (client_there g.C.Client.progress c.self.inside.core c.args.header (rw (← c.self.view_is) at c.requires.handed)) (stepped g (goal.at.returns-clause-files g c).After-given_back))

pub free_buffer_refusal-requires-clause-header : goal.free_buffer_refusal-requires-clause-header
free_buffer_refusal-requires-clause-header g c =
    let G = c.self.inside.core in
    let handed : IsHandedIn c.args.header (look_of G) = rw (← c.self.view_is) at c.requires.handed in
    rw c.id.ensures (with_client_then c.args.header (look_of G) handed)
