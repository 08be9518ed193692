use Rattle.std.proofs.Common.{◌≡◌, ℕ, sym, ◌∙◌, subst, length, true, Some, None, Ok, Err, MatchOption, ap, refl}
use Rattle.omx_types.specs.declared.error.OmxError.TheVariants as errors
use Rattle.il_machine.specs.World.{Component, port_of}
use Rattle.il_machine.specs.Headers.{empty_load}
use Rattle.il_machine.specs.Look.{Look, look}
use Rattle.il_machine.specs.Due.{ClosesTo}
use Rattle.il_machine.specs.Answers.{Answers}
use Rattle.il_machine.specs.Buffers.{AtPort, Held, use_refusal, client_header, with_header, held_of}
use Rattle.graph_core.specs.Entries.{look_of, component_at, kept}
use Rattle.il_graph.proofs.Calling.{Found, found, not_found, refused_at}
use Rattle.il_graph.proofs.Handing.{clients_of, changed_on, and_said, made_header, done_at}
use Rattle.il_machine.specs.Acts as acts
use Rattle.il_graph.proofs.HandedIn.{stays_over, stays_same, made_key, used_out}
use Rattle.il_graph.proofs.Whole.{whole_over, files_over, is_whole_over}
use Rattle.il_graph.proofs.Makable.{may_use}
use Rattle.il_machine.specs.Run.{Step}
use Rattle.stock_laws.specs.Bare.{StepsBare}
use Rattle.il_graph.proofs.graph.Graph.use_buffer.Given.{Over}
use Rattle.il_graph.proofs.graph.Graph.use_buffer.Goals.{After-close_out}
use Rattle.il_graph.proofs.graph.Graph.use_buffer.Goals as goal

pub returns-in_default-clause-step : goal.returns-in_default-clause-step
returns-in_default-clause-step g c =
    rw (← c.self.view_is) (whole_over g.C.Client.progress _ c.self.inside.core (acts.UseBuffer c.args.h c.args.port c.args.bytes.items) (acts.Used _) tt c.self.invariant.1 (λ w B. tt) (not_found g.C.Client.progress Held c.self.inside.core c.args.h
    (λ w v i k. Answers (use_refusal (look w) k (port_of k c.args.port) (length c.args.bytes.items)) (Err errors.InvalidComponent) w v (λ x. AtPort (port_of k c.args.port) (λ q. (x ≡ held_of (client_header w.made q true) (empty_load (Some c.args.bytes.items))) × ClosesTo (with_header (client_header w.made q true) (Some c.args.bytes.items) w) v))) c.in_default.ensures.place))

pub returns-in-Some-use_refusal-clause-step : goal.returns-in-Some-use_refusal-clause-step
returns-in-Some-use_refusal-clause-step g c =
    let p = g.C.Client.progress in
    let G = c.self.inside.core in
    let F : Found p G c.args.h c.in-Some.place = found p G c.args.h c.in-Some.place c.in-Some.ensures.place c.in-Some.ensures.within in
    let long : c.len.result ≡ length c.args.bytes.items = c.len.ensures ∙ c.args.bytes.ok.0 in
    let refused = subst (λ (m : ℕ). MatchOption (component_at c.in-Some.place G) ⊥ (λ k. Some c.in-Some-use_refusal.error ≡ use_refusal (look_of G) k (port_of k c.args.port) m)) long c.in-Some-use_refusal.ensures in
    rw (← c.self.view_is) (whole_over g.C.Client.progress _ c.self.inside.core (acts.UseBuffer c.args.h c.args.port c.args.bytes.items) (acts.Used _) tt c.self.invariant.1 (λ w B. tt) (refused_at p (λ (l : Look) (k : Component). use_refusal l k (port_of k c.args.port) (length c.args.bytes.items)) G c.args.h c.in-Some.place c.in-Some-use_refusal.error
    (λ w v i k (x : Held). AtPort (port_of k c.args.port) (λ q. (x ≡ held_of (client_header w.made q true) (empty_load (Some c.args.bytes.items))) × ClosesTo (with_header (client_header w.made q true) (Some c.args.bytes.items) w) v)) F refused))

-- the core's step
stepped : (g : Over) (c : After-close_out g) → StepsBare (kept g.C.Client.progress c.self.inside.core) (kept g.C.Client.progress c.close_out.new.self) (λ w v. Step w (acts.UseBuffer c.args.h c.args.port c.args.bytes.items) (acts.Used (Ok c.make_header-header.result.held)) v)
stepped g c =
    let p = g.C.Client.progress in
    let G = c.self.inside.core in
    let F : Found p G c.args.h c.in-Some.place = found p G c.args.h c.in-Some.place c.in-Some.ensures.place c.in-Some.ensures.within in
    let long : c.len.result ≡ length c.args.bytes.items = c.len.ensures ∙ c.args.bytes.ok.0 in
    let allowed = subst (λ (m : ℕ). MatchOption (component_at c.in-Some.place G) ⊥ (λ k. None ≡ use_refusal (look_of G) k (port_of k c.args.port) m)) long c.in_default-use_refusal.ensures in
    let change = rw c.new.ensures at c.make_header-header.ensures.change in
    let made = c.make_header-header.ensures.header in
    let memory = rw c.new.ensures at c.make_header-header.ensures.memory in
    let step = changed_on p G c.make_header-header.new.self c.close_out.new.self c.args.h c.in-Some.place c.args.port (λ k q w. with_header (client_header w.made q true) (Some c.args.bytes.items) w) F change c.close_out.ensures.closes in
    let said = and_said p G c.close_out.new.self (port_of F.component c.args.port) (λ w q. c.make_header-header.result.held ≡ held_of (client_header w.made q true) (empty_load (Some c.args.bytes.items))) (λ w v q. ClosesTo (with_header (client_header w.made q true) (Some c.args.bytes.items) w) v)
    (made_header p G c.args.h c.in-Some.place c.args.port c.make_header-header.result (Some c.args.bytes.items) true F memory made) step in
    done_at p (λ (l : Look) (k : Component). use_refusal l k (port_of k c.args.port) (length c.args.bytes.items)) G c.close_out.new.self c.args.h c.in-Some.place c.make_header-header.result.held
    (λ w v i k (x : Held). AtPort (port_of k c.args.port) (λ q. (x ≡ held_of (client_header w.made q true) (empty_load (Some c.args.bytes.items))) × ClosesTo (with_header (client_header w.made q true) (Some c.args.bytes.items) w) v)) F allowed said

pub returns-clause-step : goal.returns-clause-step
returns-clause-step g c =
    rw (← c.self.view_is) (whole_over g.C.Client.progress _ c.close_out.new.self (acts.UseBuffer c.args.h c.args.port c.args.bytes.items) (acts.Used _) tt c.self.invariant.1 (λ w B. tt) (stepped g (goal.at.returns-clause-step g c).After-close_out))

pub returns-clause-clients : goal.returns-clause-clients
returns-clause-clients g c = rw (← c.self.view_is) (λ k. c.close_out.ensures.clients k ∙ c.make_header-header.ensures.clients k)

pub returns-in_default-clause-held : goal.returns-in_default-clause-held
returns-in_default-clause-held g c = rw (← c.self.view_is) (stays_same g.C.Client.progress c.self.inside.core)

pub returns-in-Some-use_refusal-clause-held : goal.returns-in-Some-use_refusal-clause-held
returns-in-Some-use_refusal-clause-held g c = rw (← c.self.view_is) (stays_same g.C.Client.progress c.self.inside.core)

pub returns-clause-held : goal.returns-clause-held
returns-clause-held g c =
    let G = c.self.inside.core in
    rw (← c.self.view_is) (stays_over g.C.Client.progress G c.close_out.new.self (acts.UseBuffer c.args.h c.args.port c.args.bytes.items) (acts.Used (Ok c.make_header-header.result.held)) refl (λ w. tt) c.law_of_worlds.ensures.one (stepped g (goal.at.returns-clause-held g c).After-close_out))

pub returns-clause-handed : goal.returns-clause-handed
returns-clause-handed g c =
    let p = g.C.Client.progress in
    let G = c.self.inside.core in
    let F : Found p G c.args.h c.in-Some.place = found p G c.args.h c.in-Some.place c.in-Some.ensures.place c.in-Some.ensures.within in
    let clients = clients_of c.make_header-header.result.store (Some c.new.result) c.make_header-header.ensures.memory in
    let own = made_key p G c.args.h c.in-Some.place c.args.port c.make_header-header.result F c.make_header-header.ensures.header in
    rw (← c.self.view_is) (used_out p G c.close_out.new.self c.args.h c.args.port c.args.bytes.items c.make_header-header.result own clients c.law_of_worlds.ensures.one (stepped g (goal.at.returns-clause-handed g c).After-close_out))

pub invariant_of-self : goal.invariant_of-self
invariant_of-self g c = (
  c.self.invariant.0,
  is_whole_over g.C.Client.progress _ c.close_out.new.self (acts.UseBuffer c.args.h c.args.port c.args.bytes.items) (acts.Used _) tt c.self.invariant.1 (λ w B. tt) (stepped g (goal.at.invariant_of-self g c).After-close_out) c.close_out.ensures.settled,
)

pub returns-clause-files : goal.returns-clause-files
returns-clause-files g c =
    rw (← c.self.view_is) (files_over g.C.Client.progress _ c.close_out.new.self (acts.UseBuffer c.args.h c.args.port c.args.bytes.items) (acts.Used _) tt c.self.invariant.1 (λ w B. tt) (stepped g (goal.at.returns-clause-files g c).After-close_out))

pub make_header-header-requires : goal.make_header-header-requires
make_header-header-requires g c =
    let p = g.C.Client.progress in
    let G = c.self.inside.core in
    let F : Found p G c.args.h c.in-Some.place = found p G c.args.h c.in-Some.place c.in-Some.ensures.place c.in-Some.ensures.within in
    let n : c.len.result ≡ length c.new.result = c.len.ensures ∙ (c.args.bytes.ok.0 ∙ sym (ap length c.new.ensures)) in
    may_use p G c.args.h c.in-Some.place F c.args.port c.new.result
    (subst (λ (m : ℕ). MatchOption (component_at c.in-Some.place G) ⊥ (λ k. None ≡ use_refusal (look_of G) k (port_of k c.args.port) m)) n c.in_default-use_refusal.ensures)
