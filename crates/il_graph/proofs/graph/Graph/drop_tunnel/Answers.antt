use Rattle.std.proofs.Common.{◌≡◌, ℕ, Option, Err, ◌∙◌, Ok, refl}
use Rattle.omx_types.specs.declared.error.OmxError.{OmxError}
use Rattle.omx_types.specs.declared.error.OmxError.TheVariants as errors
use Rattle.il_machine.specs.World.{Component, World, port_of}
use Rattle.il_machine.specs.Look.{Look, look}
use Rattle.il_machine.specs.Due.{ClosesTo}
use Rattle.il_machine.specs.Answers.{plain, Resolving, Answers}
use Rattle.il_machine.specs.Tunnels.{drop_refusal, both_parted, BothPorts}
use Rattle.stock_laws.specs.Bare.{StepsBare}
use Rattle.graph_core.specs.Entries.{kept}
use Rattle.il_graph.proofs.Calling.{Found, found, not_found}
use Rattle.il_graph.proofs.Tunnelling.{both_end, at_both, other_not_found, refused_at_both, accepted_at_both}
use Rattle.il_machine.specs.Acts as acts
use Rattle.il_graph.proofs.HandedIn.{keeps_over, keeps_same}
use Rattle.il_graph.proofs.Whole.{whole_over, files_over, is_whole_over}
use Rattle.il_machine.specs.Run.{Step}
use Rattle.il_graph.proofs.graph.Graph.drop_tunnel.Given.{Over}
use Rattle.il_graph.proofs.graph.Graph.drop_tunnel.Goals.{After-close_out}
use Rattle.il_graph.proofs.graph.Graph.drop_tunnel.Goals as goal

-- why the output of the first component isn't parted from the input of the second
abbrev refusal : ℕ → ℕ → Look → Component → Component → Option OmxError
refusal output input l k d = drop_refusal l.headers (port_of k output) (port_of d input)

-- what the accepted call does
abbrev Parted : ℕ → ℕ → World → World → ℕ → Component → ℕ → Component → Unit {0} → Type 0
Parted output input w v i k j d _ = BothPorts (port_of k output) (port_of d input) (λ a b. ClosesTo (both_parted i k a j d b w) v)

pub returns-in_default-clause-step : goal.returns-in_default-clause-step
returns-in_default-clause-step g c =
    rw (← c.self.view_is) (whole_over g.C.Client.progress _ c.self.inside.core (acts.DropTunnel c.args.output c.args.input) (acts.Plain _) tt c.self.invariant.1 (λ w B. tt) (not_found g.C.Client.progress (Unit {0}) c.self.inside.core c.args.output.handle
    (λ w v i k. Resolving plain w c.args.input.handle (Err errors.InvalidComponent) v (λ j d. Answers (refusal c.args.output.index c.args.input.index (look w) k d) (Err errors.InvalidComponent) w v (Parted c.args.output.index c.args.input.index w v i k j d)))
    c.in_default.ensures.place))

pub returns-in_default-place_of-clause-step : goal.returns-in_default-place_of-clause-step
returns-in_default-place_of-clause-step g c =
    let p = g.C.Client.progress in
    let G = c.self.inside.core in
    let R = refusal c.args.output.index c.args.input.index in
    let Y = Parted c.args.output.index c.args.input.index in
    let F : Found p G c.args.output.handle c.in-Some.giver = found p G c.args.output.handle c.in-Some.giver c.in-Some.ensures.place c.in-Some.ensures.within in
    rw (← c.self.view_is) (whole_over g.C.Client.progress _ c.self.inside.core (acts.DropTunnel c.args.output c.args.input) (acts.Plain _) tt c.self.invariant.1 (λ w B. tt) (other_not_found p (Unit {0}) G c.args.output.handle c.args.input.handle c.in-Some.giver
    (λ w v i k j d. Answers (R (look w) k d) (Err errors.InvalidComponent) w v (Y w v i k j d)) F c.in_default-place_of.ensures.place))

pub returns-in-Some-drop_refusal-clause-step : goal.returns-in-Some-drop_refusal-clause-step
returns-in-Some-drop_refusal-clause-step g c =
    let p = g.C.Client.progress in
    let G = c.self.inside.core in
    let R = refusal c.args.output.index c.args.input.index in
    let Y = Parted c.args.output.index c.args.input.index in
    let F : Found p G c.args.output.handle c.in-Some.giver = found p G c.args.output.handle c.in-Some.giver c.in-Some.ensures.place c.in-Some.ensures.within in
    let F' : Found p G c.args.input.handle c.in-Some-place_of.taker = found p G c.args.input.handle c.in-Some-place_of.taker c.in-Some-place_of.ensures.place c.in-Some-place_of.ensures.within in
    rw (← c.self.view_is) (whole_over g.C.Client.progress _ c.self.inside.core (acts.DropTunnel c.args.output c.args.input) (acts.Plain _) tt c.self.invariant.1 (λ w B. tt) (refused_at_both p R G c.args.output.handle c.args.input.handle c.in-Some.giver c.in-Some-place_of.taker c.in-Some-drop_refusal.error Y F F' c.in-Some-drop_refusal.ensures))

-- the core's step
stepped : (g : Over) (c : After-close_out g) → StepsBare (kept g.C.Client.progress c.self.inside.core) (kept g.C.Client.progress c.close_out.new.self) (λ w v. Step w (acts.DropTunnel c.args.output c.args.input) (acts.Plain (Ok tt)) v)
stepped g c =
    let p = g.C.Client.progress in
    let G = c.self.inside.core in
    let R = refusal c.args.output.index c.args.input.index in
    let Y = Parted c.args.output.index c.args.input.index in
    let F : Found p G c.args.output.handle c.in-Some.giver = found p G c.args.output.handle c.in-Some.giver c.in-Some.ensures.place c.in-Some.ensures.within in
    let F' : Found p G c.args.input.handle c.in-Some-place_of.taker = found p G c.args.input.handle c.in-Some-place_of.taker c.in-Some-place_of.ensures.place c.in-Some-place_of.ensures.within in
    let parted = at_both p G c.args.output.handle c.args.input.handle c.in-Some.giver c.in-Some-place_of.taker
    (λ k d. BothPorts (port_of k c.args.output.index) (port_of d c.args.input.index) (λ a b. StepsBare (kept p G) (kept p c.drop_tunnel.new.self) (λ w v. v ≡ both_parted c.in-Some.giver k a c.in-Some-place_of.taker d b w)))
    F F' c.drop_tunnel.ensures.change in
    let s = both_end (kept p G) (kept p c.drop_tunnel.new.self) (kept p c.close_out.new.self) (port_of F.component c.args.output.index) (port_of F'.component c.args.input.index)
    (λ a b w. both_parted c.in-Some.giver F.component a c.in-Some-place_of.taker F'.component b w) parted c.close_out.ensures.closes in
    accepted_at_both p R G c.close_out.new.self c.args.output.handle c.args.input.handle c.in-Some.giver c.in-Some-place_of.taker tt Y F F' c.in_default-drop_refusal.ensures s

pub returns-clause-step : goal.returns-clause-step
returns-clause-step g c =
    rw (← c.self.view_is) (whole_over g.C.Client.progress _ c.close_out.new.self (acts.DropTunnel c.args.output c.args.input) (acts.Plain _) tt c.self.invariant.1 (λ w B. tt) (stepped g (goal.at.returns-clause-step g c).After-close_out))

pub returns-clause-clients : goal.returns-clause-clients
returns-clause-clients g c = rw (← c.self.view_is) (λ k. c.close_out.ensures.clients k ∙ c.drop_tunnel.ensures.clients k)

pub returns-in_default-clause-held : goal.returns-in_default-clause-held
returns-in_default-clause-held g c = rw (← c.self.view_is) (keeps_same g.C.Client.progress c.self.inside.core)

pub returns-in_default-place_of-clause-held : goal.returns-in_default-place_of-clause-held
returns-in_default-place_of-clause-held g c = rw (← c.self.view_is) (keeps_same g.C.Client.progress c.self.inside.core)

pub returns-in-Some-drop_refusal-clause-held : goal.returns-in-Some-drop_refusal-clause-held
returns-in-Some-drop_refusal-clause-held g c = rw (← c.self.view_is) (keeps_same g.C.Client.progress c.self.inside.core)

pub returns-clause-held : goal.returns-clause-held
returns-clause-held g c =
    let G = c.self.inside.core in
    rw (← c.self.view_is) (keeps_over g.C.Client.progress G c.close_out.new.self (acts.DropTunnel c.args.output c.args.input) (acts.Plain (Ok tt)) refl refl (λ w. tt) c.law_of_worlds.ensures.one (stepped g (goal.at.returns-clause-held g c).After-close_out))

pub invariant_of-self : goal.invariant_of-self
invariant_of-self g c =
    (c.self.invariant.0, is_whole_over g.C.Client.progress _ c.close_out.new.self (acts.DropTunnel c.args.output c.args.input) (acts.Plain _) tt c.self.invariant.1 (λ w B. tt) (stepped g (goal.at.invariant_of-self g c).After-close_out) c.close_out.ensures.settled)

pub returns-clause-files : goal.returns-clause-files
returns-clause-files g c =
    rw (← c.self.view_is) (files_over g.C.Client.progress _ c.close_out.new.self (acts.DropTunnel c.args.output c.args.input) (acts.Plain _) tt c.self.invariant.1 (λ w B. tt) (stepped g (goal.at.returns-clause-files g c).After-close_out))
