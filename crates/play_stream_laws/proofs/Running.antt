-- A component's first command is carried out: a StateSet, or the disable or enable of a port. It keeps what the component is set to, its work
-- and its part, and no transition but that of the StateSet comes.
use Rattle.std.proofs.Common.{◌≡◌, ◌⊎◌, inl, inr, ℕ, zero, suc, ◌+◌, Bool, true, false, if◌then◌else◌, List, [], ◌∷◌, ◌++◌, nat_eq, Option, Some, None, refl, sym, ◌∙◌, ap, subst}
use Rattle.omx_types.specs.declared.command.Command.{Command}
use Rattle.omx_types.specs.declared.command.Command.TheVariants.{Flush, MarkBuffer, PortDisable, PortEnable, StateSet}
use Rattle.omx_types.specs.declared.command.PortSel.{PortSel}
use Rattle.omx_types.specs.declared.error.OmxError.{OmxError}
use Rattle.omx_types.specs.declared.state.State.{State}
use Rattle.omx_types.specs.declared.state.State.TheVariants as states
use Rattle.il_machine.specs.declared.answer.Pending.{Pending}
use Rattle.il_machine.specs.declared.port.PortState.{PortState}
use Rattle.il_machine.specs.Commands.{begun, disabling, enabling, is_selected, run_front, selected_from}
use Rattle.il_machine.specs.Look.{Look}
use Rattle.il_machine.specs.World.{Component}
use Rattle.machine_laws.proofs.Finding.{either}
use Rattle.play_model.specs.Changes.{port_at}
use Rattle.play_model.specs.Play.{Layout, Play}
use Rattle.play_world_laws.specs.Cast.{links_of}
use Rattle.play_world_laws.specs.Standing.{commands_at, target}
use Rattle.play_stream_laws.proofs.Keeping.{seat}
use Rattle.play_world_laws.specs.Changing.{at_ends, at_links, commands_of_port}
use Rattle.play_world_laws.specs.PlayWorlds.{PlayCast, commands_of_end, port_commands, port_number}
use Rattle.play_stream_laws.proofs.PlayClosing.{AreCalmPorts, IsCalmAt, IsCalmPort}

-- ---- the first command that the change of a link queues

abbrev IsPortCommand : Command → Type 0
IsPortCommand (PortDisable sel) = Unit {0}
IsPortCommand (PortEnable sel) = Unit {0}
IsPortCommand _ = ⊥

-- there is none, or it is a disable or enable
abbrev pub IsPortFront : List Command → Type 0
IsPortFront [] = Unit {0}
IsPortFront (c ∷ cs) = IsPortCommand c

append_front : (xs ys : List Command) → IsPortFront xs → IsPortFront ys → IsPortFront (xs ++ ys)
append_front [] ys a b = b
append_front (c ∷ cs) ys a b = a

when_front : (b : Bool) (xs : List Command) → IsPortFront xs → IsPortFront (if b then xs else [])
when_front b xs h = either b (λ t. rw t h) (λ f. rw f tt)

links_front : (w : Layout) (P : Bool → ℕ → List Command) (c n : ℕ) → ((s : Bool) (l : ℕ) → IsPortFront (P s l)) → IsPortFront (at_links w P c n)
links_front w P c zero h = tt
links_front w P c (suc n) h = append_front (at_links w P c n) (at_ends w P c n) (links_front w P c n h)
    (when_front (w.is_late n) _ (append_front (if nat_eq ((w.network).giver n) c then P true n else []) (if nat_eq ((w.network).taker n) c then P false n else [])
    (when_front (nat_eq ((w.network).giver n) c) (P true n) (h true n)) (when_front (nat_eq ((w.network).taker n) c) (P false n) (h false n))))

port_front : (n port : ℕ) → IsPortFront (commands_of_port n port)
port_front zero port = tt
port_front (suc zero) port = tt
port_front (suc (suc zero)) port = tt
port_front (suc (suc (suc zero))) port = tt
port_front (suc (suc (suc (suc zero)))) port = tt
port_front (suc (suc (suc (suc (suc zero))))) port = tt
port_front (suc (suc (suc (suc (suc (suc n)))))) port = tt

pub commands_front : (x : PlayCast) (p : Play) (c : ℕ) → IsPortFront (port_commands x.cast p c)
commands_front x p c = links_front (x.cast).layout (commands_of_end x.cast p) c (links_of x.cast) (λ s l. port_front (port_at s (p.change l)) (port_number x.cast s l))

-- ---- what it changes

pub record IsBegun (a d : Component) (state : State) : Type 0 where
  pub seat_is : seat d ≡ seat a
  pub work : d.work ≡ a.work
  pub part : d.part ≡ a.part
  pub ports : AreCalmPorts a.ports → AreCalmPorts d.ports
  pub pending : (d.pending ≡ a.pending) ⊎ ((o : Pending) × (d.pending ≡ Some o) × (o.target ≡ state))

begun_is : (o : Option OmxError) (state : State) (a : Component) → IsBegun a (begun o state a) state
begun_is None state a = record { seat_is = refl; work = refl; part = refl; ports = λ h. h; pending = inr (_, refl, refl) }
begun_is (Some error) state a = record { seat_is = refl; work = refl; part = refl; ports = λ h. h; pending = inl refl }

selected_calm : (index : ℕ) (sel : PortSel) (change : PortState → PortState) → ((s : PortState) → IsCalmPort s → IsCalmPort (change s)) → (ports : List PortState) → AreCalmPorts ports → AreCalmPorts (selected_from index sel change ports)
selected_calm index sel change keeps [] Q k s e = absurd cc
selected_calm index sel change keeps (y ∷ ports) Q zero s e = subst IsCalmPort first (either (is_selected sel index) (λ t. rw t (keeps y (Q 0 y refl))) (λ f. rw f (Q 0 y refl)))
  where
    first : (if is_selected sel index then change y else y) ≡ s
    first = cc
selected_calm index sel change keeps (y ∷ ports) Q (suc k) s e = selected_calm (index + 1) sel change keeps ports (λ j t f. Q (suc j) t f) k s e

rest_is : (l : Look) (cs : List Command) (a : Component) (state : State) → IsPortFront cs → IsBegun a (run_front l cs a) state
rest_is l [] a state F = record { seat_is = refl; work = refl; part = refl; ports = λ h. h; pending = inl refl }
rest_is l (PortDisable sel ∷ cs) a state F = record { seat_is = refl; work = refl; part = refl; ports = selected_calm 0 sel disabling (λ s h. (h.0, h.1)) a.ports; pending = inl refl }
rest_is l (PortEnable sel ∷ cs) a state F = record { seat_is = refl; work = refl; part = refl; ports = selected_calm 0 sel enabling (λ s h. (h.0, h.1)) a.ports; pending = inl refl }
rest_is l (StateSet target ∷ cs) a state F = absurd F
rest_is l (Flush sel ∷ cs) a state F = absurd F
rest_is l (MarkBuffer port target value ∷ cs) a state F = absurd F

pub front_is : (l : Look) (phase stage : ℕ) (cs : List Command) (a : Component) → IsPortFront cs → IsBegun a (run_front l (commands_at phase stage ++ cs) a) (target phase)
front_is l phase zero cs a F = rest_is l cs a (target phase) F
front_is l phase (suc zero) cs a F =
    let b : Component = record a { commands = cs } in
    let B = begun_is _ (target phase) b in
    record { seat_is = B.seat_is; work = B.work; part = B.part; ports = B.ports; pending = B.pending }
front_is l phase (suc (suc n)) cs a F = rest_is l cs a (target phase) F

pub calm_begun : (a d : Component) (state : State) → IsBegun a d state → state ≡ states.Executing → IsCalmAt a → IsCalmAt d
calm_begun a d state B e Q = record {
  ports = B.ports Q.ports;
  pending = λ p g. elim B.pending [
    | inl s ↦ Q.pending p (sym s ∙ g)
    | inr r ↦
        let z : Some r.0 ≡ Some p = sym r.1 ∙ g in
        let is : r.0 ≡ p = cc in
        ap (λ (o : Pending). o.target) (sym is) ∙ (r.2 ∙ e)
  ];
}
