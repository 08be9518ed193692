-- What the close-out keeps: each component's handle and whether its client object is out, the notes that were given, and how many
-- components were numbered.
use Rattle.std.proofs.Common.{◌≡◌, ℕ, zero, suc, Bool, not, ◌||◌, List, [], ◌∷◌, map, set, slice_get, Option, Some, None, refl, sym, ◌∙◌, ap, subst}
use Rattle.omx_types.specs.declared.handle.Handle.{Handle}
use Rattle.omx_types.specs.declared.command.Event.{Event}
use Rattle.omx_types.specs.declared.state.State.{State}
use Rattle.omx_types.specs.declared.state.State.TheVariants.{Invalid, Loaded, Idle, Executing, Pause, WaitForResources}
use Rattle.il_machine.specs.declared.answer.Pending.{Pending}
use Rattle.il_machine.specs.declared.port.Mode.TheVariants.{Steady}
use Rattle.il_machine.specs.declared.port.Port.{Port}
use Rattle.il_machine.specs.States.{is_down}
use Rattle.il_machine.specs.Room.{is_by_client}
use Rattle.il_machine.specs.World.{Component, World, port_of, with_port, told}
use Rattle.il_machine.specs.Due.{Thing, Transition, Flush, PortMode, WaitingMark, reached, completed_for, restarted, with_part, all_given_back, lost_by, arrived_at, arrived, mode_completion, all_told, transition_happened, at_port, flush_happened, mode_happened, mark_happened, happened, Happens, HappenTimes, ClosesTo}
use Rattle.machine_laws.proofs.Finding.{either}

-- a component's handle, and whether its client object is out
pub record Seat : Type 0 where
  pub handle : Handle
  pub out : Bool

abbrev pub seat : Component → Seat
seat c = record { handle = c.handle; out = c.client_out }

pub record IsKept (w v : World) : Type 0 where
  pub seats : map seat v.components ≡ map seat w.components
  pub given : v.given ≡ w.given
  pub numbered : v.numbered ≡ w.numbered

kept_on : (w u v : World) → IsKept w u → IsKept u v → IsKept w v
kept_on w u v A B = record { seats = B.seats ∙ A.seats; given = B.given ∙ A.given; numbered = B.numbered ∙ A.numbered }

kept_itself : (w : World) → IsKept w w
kept_itself w = record { seats = refl; given = refl; numbered = refl }

-- ---- one component

pub set_seat : (cs : List Component) (i : ℕ) (c d : Component) → slice_get cs i ≡ Some c → seat d ≡ seat c → map seat (set cs i d) ≡ map seat cs
set_seat [] i c d at e = refl
set_seat (x ∷ cs) zero c d at e = let is : x ≡ c = cc in ap (λ (s : Seat). s ∷ map seat cs) (rw is e)
set_seat (x ∷ cs) (suc i) c d at e = ap (λ (l : List Seat). seat x ∷ l) (set_seat cs i c d at e)

client_told : (p : Pending) (c : Component) → seat (completed_for p c) ≡ seat c
client_told p c = either (is_by_client p.cause) (λ t. rw t refl) (λ f. rw f refl)

loss_told : (p : Pending) (c : Component) → seat (lost_by p c) ≡ seat c
loss_told p c = either (c.loss_mark || not (is_by_client p.cause)) (λ t. rw t refl) (λ f. rw f refl)

arrived_seat : (number : ℕ) (target : State) (p : Pending) (c : Component) → seat (arrived_at number target p c) ≡ seat c
arrived_seat number Idle p c = either (is_down c.state)
    (λ t. rw t refl)
    (λ f.
    let r : Component = with_part (restarted c) (reached p c) in
    rw f (loss_told p (completed_for p r) ∙ client_told p r))
arrived_seat number Loaded p c = client_told p (all_given_back (reached p c))
arrived_seat number Invalid p c = refl
arrived_seat number Executing p c = refl
arrived_seat number Pause p c = refl
arrived_seat number WaitForResources p c = refl

told_seat : (events : List Event) (c : Component) → seat (all_told events c) ≡ seat c
told_seat [] c = refl
told_seat (event ∷ events) c = told_seat events (told event c)

-- ---- what happens

at_port_kept : (o : Option Port) (change : Port → World → World) (w : World) → ((p : Port) → IsKept w (change p w)) → IsKept w (at_port o change w)
at_port_kept None change w k = kept_itself w
at_port_kept (Some p) change w k = k p

transition_kept : (i : ℕ) (c : Component) (o : Option Pending) (w : World) → slice_get w.components i ≡ Some c → IsKept w (transition_happened i c o w)
transition_kept i c None w at = kept_itself w
transition_kept i c (Some p) w at = record { seats = set_seat w.components i c (arrived w.waits p c) at (arrived_seat w.waits p.target p c); given = refl; numbered = refl }

happened_kept : (i : ℕ) (c : Component) (thing : Thing) (w : World) → slice_get w.components i ≡ Some c → IsKept w (happened i c thing w)
happened_kept i c Transition w at = transition_kept i c c.pending w at
happened_kept i c (Flush port) w at = at_port_kept (port_of c port) (flush_happened i c) w (λ p. record { seats = set_seat w.components i c _ at refl; given = refl; numbered = refl })
happened_kept i c (PortMode port) w at = at_port_kept (port_of c port) (mode_happened i c) w (λ p.
    let m : Component = with_port p.key.port (record p.state { mode = Steady }) c in
    let d : Component = all_told (mode_completion p.state.mode p.key.port) m in
    record { seats = set_seat w.components i c d at (told_seat (mode_completion p.state.mode p.key.port) m); given = refl; numbered = refl })
happened_kept i c (WaitingMark port) w at = at_port_kept (port_of c port) (mark_happened i c) w (λ p. record { seats = set_seat w.components i c _ at refl; given = refl; numbered = refl })

happens_kept : (w v : World) → Happens w v → IsKept w v
happens_kept w v H = subst (IsKept w) (sym H.after) (happened_kept H.place H.component H.thing w H.there)

times_kept : (n : ℕ) (w v : World) → HappenTimes n w v → IsKept w v
times_kept zero w v e = subst (IsKept w) (sym e) (kept_itself w)
times_kept (suc n) w v (mid, before, last) = kept_on w mid v (times_kept n w mid before) (happens_kept mid v last)

pub closing_kept : (w v : World) → ClosesTo w v → IsKept w v
closing_kept w v C = times_kept C.steps w v C.by_steps
