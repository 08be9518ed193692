-- The close-out of every world ends: each thing that happens leaves less pending.
use Rattle.std.proofs.Common.{◌≡◌, ◌⊎◌, inl, inr, ℕ, zero, suc, ◌+◌, ◌<◌, ◌≤◌, true, false, List, set, get_or, slice_get, sum_by, is_some, Option, Some, None, refl, sym, ◌∙◌, ap, subst, arith}
use Rattle.std.proofs.lemmas.List.Sums.{sum_by-set}
use Rattle.std.proofs.lemmas.Option.{slice_get_within, get_or_from_slice_get}
use Rattle.std.proofs.lemmas.Bool.{and_parts}
use Rattle.omx_types.specs.declared.state.State.{State}
use Rattle.omx_types.specs.declared.state.State.TheVariants.{Invalid, Loaded, Idle, Executing, Pause, WaitForResources}
use Rattle.omx_types.specs.declared.command.Event.{Event}
use Rattle.omx_types.specs.declared.command.Event.TheVariants.{CmdComplete}
use Rattle.omx_types.specs.declared.command.Completion.TheVariants as completions
use Rattle.il_machine.specs.declared.answer.Pending.{Pending}
use Rattle.il_machine.specs.declared.port.Mode.{Mode}
use Rattle.il_machine.specs.declared.port.Mode.TheVariants.{Steady, Enabling, Disabling}
use Rattle.il_machine.specs.declared.port.Port.{Port}
use Rattle.il_machine.specs.declared.port.PortState.{PortState}
use Rattle.il_machine.specs.States.{is_down}
use Rattle.il_machine.specs.Lists.{holds_at}
use Rattle.il_machine.specs.World.{Component, World, port_of, with_port, told}
use Rattle.il_machine.specs.Look.{look}
use Rattle.il_machine.specs.Ports.{is_steady}
use Rattle.il_machine.specs.Room.{is_by_client, port_reserve}
use Rattle.il_machine.specs.Due.{Thing, Transition, Flush, PortMode, WaitingMark, is_due_to, due_in, has_due, first_due, reached, completed_for, lost_by, restarted, with_part, all_given_back, arrived, arrived_at, transition_happened, mode_completion, all_told, happened, Happens, HappenTimes, ClosesTo}
use Rattle.il_machine.proofs.Places.{is_first_place, passes_at}
use Rattle.machine_laws.specs.Pending.{target_weight, pending_weight, left_in, pending_in}
use Rattle.machine_laws.proofs.Finding.{either}
use Rattle.machine_laws.proofs.Keys.{none_or_some}
use Rattle.machine_laws.proofs.Lookups.{port_parts}
use Rattle.machine_laws.proofs.Arriving.{unheld_places, state_there, flushed_places, steady_places, marked_places}
use Rattle.machine_laws.proofs.Happening.{IsDueAt, due_where, due_changes}

-- ---- how much is pending

abbrev left : World → ℕ
left w = sum_by left_in w.components

fewer_left : (cs : List Component) (i : ℕ) (c d : Component) → slice_get cs i ≡ Some c → left_in d < left_in c → sum_by left_in (set cs i d) < sum_by left_in cs
fewer_left cs i c d t lt =
    let s = sum_by-set left_in cs i d c (slice_get_within cs i c t) in
    let o : left_in (get_or cs i c) ≡ left_in c = ap left_in (get_or_from_slice_get cs i c c t) in
    omega arith

-- ---- a transition

none_after : (p : Pending) (c : Component) → left_in (completed_for p (reached p c)) ≡ sum_by port_reserve c.ports
none_after p c = either (is_by_client p.cause) (λ b. rw b (omega arith)) (λ b. rw b (omega arith))

little_after : (p : Pending) (c : Component) → left_in (lost_by p (completed_for p (reached p c))) ≤ 1 + sum_by port_reserve c.ports
little_after p c = either (is_by_client p.cause)
    (λ b. either c.loss_mark (λ m. rw (b, m) (omega arith)) (λ m. rw (b, m) (omega arith)))
    (λ b. either c.loss_mark (λ m. rw (b, m) (omega arith)) (λ m. rw (b, m) (omega arith)))

fewer_at : (number : ℕ) (t : State) (p : Pending) (c : Component) → left_in (arrived_at number t p c) < target_weight t + sum_by port_reserve c.ports
fewer_at number Idle p c = either (is_down c.state) (λ d. rw d (omega arith)) (λ d. let l = little_after p (with_part (restarted c) c) in rw d (omega arith))
fewer_at number Loaded p c = let n = none_after p (all_given_back c) in let g = unheld_places c.ports in omega arith
fewer_at number Executing p c = omega arith
fewer_at number Pause p c = omega arith
fewer_at number WaitForResources p c = omega arith
fewer_at number Invalid p c = omega arith

fewer_arrived : (number : ℕ) (p : Pending) (c : Component) → c.pending ≡ Some p → left_in (arrived number p c) < left_in c
fewer_arrived number p c e =
    let f = fewer_at number p.target p c in
    let w : pending_weight c.pending ≡ target_weight p.target = rw e refl in
    omega arith

-- ---- a port

fewer_port : (event : Event) (k : ℕ) (new old : PortState) (c : Component) → slice_get c.ports k ≡ Some old → port_reserve new < port_reserve old → left_in (told event (with_port k new c)) < left_in c
fewer_port event k new old c e lt =
    let s = sum_by-set port_reserve c.ports k new old (slice_get_within c.ports k old e) in
    let o : port_reserve (get_or c.ports k old) ≡ port_reserve old = ap port_reserve (get_or_from_slice_get c.ports k old old e) in
    omega arith

mode_fewer : (c : Component) (index : ℕ) (p : Port) (m : Mode) → port_of c index ≡ Some p → p.state.mode ≡ m → is_steady m ≡ false
    → left_in (all_told (mode_completion m p.key.port) (with_port p.key.port (record p.state { mode = Steady }) c)) < left_in c
mode_fewer c index p Steady e q n = absurd cc
mode_fewer c index p Enabling e q n = let z : is_steady p.state.mode ≡ false = rw q refl in
    fewer_port (CmdComplete (completions.Enable p.key.port)) p.key.port (record p.state { mode = Steady }) p.state c (state_there c index p e) (steady_places p.state z)
mode_fewer c index p Disabling e q n = let z : is_steady p.state.mode ≡ false = rw q refl in
    fewer_port (CmdComplete (completions.Disable p.key.port)) p.key.port (record p.state { mode = Steady }) p.state c (state_there c index p e) (steady_places p.state z)

-- ---- any thing that is due

fewer_of : (w : World) (i : ℕ) (c : Component) (index : ℕ) (p : Port) (thing : Thing) → slice_get w.components i ≡ Some c → port_of c index ≡ Some p → p.key.port ≡ index → IsDueAt (look w).headers c p thing
    → left (happened i c thing w) < left w
fewer_of w i c index p Transition t e k d = absurd d
fewer_of w i c index p (Flush n) t e k d =
    let f : port_of c n ≡ Some p = ap (port_of c) (d.0 ∙ k) ∙ e in
    let b = (and_parts p.state.flushing _ d.1).0 in
    rw f (fewer_left w.components i c (told (CmdComplete (completions.Flush p.key.port)) (with_port p.key.port (record p.state { flushing = false }) c)) t
    (fewer_port (CmdComplete (completions.Flush p.key.port)) p.key.port (record p.state { flushing = false }) p.state c (state_there c index p e) (flushed_places p.state b)))
fewer_of w i c index p (PortMode n) t e k d =
    let f : port_of c n ≡ Some p = ap (port_of c) (d.0 ∙ k) ∙ e in
    rw f (fewer_left w.components i c (all_told (mode_completion p.state.mode p.key.port) (with_port p.key.port (record p.state { mode = Steady }) c)) t
    (mode_fewer c index p p.state.mode e refl (due_changes (look w).headers c p p.state.mode d.1)))
fewer_of w i c index p (WaitingMark n) t e k d =
    let f : port_of c n ≡ Some p = ap (port_of c) (d.0 ∙ k) ∙ e in
    let b = (and_parts (is_some p.state.waiting_mark) _ d.1).0 in
    rw f (fewer_left w.components i c (told (CmdComplete (completions.Mark p.key.port)) (with_port p.key.port (record p.state { waiting_mark = None }) c)) t
    (fewer_port (CmdComplete (completions.Mark p.key.port)) p.key.port (record p.state { waiting_mark = None }) p.state c (state_there c index p e) (marked_places p.state b)))

fewer_transition : (w : World) (i : ℕ) (c : Component) (o : Option Pending) → slice_get w.components i ≡ Some c → c.pending ≡ o → holds_at o (λ p. is_due_to (look w).headers c p.target) ≡ true
    → left (transition_happened i c o w) < left w
fewer_transition w i c None t e d = absurd cc
fewer_transition w i c (Some p) t e d = fewer_left w.components i c (arrived w.waits p c) t (fewer_arrived w.waits p c e)

fewer_happened : (w : World) (i : ℕ) (c : Component) (thing : Thing) → slice_get w.components i ≡ Some c → due_in (look w).headers c ≡ Some thing → left (happened i c thing w) < left w
fewer_happened w i c thing t h = elim (due_where (look w).headers c thing h) [
  | inl a ↦ subst (λ (x : Thing). left (happened i c x w) < left w) (sym a.0) (fewer_transition w i c c.pending t refl a.1)
  | inr d ↦ fewer_of w i c d.place d.port thing t d.there (ap (λ k. k.port) (port_parts c d.place d.port d.there).key) d.due
]

-- ---- the end

there_due : (o : Option Thing) → is_some o ≡ true → (t : Thing) × (o ≡ Some t)
there_due None h = absurd cc
there_due (Some t) h = (t, refl)

one_before : (n : ℕ) (w u v : World) → Happens w u → HappenTimes n u v → HappenTimes (suc n) w v
one_before zero w u v h r = (w, refl, subst (λ (x : World). Happens w x) (sym r) h)
one_before (suc n) w u v h (mid, before, last) = (mid, one_before n w u mid h before, last)

-- a world is closed, or the first due thing happens and leaves less pending
closed_or_happens : (w : World) → (first_due (look w) ≡ None) ⊎ ((u : World) × Happens w u × (left u < left w))
closed_or_happens w = elim (none_or_some (first_due (look w))) [
  | inl z ↦ inl z
  | inr i ↦
      let f = sym (is_first_place (has_due (look w).headers) w.components) ∙ i.1 in
      let c = passes_at (has_due (look w).headers) w.components i.0 f in
      let t = there_due (due_in (look w).headers c.0) c.2 in
      inr (
        happened i.0 c.0 t.0 w,
        record { place = i.0; component = c.0; thing = t.0; first = i.1; there = c.1; due = t.1; after = refl },
        fewer_happened w i.0 c.0 t.0 c.1 t.1,
      )
]

closed_already : (w : World) → first_due (look w) ≡ None → (v : World) × ClosesTo w v
closed_already w z = (w, record { steps = 0; by_steps = refl; closed = z })

ends_within : (n : ℕ) (w : World) → left w ≤ n → (v : World) × ClosesTo w v
ends_within zero w l = elim (closed_or_happens w) [ inl z ↦ closed_already w z | inr h ↦ absurd (omega (arith, h.2)) ]
ends_within (suc n) w l = elim (closed_or_happens w) [
  | inl z ↦ closed_already w z
  | inr h ↦
      let r = ends_within n h.0 (omega (arith, h.2)) in
      (r.0, record { steps = suc (r.1).steps; by_steps = one_before (r.1).steps w h.0 r.0 h.1 (r.1).by_steps; closed = (r.1).closed })
]

-- The close-out of every world ends.
pub closes_somewhere : (w : World) → (v : World) × ClosesTo w v
closes_somewhere w = ends_within (left w) w (omega arith)

-- each thing that happens leaves less pending
pub happens_fewer : (w v : World) → Happens w v → pending_in v.components < pending_in w.components
happens_fewer w v H = subst (λ (x : World). pending_in x.components < pending_in w.components) (sym H.after) (fewer_happened w H.place H.component H.thing H.there H.due)
