-- What is due happens.
use Rattle.std.proofs.Common.{◌≡◌, ◌⊎◌, inl, inr, ℕ, zero, suc, true, false, List, [], ◌∷◌, set, slice_get, Option, Some, None, is_some, refl, sym, ◌∙◌, ap, subst, arith}
use Rattle.std.proofs.lemmas.Bool.{and_parts}
use Rattle.omx_types.specs.declared.command.Event.TheVariants.{CmdComplete}
use Rattle.omx_types.specs.declared.command.Completion.TheVariants as completions
use Rattle.il_machine.specs.declared.answer.Pending.{Pending}
use Rattle.il_machine.specs.declared.port.Mark.{Mark}
use Rattle.il_machine.specs.declared.port.Mode.{Mode}
use Rattle.il_machine.specs.declared.port.Mode.TheVariants.{Steady, Enabling, Disabling}
use Rattle.il_machine.specs.declared.port.Port.{Port}
use Rattle.il_machine.specs.Lists.{first_of_these, holds_at}
use Rattle.il_machine.specs.World.{Component, HeaderRecord, World, ports_of, port_of, with_port, with_component, told}
use Rattle.il_machine.specs.Headers.{Seen, seen}
use Rattle.il_machine.specs.Look.{look}
use Rattle.il_machine.specs.Ports.{is_steady}
use Rattle.il_machine.specs.Due.{Thing, Transition, Flush, PortMode, WaitingMark, is_due_to, is_transition_due, is_flush_due, is_mode_due, is_mark_due, things_of, due_in, arrived, waits_after, transition_happened, flush_happened, mode_completion, all_told, mode_happened, marked, first_marked, mark_happened, happened, Happens, HappenTimes, ClosesTo}
use Rattle.il_machine.specs.Sound.{Sound}
use Rattle.machine_laws.proofs.Finding.{either}
use Rattle.machine_laws.proofs.Lookups.{port_parts}
use Rattle.machine_laws.proofs.Parts.{Parts, parts_of, sound_from}
use Rattle.machine_laws.proofs.Change.{parts_changed, sound_component, out_there, aside_there, resources_changed}
use Rattle.machine_laws.proofs.Units.{resources_of, resources_set}
use Rattle.machine_laws.proofs.Fairness.{fair_arrived, waits_later}
use Rattle.machine_laws.proofs.Headers.{parts_loaded}
use Rattle.machine_laws.proofs.Arriving.{sound_arrived, change_arrived, state_there, sound_let_go, change_let_go, aside_let_go, flushed_places, steady_places, marked_places}
use Rattle.machine_laws.proofs.Resets.{parts_reset_port, parts_reset_on}

-- ---- what is due at a port

abbrev pub IsDueAt : Seen → Component → Port → Thing → Type 0
IsDueAt headers c p Transition = ⊥
IsDueAt headers c p (Flush n) = (n ≡ p.key.port) × (is_flush_due headers c p ≡ true)
IsDueAt headers c p (PortMode n) = (n ≡ p.key.port) × (is_mode_due headers c p p.state.mode ≡ true)
IsDueAt headers c p (WaitingMark n) = (n ≡ p.key.port) × (is_mark_due headers p ≡ true)

pub record IsDueOf (headers : Seen) (c : Component) (ps : List Port) (t : Thing) : Type 0 where
  pub place : ℕ
  pub port : Port
  pub there : slice_get ps place ≡ Some port
  pub due : IsDueAt headers c port t

of_front : (headers : Seen) (c : Component) (p : Port) (ps : List Port) (t s : Thing) → IsDueAt headers c p t → Some t ≡ Some s → IsDueOf headers c (p ∷ ps) s
of_front headers c p ps t s d e = let q : t ≡ s = cc in record { place = 0; port = p; there = refl; due = subst (IsDueAt headers c p) q d }

of_rest : (headers : Seen) (c : Component) (p : Port) (ps : List Port) (t : Thing) → IsDueOf headers c ps t → IsDueOf headers c (p ∷ ps) t
of_rest headers c p ps t d = record { place = suc d.place; port = d.port; there = d.there; due = d.due }

due_of : (headers : Seen) (c : Component) (ps : List Port) (t : Thing) → first_of_these (things_of headers c ps) ≡ Some t → IsDueOf headers c ps t
due_of headers c [] t h = absurd cc
due_of headers c (p ∷ ps) t h = either (is_flush_due headers c p)
    (λ f. of_front headers c p ps (Flush p.key.port) t (refl, f) (rw f at h))
    (λ f. either (is_mode_due headers c p p.state.mode)
    (λ m. of_front headers c p ps (PortMode p.key.port) t (refl, m) (rw (f, m) at h))
    (λ m. either (is_mark_due headers p)
    (λ k. of_front headers c p ps (WaitingMark p.key.port) t (refl, k) (rw (f, m, k) at h))
    (λ k. of_rest headers c p ps t (due_of headers c ps t (rw (f, m, k) at h)))))

-- what is due is the transition, or due at a port
pub due_where : (headers : Seen) (c : Component) (t : Thing) → due_in headers c ≡ Some t → ((t ≡ Transition) × (is_transition_due headers c ≡ true)) ⊎ IsDueOf headers c (ports_of c) t
due_where headers c t h = either (is_transition_due headers c)
    (λ b. let e : Some Transition ≡ Some t = rw b at h in let s : t ≡ Transition = cc in inl (s, b))
    (λ b. inr (due_of headers c (ports_of c) t (rw b at h)))

-- ---- the transition

pub sound_transition : (w : World) (i : ℕ) (c : Component) (o : Option Pending) → Sound w → slice_get w.components i ≡ Some c → c.pending ≡ o → holds_at o (λ p. is_due_to (look w).headers c p.target) ≡ true
    → Sound (transition_happened i c o w)
sound_transition w i c None S t e h = S
sound_transition w i c (Some p) S t e h =
    let P = parts_of w S in
    let R = resources_of w S in
    let d : Component = arrived w.waits p c in
    let after : ℕ = waits_after p.target w.waits in
    let C = change_arrived w.waits p c in
    let F = fair_arrived (look w).headers w.waits p c (R.each i c t) e h (out_there w i c S t) in
    let Q = parts_changed 0 w.waits after w.numbered w.made i w.components w.headers c d P t C (sound_arrived w.waits p c (P.components i c t) e) F in
    sound_from (transition_happened i c (Some p) w) (parts_reset_on (set w.components i d) w.numbered w.made c p.target w.headers Q)
    (resources_set 0 w.waits after w.units i w.components w.streams c d (waits_later p.target w.waits) t (ap (λ k. k.generation) C.handle) (omega (arith, R.enough)) F R)

-- ---- a port's things

pub sound_flush : (w : World) (i : ℕ) (c : Component) (index : ℕ) (p : Port) → Sound w → slice_get w.components i ≡ Some c → port_of c index ≡ Some p → p.state.flushing ≡ true → Sound (flush_happened i c p w)
sound_flush w i c index p S t e f =
    let P = parts_of w S in
    let at = state_there c index p e in
    let d : Component = told (CmdComplete (completions.Flush p.key.port)) (with_port p.key.port (record p.state { flushing = false }) c) in
    let I = sound_let_go (CmdComplete (completions.Flush p.key.port)) p.key.port (record p.state { flushing = false }) p.state c (P.components i c t) at (flushed_places p.state f) in
    let C = change_let_go (CmdComplete (completions.Flush p.key.port)) p.key.port (record p.state { flushing = false }) p.state c at refl in
    let F = aside_there w i c d S t (aside_let_go (CmdComplete (completions.Flush p.key.port)) p.key.port (record p.state { flushing = false }) p.state c at (λ h. h)) in
    let Q = parts_changed 0 w.waits w.waits w.numbered w.made i w.components w.headers c d P t C I F in
    sound_from (flush_happened i c p w) (parts_reset_port (set w.components i d) w.numbered w.made p w.headers Q) (resources_changed w i c d S t refl F)

mode_of : (w : World) (i : ℕ) (c : Component) (index : ℕ) (p : Port) (m : Mode) → Sound w → slice_get w.components i ≡ Some c → port_of c index ≡ Some p → p.state.mode ≡ m → is_steady m ≡ false
    → Sound (with_component i (all_told (mode_completion m p.key.port) (with_port p.key.port (record p.state { mode = Steady }) c)) w)
mode_of w i c index p Steady S t e q n = absurd cc
mode_of w i c index p Enabling S t e q n =
    let at = state_there c index p e in
    let z : is_steady p.state.mode ≡ false = rw q refl in
    let I = sound_let_go (CmdComplete (completions.Enable p.key.port)) p.key.port (record p.state { mode = Steady }) p.state c ((parts_of w S).components i c t) at (steady_places p.state z) in
    sound_component w i c (told (CmdComplete (completions.Enable p.key.port)) (with_port p.key.port (record p.state { mode = Steady }) c)) S t
    (change_let_go (CmdComplete (completions.Enable p.key.port)) p.key.port (record p.state { mode = Steady }) p.state c at refl) I
    (aside_there w i c (told (CmdComplete (completions.Enable p.key.port)) (with_port p.key.port (record p.state { mode = Steady }) c)) S t
    (aside_let_go (CmdComplete (completions.Enable p.key.port)) p.key.port (record p.state { mode = Steady }) p.state c at (λ h. h)))
mode_of w i c index p Disabling S t e q n =
    let at = state_there c index p e in
    let z : is_steady p.state.mode ≡ false = rw q refl in
    let I = sound_let_go (CmdComplete (completions.Disable p.key.port)) p.key.port (record p.state { mode = Steady }) p.state c ((parts_of w S).components i c t) at (steady_places p.state z) in
    sound_component w i c (told (CmdComplete (completions.Disable p.key.port)) (with_port p.key.port (record p.state { mode = Steady }) c)) S t
    (change_let_go (CmdComplete (completions.Disable p.key.port)) p.key.port (record p.state { mode = Steady }) p.state c at refl) I
    (aside_there w i c (told (CmdComplete (completions.Disable p.key.port)) (with_port p.key.port (record p.state { mode = Steady }) c)) S t
    (aside_let_go (CmdComplete (completions.Disable p.key.port)) p.key.port (record p.state { mode = Steady }) p.state c at (λ h. h)))

pub due_changes : (headers : Seen) (c : Component) (p : Port) (m : Mode) → is_mode_due headers c p m ≡ true → is_steady m ≡ false
due_changes headers c p Steady h = absurd cc
due_changes headers c p Enabling h = refl
due_changes headers c p Disabling h = refl

pub sound_mode : (w : World) (i : ℕ) (c : Component) (index : ℕ) (p : Port) → Sound w → slice_get w.components i ≡ Some c → port_of c index ≡ Some p → is_steady p.state.mode ≡ false → Sound (mode_happened i c p w)
sound_mode w i c index p S t e n = mode_of w i c index p p.state.mode S t e refl n

parts_first_marked : (cs : List Component) (numbered made : ℕ) (ns : List ℕ) (mark : Option Mark) (hs : List HeaderRecord) → Parts cs hs numbered made → Parts cs (first_marked ns mark hs) numbered made
parts_first_marked cs numbered made [] mark hs P = P
parts_first_marked cs numbered made (n ∷ ns) mark hs P = parts_loaded cs (marked mark) n hs numbered made (λ x. refl) P

pub sound_mark : (w : World) (i : ℕ) (c : Component) (index : ℕ) (p : Port) → Sound w → slice_get w.components i ≡ Some c → port_of c index ≡ Some p → is_some p.state.waiting_mark ≡ true → Sound (mark_happened i c p w)
sound_mark w i c index p S t e m =
    let P = parts_of w S in
    let at = state_there c index p e in
    let d : Component = told (CmdComplete (completions.Mark p.key.port)) (with_port p.key.port (record p.state { waiting_mark = None }) c) in
    let I = sound_let_go (CmdComplete (completions.Mark p.key.port)) p.key.port (record p.state { waiting_mark = None }) p.state c (P.components i c t) at (marked_places p.state m) in
    let C = change_let_go (CmdComplete (completions.Mark p.key.port)) p.key.port (record p.state { waiting_mark = None }) p.state c at refl in
    let F = aside_there w i c d S t (aside_let_go (CmdComplete (completions.Mark p.key.port)) p.key.port (record p.state { waiting_mark = None }) p.state c at (λ h. h)) in
    let Q = parts_changed 0 w.waits w.waits w.numbered w.made i w.components w.headers c d P t C I F in
    sound_from (mark_happened i c p w) (parts_first_marked (set w.components i d) w.numbered w.made ((seen w.headers).unmarked p.key) p.state.waiting_mark w.headers Q)
    (resources_changed w i c d S t refl F)

-- ---- any thing that is due

happened_at : (w : World) (i : ℕ) (c : Component) (index : ℕ) (p : Port) (thing : Thing) → Sound w → slice_get w.components i ≡ Some c → port_of c index ≡ Some p → p.key.port ≡ index → IsDueAt (look w).headers c p thing
    → Sound (happened i c thing w)
happened_at w i c index p Transition S t e k d = absurd d
happened_at w i c index p (Flush n) S t e k d =
    let f : port_of c n ≡ Some p = ap (port_of c) (d.0 ∙ k) ∙ e in
    let b = (and_parts p.state.flushing _ d.1).0 in
    rw f (sound_flush w i c index p S t e b)
happened_at w i c index p (PortMode n) S t e k d =
    let f : port_of c n ≡ Some p = ap (port_of c) (d.0 ∙ k) ∙ e in
    rw f (sound_mode w i c index p S t e (due_changes (look w).headers c p p.state.mode d.1))
happened_at w i c index p (WaitingMark n) S t e k d =
    let f : port_of c n ≡ Some p = ap (port_of c) (d.0 ∙ k) ∙ e in
    let b = (and_parts (is_some p.state.waiting_mark) _ d.1).0 in
    rw f (sound_mark w i c index p S t e b)

pub sound_happened : (w : World) (i : ℕ) (c : Component) (thing : Thing) → Sound w → slice_get w.components i ≡ Some c → due_in (look w).headers c ≡ Some thing → Sound (happened i c thing w)
sound_happened w i c thing S t h = elim (due_where (look w).headers c thing h) [
  | inl a ↦ subst (λ (x : Thing). Sound (happened i c x w)) (sym a.0) (sound_transition w i c c.pending S t refl a.1)
  | inr d ↦ happened_at w i c d.place d.port thing S t d.there (ap (λ k. k.port) (port_parts c d.place d.port d.there).key) d.due
]

pub sound_happens : (w v : World) → Happens w v → Sound w → Sound v
sound_happens w v H S = subst Sound (sym H.after) (sound_happened w H.place H.component H.thing S H.there H.due)

pub sound_times : (n : ℕ) (w v : World) → HappenTimes n w v → Sound w → Sound v
sound_times zero w v h S = subst Sound (sym h) S
sound_times (suc n) w v (mid, before, last) S = sound_happens mid v last (sound_times n w mid before S)

-- the close-out keeps a world sound
pub sound_closes : (w v : World) → ClosesTo w v → Sound w → Sound v
sound_closes w v C S = sound_times C.steps w v C.by_steps S
