-- A component whose transition is reached, or at whose port something pending is done: the places that were reserved are let go.
use Rattle.std.proofs.Common.{◌≡◌, ℕ, zero, suc, ◌+◌, ◌<◌, ◌≤◌, Bool, true, false, not, ◌&&◌, ◌||◌, List, [], ◌∷◌, length, length-set, map, set, get_or, slice_get, if◌then◌else◌, sum_by, Option, Some, None, is_some, refl, sym, ◌∙◌, ap, arith}
use Rattle.std.proofs.lemmas.List.Sums.{sum_by-cons, sum_by-set}
use Rattle.std.proofs.lemmas.List.{length-map}
use Rattle.std.proofs.lemmas.Option.{slice_get_within, get_or_from_slice_get}
use Rattle.omx_types.specs.declared.state.State.{State}
use Rattle.omx_types.specs.declared.state.State.TheVariants.{Invalid, Loaded, Idle, Executing, Pause, WaitForResources}
use Rattle.omx_types.specs.declared.command.Event.{Event}
use Rattle.omx_types.specs.declared.command.Event.TheVariants.{CmdComplete, Error}
use Rattle.omx_types.specs.declared.command.Completion.TheVariants as completions
use Rattle.omx_types.specs.declared.error.OmxError.TheVariants as errors
use Rattle.il_machine.specs.declared.answer.Pending.{Pending}
use Rattle.il_machine.specs.declared.answer.Cause.TheVariants as causes
use Rattle.il_machine.specs.declared.port.Mode.TheVariants.{Steady}
use Rattle.il_machine.specs.declared.port.Port.{Port}
use Rattle.il_machine.specs.declared.port.PortState.{PortState}
use Rattle.il_machine.specs.States.{same_state, is_down, is_running}
use Rattle.il_machine.specs.Settings.{fits}
use Rattle.il_machine.specs.World.{Component, PartState, told, with_port, port_of}
use Rattle.il_machine.specs.Headers.{weight}
use Rattle.il_machine.specs.Ports.{is_going_to, is_steady}
use Rattle.il_machine.specs.Room.{is_by_client, port_reserve, is_losing, used}
use Rattle.il_machine.specs.Due.{reached, completed, completed_for, lost, lost_by, restarted, with_part, unheld, all_given_back, arrived, arrived_at}
use Rattle.il_machine.specs.Sound.{IsSound}
use Rattle.machine_laws.proofs.Finding.{either}
use Rattle.machine_laws.proofs.Lookups.{port_parts}
use Rattle.machine_laws.specs.Changes.{IsChange, link_of}
use Rattle.machine_laws.proofs.Change.{change_none, change_twice}
use Rattle.machine_laws.proofs.Units.{IsAside, aside_twice, held_set}
use Rattle.machine_laws.proofs.Rooms.{aside_told, costs, asked, places, loss, costs_same, used_told, IsLawful, lawful_of, sound_with, lawful_told, change_told}
use Rattle.machine_laws.proofs.Fitting.{fit_with, fit_pending}

-- ---- a transition

and_false : (b : Bool) → (b && false) ≡ false
and_false true = refl
and_false false = refl

-- the mark stands on no other way
unmarked : (c : Component) → IsLawful c → (is_running c.state && is_going_to Idle c) ≡ false → c.loss_mark ≡ false
unmarked c L f = either c.loss_mark (λ t. let m = L.mark t in absurd cc) (λ e. e)

going_is : (c : Component) (p : Pending) → c.pending ≡ Some p → is_going_to Idle c ≡ same_state p.target Idle
going_is c p e = rw e refl

used_reached : (p : Pending) (c : Component) → c.pending ≡ Some p → used (reached p c) + weight (is_by_client p.cause) + loss c ≡ used c
used_reached p c e =
    let a : asked c ≡ weight (is_by_client p.cause) = rw e refl in
    let k : costs (reached p c) ≡ costs c = costs_same c (reached p c) c.commands refl in
    omega arith

change_reached : (p : Pending) (c : Component) → IsChange c (reached p c)
change_reached p c = record { handle = refl; ports = refl; links = refl; notes = refl }

lawful_reached : (p : Pending) (c : Component) → IsLawful c → c.pending ≡ Some p → c.loss_mark ≡ false → IsLawful (reached p c)
lawful_reached p c L e m = record { whole = L.whole; ports = L.ports; settings = L.settings; fit = fit_with (reached p c) (fit_pending c p L.fit e); file = L.file; cause = λ q e. absurd cc; mark = λ t. absurd cc; commands = L.commands }

-- Loaded is pending by loss
abbrev pub losing : Component → Component
losing c = record c { loss_mark = false; pending = Some (record { target = Loaded; cause = causes.Loss }) }

pub lawful_losing : (c : Component) → IsLawful c → fits c.settings ≡ true → IsLawful (losing c)
lawful_losing c L f = record {
  whole = L.whole;
  ports = L.ports;
  settings = L.settings;
  fit = fit_with (losing c) f;
  file = L.file;
  cause = λ q e. let a : Pending = record { target = Loaded; cause = causes.Loss } in let s : a ≡ q = cc in rw (← s) refl;
  mark = λ t. absurd cc;
  commands = L.commands;
}

used_losing : (c : Component) → c.pending ≡ None → used (losing c) ≡ used c
used_losing c e =
    let a : asked c ≡ 0 = rw e refl in
    let l : loss c ≡ 0 = rw e refl in
    let k : costs (losing c) ≡ costs c = costs_same c (losing c) c.commands refl in
    omega arith

used_lost : (c : Component) → c.pending ≡ None → used (lost c) ≡ used c + 1
used_lost c e = let t = used_told (Error errors.ResourcesLost) (losing c) in let l = used_losing c e in omega arith

pub lawful_lost : (c : Component) → IsLawful c → fits c.settings ≡ true → IsLawful (lost c)
lawful_lost c L f = lawful_told (Error errors.ResourcesLost) (losing c) (lawful_losing c L f)

pub change_lost : (c : Component) → IsChange c (lost c)
change_lost c = change_twice c (losing c) (lost c) (record { handle = refl; ports = refl; links = refl; notes = refl }) (change_told (Error errors.ResourcesLost) (losing c))

-- a component that reached its target, before its loss mark is cleared
lawful_once_unmarked : (p : Pending) (c : Component) → IsLawful c → c.pending ≡ Some p → IsLawful (losing (reached p c))
lawful_once_unmarked p c L e = record {
  whole = L.whole;
  ports = L.ports;
  settings = L.settings;
  fit = fit_with (losing (reached p c)) (fit_pending c p L.fit e);
  file = L.file;
  cause = λ q e. let a : Pending = record { target = Loaded; cause = causes.Loss } in let s : a ≡ q = cc in rw (← s) refl;
  mark = λ t. absurd cc;
  commands = L.commands;
}

-- what the transition to Idle reserves
idle_loss : (p : Pending) (c : Component) → c.pending ≡ Some p → p.target ≡ Idle → is_losing c ≡ (c.loss_mark || not (is_by_client p.cause))
idle_loss p c e t = rw (e, t) refl

sound_completed : (t : State) (p : Pending) (c : Component) → IsSound c → c.pending ≡ Some p → c.loss_mark ≡ false → 1 ≤ weight (is_by_client p.cause) + loss c → IsSound (completed t (reached p c))
sound_completed t p c S e m w =
    let u = used_reached p c e in
    let k = used_told (CmdComplete (completions.State t)) (reached p c) in
    sound_with (completed t (reached p c)) (lawful_told (CmdComplete (completions.State t)) (reached p c) (lawful_reached p c (lawful_of c S) e m)) (omega (arith, S.room))

change_completed : (t : State) (p : Pending) (c : Component) → IsChange c (completed t (reached p c))
change_completed t p c = change_twice c (reached p c) (completed t (reached p c)) (change_reached p c) (change_told (CmdComplete (completions.State t)) (reached p c))

or_not : (a b : Bool) → 1 ≤ weight b + weight (a || not b)
or_not true true = omega arith
or_not true false = omega arith
or_not false true = omega arith
or_not false false = omega arith

idle_reserves : (p : Pending) (c : Component) → c.pending ≡ Some p → p.target ≡ Idle → 1 ≤ weight (is_by_client p.cause) + loss c
idle_reserves p c e t = rw (idle_loss p c e t) (or_not c.loss_mark (is_by_client p.cause))

ones : (b : Bool) → weight (b || not false) ≡ 1
ones true = refl
ones false = refl

lost_anyway : (b : Bool) (x y : Component) → (if b || not false then x else y) ≡ x
lost_anyway true x y = refl
lost_anyway false x y = refl

-- the transition to Idle of a component that isn't down
sound_idle : (p : Pending) (c : Component) → IsSound c → c.pending ≡ Some p → p.target ≡ Idle → IsSound (lost_by p (completed_for p (reached p c)))
sound_idle p c S e t =
    let u = used_reached p c e in
    let l = idle_loss p c e t in
    let L = lawful_of c S in
    either (is_by_client p.cause)
    (λ b.
    let x = completed p.target (reached p c) in
    let k = used_told (CmdComplete (completions.State p.target)) (reached p c) in
    either c.loss_mark
    (λ m.
    let z : loss c ≡ 1 = rw (l, m) refl in
    let v : weight (is_by_client p.cause) ≡ 1 = rw b refl in
    let y = used_lost x refl in
    let f : lost_by p (completed_for p (reached p c)) ≡ lost x = rw (b, m) refl in
    rw f (sound_with (lost x) (lawful_told (Error errors.ResourcesLost) (losing x) (lawful_told (CmdComplete (completions.State p.target)) (losing (reached p c)) (lawful_once_unmarked p c L e))) (omega (arith, S.room))))
    (λ m.
    let v : weight (is_by_client p.cause) ≡ 1 = rw b refl in
    let f : lost_by p (completed_for p (reached p c)) ≡ x = rw (b, m) refl in
    rw f (sound_with x (lawful_told (CmdComplete (completions.State p.target)) (reached p c) (lawful_reached p c L e m)) (omega (arith, S.room)))))
    (λ b.
    let z : loss c ≡ 1 = rw (l, b) (ones c.loss_mark) in
    let y = used_lost (reached p c) refl in
    let f : lost_by p (completed_for p (reached p c)) ≡ lost (reached p c) = rw b (lost_anyway c.loss_mark (lost (reached p c)) (reached p c)) in
    rw f (sound_with (lost (reached p c)) (lawful_told (Error errors.ResourcesLost) (losing (reached p c)) (lawful_once_unmarked p c L e)) (omega (arith, S.room))))

sound_for : (p : Pending) (c : Component) → IsSound c → c.pending ≡ Some p → c.loss_mark ≡ false → IsSound (completed_for p (reached p c))
sound_for p c S e m = either (is_by_client p.cause)
    (λ b. let w : weight (is_by_client p.cause) ≡ 1 = rw b refl in rw b (sound_completed p.target p c S e m (omega arith)))
    (λ b. let u = used_reached p c e in rw b (sound_with (reached p c) (lawful_reached p c (lawful_of c S) e m) (omega (arith, S.room))))

-- a transition to any other state was asked for
asked_for : (p : Pending) (c : Component) → IsSound c → c.pending ≡ Some p → same_state p.target Idle ≡ false → same_state p.target Loaded ≡ false → is_by_client p.cause ≡ true
asked_for p c S e i l = either (is_by_client p.cause) (λ t. t) (λ f. let h = S.cause p e in let g : false ≡ true = rw (f, i, l) at h in absurd cc)

sound_other : (t : State) (p : Pending) (c : Component) → IsSound c → c.pending ≡ Some p → same_state p.target Idle ≡ false → same_state p.target Loaded ≡ false → IsSound (completed t (reached p c))
sound_other t p c S e i l =
    let b = asked_for p c S e i l in
    let w : weight (is_by_client p.cause) ≡ 1 = rw b refl in
    let g : (is_running c.state && is_going_to Idle c) ≡ false = rw (going_is c p e, i) (and_false (is_running c.state)) in
    sound_completed t p c S e (unmarked c (lawful_of c S) g) (omega arith)

down_rests : (s : State) → is_down s ≡ true → is_running s ≡ false
down_rests Invalid h = refl
down_rests Loaded h = refl
down_rests Idle h = refl
down_rests Executing h = absurd cc
down_rests Pause h = absurd cc
down_rests WaitForResources h = refl

-- What changes beside the state is outside of what is lawful, and of the places.
abbrev with_waiting : Option ℕ → Component → Component
with_waiting o c = record c { waiting = o }

sound_with_part : (x : PartState) (c : Component) → IsSound c → IsSound (with_part x c)
sound_with_part x c S =
    let k : costs (with_part x c) ≡ costs c = costs_same c (with_part x c) c.commands refl in
    sound_with (with_part x c) (record { whole = S.whole; ports = S.ports; settings = S.settings; fit = S.fit; file = S.file; cause = S.cause; mark = S.mark; commands = S.commands }) (omega (arith, S.room))

sound_with_waiting : (o : Option ℕ) (c : Component) → IsSound c → IsSound (with_waiting o c)
sound_with_waiting o c S =
    let k : costs (with_waiting o c) ≡ costs c = costs_same c (with_waiting o c) c.commands refl in
    sound_with (with_waiting o c) (record { whole = S.whole; ports = S.ports; settings = S.settings; fit = S.fit; file = S.file; cause = S.cause; mark = S.mark; commands = S.commands }) (omega (arith, S.room))

pub unheld_places : (ps : List PortState) → sum_by port_reserve (map unheld ps) ≡ sum_by port_reserve ps
unheld_places [] = refl
unheld_places (p ∷ ps) = let s = sum_by-cons port_reserve (unheld p) (map unheld ps) in let q = sum_by-cons port_reserve p ps in let i = unheld_places ps in omega arith

unheld_links : (ps : List PortState) → map link_of (map unheld ps) ≡ map link_of ps
unheld_links [] = refl
unheld_links (p ∷ ps) = let i = unheld_links ps in cc

sound_given_back : (c : Component) → IsSound c → IsSound (all_given_back c)
sound_given_back c S =
    let l = length-map c.ports unheld in
    let k : costs (all_given_back c) ≡ costs c = costs_same c (all_given_back c) c.commands l in
    let p : places (all_given_back c) ≡ places c = unheld_places c.ports in
    sound_with (all_given_back c) (record { whole = S.whole; ports = l ∙ S.ports; settings = S.settings; fit = S.fit; file = S.file; cause = S.cause; mark = S.mark; commands = S.commands }) (omega (arith, S.room))

part_after : (x : PartState) (p : Pending) (c : Component) → lost_by p (completed_for p (with_part x c)) ≡ with_part x (lost_by p (completed_for p c))
part_after x p c = either (is_by_client p.cause)
    (λ b. either c.loss_mark (λ m. rw (b, m) refl) (λ m. rw (b, m) refl))
    (λ b. either c.loss_mark (λ m. rw (b, m) refl) (λ m. rw (b, m) refl))

given_after : (p : Pending) (c : Component) → completed_for p (all_given_back c) ≡ all_given_back (completed_for p c)
given_after p c = either (is_by_client p.cause) (λ b. rw b refl) (λ b. rw b refl)

arrived_to : (number : ℕ) (t : State) (p : Pending) (c : Component) → IsSound c → c.pending ≡ Some p → p.target ≡ t → IsSound (arrived_at number t p c)
arrived_to number Idle p c S e t = either (is_down c.state)
    (λ d.
    let g : (is_running c.state && is_going_to Idle c) ≡ false = rw (down_rests c.state d) refl in
    rw d (sound_completed Idle p c S e (unmarked c (lawful_of c S) g) (idle_reserves p c e t)))
    (λ d. rw (d, part_after (restarted c) p (reached p c)) (sound_with_part (restarted c) (lost_by p (completed_for p (reached p c))) (sound_idle p c S e t)))
arrived_to number Loaded p c S e t =
    let g : (is_running c.state && is_going_to Idle c) ≡ false = rw (going_is c p e, t) (and_false (is_running c.state)) in
    rw (given_after p (reached p c)) (sound_given_back (completed_for p (reached p c)) (sound_for p c S e (unmarked c (lawful_of c S) g)))
arrived_to number Executing p c S e t = sound_other Executing p c S e (rw t refl) (rw t refl)
arrived_to number Pause p c S e t = sound_other Pause p c S e (rw t refl) (rw t refl)
arrived_to number WaitForResources p c S e t = sound_with_waiting (Some number) (completed WaitForResources (reached p c)) (sound_other WaitForResources p c S e (rw t refl) (rw t refl))
arrived_to number Invalid p c S e t = sound_other Invalid p c S e (rw t refl) (rw t refl)

pub sound_arrived : (number : ℕ) (p : Pending) (c : Component) → IsSound c → c.pending ≡ Some p → IsSound (arrived number p c)
sound_arrived number p c S e = arrived_to number p.target p c S e refl

change_for : (p : Pending) (c : Component) → IsChange c (completed_for p (reached p c))
change_for p c = either (is_by_client p.cause) (λ b. rw b (change_completed p.target p c)) (λ b. rw b (change_reached p c))

change_lost_by : (p : Pending) (c : Component) → IsChange c (lost_by p c)
change_lost_by p c = either (c.loss_mark || not (is_by_client p.cause)) (λ b. rw b (change_lost c)) (λ b. rw b (change_none c))

change_with_part : (x : PartState) (c d : Component) → IsChange c d → IsChange c (with_part x d)
change_with_part x c d C = record { handle = C.handle; ports = C.ports; links = C.links; notes = C.notes }

change_with_waiting : (o : Option ℕ) (c d : Component) → IsChange c d → IsChange c (with_waiting o d)
change_with_waiting o c d C = record { handle = C.handle; ports = C.ports; links = C.links; notes = C.notes }

change_given_back : (c d : Component) → IsChange c d → IsChange c (all_given_back d)
change_given_back c d C = record { handle = C.handle; ports = C.ports; links = unheld_links d.ports ∙ C.links; notes = C.notes }

change_to : (number : ℕ) (t : State) (p : Pending) (c : Component) → IsChange c (arrived_at number t p c)
change_to number Idle p c = either (is_down c.state)
    (λ d. rw d (change_completed Idle p c))
    (λ d. rw (d, part_after (restarted c) p (reached p c)) (change_with_part (restarted c) c (lost_by p (completed_for p (reached p c)))
    (change_twice c (completed_for p (reached p c)) (lost_by p (completed_for p (reached p c))) (change_for p c) (change_lost_by p (completed_for p (reached p c))))))
change_to number Loaded p c = rw (given_after p (reached p c)) (change_given_back c (completed_for p (reached p c)) (change_for p c))
change_to number Executing p c = change_completed Executing p c
change_to number Pause p c = change_completed Pause p c
change_to number WaitForResources p c = change_with_waiting (Some number) c (completed WaitForResources (reached p c)) (change_completed WaitForResources p c)
change_to number Invalid p c = change_completed Invalid p c

pub change_arrived : (number : ℕ) (p : Pending) (c : Component) → IsChange c (arrived number p c)
change_arrived number p c = change_to number p.target p c

-- ---- a port

pub used_with_port : (k : ℕ) (new old : PortState) (c : Component) → slice_get c.ports k ≡ Some old → used (with_port k new c) + port_reserve old ≡ used c + port_reserve new
used_with_port k new old c e =
    let s = sum_by-set port_reserve c.ports k new old (slice_get_within c.ports k old e) in
    let o : get_or c.ports k old ≡ old = get_or_from_slice_get c.ports k old old e in
    let p : port_reserve (get_or c.ports k old) ≡ port_reserve old = ap port_reserve o in
    let l : length (set c.ports k new) ≡ length c.ports = length-set c.ports k new in
    let q : costs (with_port k new c) ≡ costs c = costs_same c (with_port k new c) c.commands l in
    omega arith

pub lawful_with_port : (k : ℕ) (new : PortState) (c : Component) → IsLawful c → IsLawful (with_port k new c)
lawful_with_port k new c L = record { whole = L.whole; ports = length-set c.ports k new ∙ L.ports; settings = L.settings; fit = L.fit; file = L.file; cause = L.cause; mark = L.mark; commands = L.commands }

links_set : (ps : List PortState) (k : ℕ) (new old : PortState) → slice_get ps k ≡ Some old → new.link ≡ old.link → map link_of (set ps k new) ≡ map link_of ps
links_set [] k new old e l = absurd cc
links_set (p ∷ ps) zero new old e l = let s : p ≡ old = cc in let m : new.link ≡ p.link = l ∙ ap link_of (sym s) in cc
links_set (p ∷ ps) (suc k) new old e l = let i = links_set ps k new old e l in cc

pub change_with_port : (k : ℕ) (new old : PortState) (c : Component) → slice_get c.ports k ≡ Some old → new.link ≡ old.link → IsChange c (with_port k new c)
change_with_port k new old c e l = record { handle = refl; ports = refl; links = links_set c.ports k new old e l; notes = refl }

-- the state of the port, at its own number
pub state_there : (c : Component) (index : ℕ) (p : Port) → port_of c index ≡ Some p → slice_get c.ports p.key.port ≡ Some p.state
state_there c index p e = let is = port_parts c index p e in let n : p.key.port ≡ index = ap (λ k. k.port) is.key in rw n is.state

pub aside_with_port : (k : ℕ) (new old : PortState) (c : Component) → slice_get c.ports k ≡ Some old → (new.held ≡ true → old.held ≡ true) → IsAside c (with_port k new c)
aside_with_port k new old c e h = record {
  keeps = record { kind = refl; weights = refl; count = length-set c.ports k new; work = refl };
  state = refl;
  pending = refl;
  holds = refl;
  waiting = refl;
  part = refl;
  held = λ test A. held_set test c.ports k new old e h A;
}

-- a port lets a place go, and an event is told
pub sound_let_go : (event : Event) (k : ℕ) (new old : PortState) (c : Component) → IsSound c → slice_get c.ports k ≡ Some old → port_reserve new < port_reserve old
    → IsSound (told event (with_port k new c))
sound_let_go event k new old c S e lt =
    let u = used_with_port k new old c e in
    let t = used_told event (with_port k new c) in
    sound_with (told event (with_port k new c)) (lawful_told event (with_port k new c) (lawful_with_port k new c (lawful_of c S))) (omega (arith, S.room))

pub change_let_go : (event : Event) (k : ℕ) (new old : PortState) (c : Component) → slice_get c.ports k ≡ Some old → new.link ≡ old.link
    → IsChange c (told event (with_port k new c))
change_let_go event k new old c e l = change_twice c (with_port k new c) (told event (with_port k new c)) (change_with_port k new old c e l) (change_told event (with_port k new c))

pub aside_let_go : (event : Event) (k : ℕ) (new old : PortState) (c : Component) → slice_get c.ports k ≡ Some old → (new.held ≡ true → old.held ≡ true) → IsAside c (told event (with_port k new c))
aside_let_go event k new old c e h = aside_twice c (with_port k new c) (told event (with_port k new c)) (aside_with_port k new old c e h) (aside_told event (with_port k new c))

-- the three things of a port
pub flushed_places : (s : PortState) → s.flushing ≡ true → port_reserve (record s { flushing = false }) < port_reserve s
flushed_places s h = let w : weight s.flushing ≡ 1 = rw h refl in omega arith

pub steady_places : (s : PortState) → is_steady s.mode ≡ false → port_reserve (record s { mode = Steady }) < port_reserve s
steady_places s h = let w : weight (not (is_steady s.mode)) ≡ 1 = rw h refl in omega arith

pub marked_places : (s : PortState) → is_some s.waiting_mark ≡ true → port_reserve (record s { waiting_mark = None }) < port_reserve s
marked_places s h = let w : weight (is_some s.waiting_mark) ≡ 1 = rw h refl in omega arith
