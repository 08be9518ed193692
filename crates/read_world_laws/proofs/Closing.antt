-- The close-out of a world that is read otherwise goes the same way.
use Rattle.std.proofs.Common.{◌≡◌, ℕ, zero, suc, Bool, false, not, ◌||◌, if◌then◌else◌, List, [], ◌∷◌, ◌++◌, map, set, position, slice_get, Option, Some, None, is_some, refl, sym, ◌∙◌, ap}
use Rattle.omx_types.specs.declared.command.Completion.TheVariants as completions
use Rattle.omx_types.specs.declared.command.Event.{Event}
use Rattle.omx_types.specs.declared.command.Event.TheVariants.{CmdComplete, Error}
use Rattle.omx_types.specs.declared.error.OmxError.TheVariants as errors
use Rattle.omx_types.specs.declared.command.Note.TheVariants.{Told}
use Rattle.il_machine.specs.declared.answer.Cause.TheVariants as causes
use Rattle.omx_types.specs.declared.command.Note.{Note}
use Rattle.omx_types.specs.declared.state.State.{State}
use Rattle.omx_types.specs.declared.state.State.TheVariants as states
use Rattle.il_machine.specs.declared.answer.Pending.{Pending}
use Rattle.il_machine.specs.declared.port.Mode.{Mode}
use Rattle.il_machine.specs.declared.port.Mode.TheVariants as modes
use Rattle.il_machine.specs.declared.port.Port.{Port}
use Rattle.il_machine.specs.declared.port.PortState.{PortState}
use Rattle.il_machine.specs.Due.{ClosesTo, Flush, HappenTimes, Happens, IsClosed, PortMode, Thing, Transition, WaitingMark, all_given_back, all_told, completed, completed_for, lost, lost_by, reached, restarted, with_part, arrived, arrived_at, at_port, due_in, first_due, flush_happened, happened, has_due, is_due_to, is_flush_due, is_mark_due, is_mode_due, mark_happened, mode_completion, mode_happened, reset_on, things_of, transition_happened, waits_after}
use Rattle.il_machine.specs.Headers.{Seen, seen}
use Rattle.il_machine.specs.Lists.{first_of_these, holds_at}
use Rattle.il_machine.specs.Look.{look}
use Rattle.il_machine.specs.Places.{first_place}
use Rattle.il_machine.specs.Room.{is_by_client}
use Rattle.il_machine.specs.States.{is_down}
use Rattle.il_machine.specs.World.{Component, PartState, World, noted, port_of, ports_of, told, with_component, with_port, Stream}
use Rattle.il_machine.proofs.Places.{is_first_place}
use Rattle.machine_laws.proofs.Finding.{either}
use Rattle.read_world_laws.specs.Mended.{is_fault}
use Rattle.read_world_laws.proofs.Reading.{IsFair, Reading, read, read_component}

-- ---- what went through the files stays

at_port_streams : (o : Option Port) (f : Port → World → World) (w : World) → ((p : Port) → (f p w).streams ≡ w.streams) → (at_port o f w).streams ≡ w.streams
at_port_streams None f w h = refl
at_port_streams (Some p) f w h = h p

transition_streams : (i : ℕ) (c : Component) (o : Option Pending) (w : World) → (transition_happened i c o w).streams ≡ w.streams
transition_streams i c None w = refl
transition_streams i c (Some p) w = refl

happened_streams : (i : ℕ) (c : Component) (thing : Thing) (w : World) → (happened i c thing w).streams ≡ w.streams
happened_streams i c Transition w = transition_streams i c c.pending w
happened_streams i c (Flush port) w = at_port_streams (port_of c port) (flush_happened i c) w (λ p. refl)
happened_streams i c (PortMode port) w = at_port_streams (port_of c port) (mode_happened i c) w (λ p. refl)
happened_streams i c (WaitingMark port) w = at_port_streams (port_of c port) (mark_happened i c) w (λ p. refl)

times_streams : (n : ℕ) (w v : World) → HappenTimes n w v → v.streams ≡ w.streams
times_streams zero w v e = ap (λ (z : World). z.streams) e
times_streams (suc n) w v (mid, T, H) = ap (λ (z : World). z.streams) H.after ∙ (happened_streams H.place H.component H.thing mid ∙ times_streams n w mid T)

pub closes_streams : (w v : World) → ClosesTo w v → v.streams ≡ w.streams
closes_streams w v C = times_streams C.steps w v C.by_steps

-- ---- the world read otherwise

module _ (reading : Reading) (fair : IsFair reading) (streams : List Stream → List Stream) where
  abbrev twin : Component → Component
  twin c = read_component reading c

  abbrev mirror : World → World
  mirror w = read reading streams w

  -- ---- lists

  pub get_in : (cs : List Component) (i : ℕ) (a : Component) → slice_get cs i ≡ Some a → slice_get (map twin cs) i ≡ Some (twin a)
  get_in [] i a e = absurd cc
  get_in (c ∷ cs) zero a e = let s : c ≡ a = cc in ap (λ (z : Component). Some (twin z)) s
  get_in (c ∷ cs) (suc i) a e = get_in cs i a e

  pub set_in : (cs : List Component) (i : ℕ) (a : Component) → set (map twin cs) i (twin a) ≡ map twin (set cs i a)
  set_in [] i a = refl
  set_in (c ∷ cs) zero a = refl
  set_in (c ∷ cs) (suc i) a = ap (λ (t : List Component). twin c ∷ t) (set_in cs i a)

  first_in : (p : Component → Bool) → ((c : Component) → p (twin c) ≡ p c) → (cs : List Component) → first_place p (map twin cs) ≡ first_place p cs
  first_in p h [] = refl
  first_in p h (c ∷ cs) = let r = first_in p h cs in rw (h c, r) refl

  pub position_in : (p : Component → Bool) → ((c : Component) → p (twin c) ≡ p c) → (cs : List Component) → position p (map twin cs) ≡ position p cs
  position_in p h cs = is_first_place p (map twin cs) ∙ (first_in p h cs ∙ sym (is_first_place p cs))

  pub with_in : (i : ℕ) (a : Component) (w : World) → with_component i (twin a) (mirror w) ≡ mirror (with_component i a w)
  with_in i a w = λ j. record (mirror w) { components = set_in w.components i a j }

  -- ---- notes

  -- one that tells no fault is queued in both
  pub noted_in : (note : Note) → is_fault note ≡ false → (c : Component) → noted note (twin c) ≡ twin (noted note c)
  noted_in note f c =
      let k = fair.keeps note f in
      let e : reading.notes c.notes ++ note ∷ [] ≡ reading.notes (c.notes ++ note ∷ []) = (λ i. reading.notes c.notes ++ sym k i) ∙ sym (fair.append c.notes (note ∷ [])) in
      λ i. record (twin c) { notes = e i }

  pub told_in : (event : Event) → is_fault (Told event) ≡ false → (c : Component) → told event (twin c) ≡ twin (told event c)
  told_in event f c = noted_in (Told event) f c

  -- ---- what is due looks at no note, part or client object

  abbrev pub with_rest : List Note → PartState → Bool → Component → Component
  with_rest notes part out c = record c { notes = notes; part = part; client_out = out }

  module _ (headers : Seen) (c : Component) (notes : List Note) (part : PartState) (out : Bool) where
    abbrev d : Component
    d = with_rest notes part out c

    due_to_in : (s : State) → is_due_to headers d s ≡ is_due_to headers c s
    due_to_in states.Invalid = refl
    due_to_in states.Loaded = refl
    due_to_in states.Idle = refl
    due_to_in states.Executing = refl
    due_to_in states.Pause = refl
    due_to_in states.WaitForResources = refl

    transition_in : (o : Option Pending) → holds_at o (λ p. is_due_to headers d p.target) ≡ holds_at o (λ p. is_due_to headers c p.target)
    transition_in None = refl
    transition_in (Some p) = due_to_in p.target

    mode_in : (p : Port) (m : Mode) → is_mode_due headers d p m ≡ is_mode_due headers c p m
    mode_in p modes.Steady = refl
    mode_in p modes.Enabling = refl
    mode_in p modes.Disabling = refl

    things_in : (ports : List Port) → things_of headers d ports ≡ things_of headers c ports
    things_in [] = refl
    things_in (p ∷ ports) =
        let m = mode_in p p.state.mode in
        let r = things_in ports in
        λ i. (is_flush_due headers c p, Flush p.key.port) ∷ (m i, PortMode p.key.port) ∷ (is_mark_due headers p, WaitingMark p.key.port) ∷ r i

    pub due_beside : due_in headers d ≡ due_in headers c
    due_beside =
        let t = transition_in c.pending in
        let r = things_in (ports_of c) in
        λ i. first_of_these ((t i, Transition) ∷ r i)

  pub due_same : (headers : Seen) (c : Component) → due_in headers (twin c) ≡ due_in headers c
  due_same headers c = due_beside headers c (twin c).notes (twin c).part (twin c).client_out

  -- ---- what happens

  rests_in : (p : Pending) (c : Component) → with_part (restarted (twin c)) (reached p (twin c)) ≡ twin (with_part (restarted c) (reached p c))
  rests_in p c = let r = fair.restarts c in λ i. record (reached p (twin c)) { part = r i }

  completed_in : (target : State) (c : Component) → completed target (twin c) ≡ twin (completed target c)
  completed_in target c = told_in (CmdComplete (completions.State target)) refl c

  completed_for_in : (p : Pending) (c : Component) → completed_for p (twin c) ≡ twin (completed_for p c)
  completed_for_in p c = either (is_by_client p.cause)
      (λ t. ap (λ (q : Bool). if q then completed p.target (twin c) else twin c) t ∙ (completed_in p.target c ∙ ap (λ (q : Bool). twin (if q then completed p.target c else c)) (sym t)))
      (λ t. ap (λ (q : Bool). if q then completed p.target (twin c) else twin c) t ∙ ap (λ (q : Bool). twin (if q then completed p.target c else c)) (sym t))

  lost_in : (c : Component) → lost (twin c) ≡ twin (lost c)
  lost_in c = told_in (Error errors.ResourcesLost) refl (record c { loss_mark = false; pending = Some (record { target = states.Loaded; cause = causes.Loss }) })

  lost_by_in : (p : Pending) (c : Component) → lost_by p (twin c) ≡ twin (lost_by p c)
  lost_by_in p c =
      let test : Bool = c.loss_mark || not (is_by_client p.cause) in
      either test
      (λ t. ap (λ (q : Bool). if q then lost (twin c) else twin c) t ∙ (lost_in c ∙ ap (λ (q : Bool). twin (if q then lost c else c)) (sym t)))
      (λ t. ap (λ (q : Bool). if q then lost (twin c) else twin c) t ∙ ap (λ (q : Bool). twin (if q then lost c else c)) (sym t))

  arrived_in : (number : ℕ) (p : Pending) (s : State) (c : Component) → arrived_at number s p (twin c) ≡ twin (arrived_at number s p c)
  arrived_in number p states.Idle c = either (is_down c.state)
      (λ t.
      ap (λ (q : Bool). if q then completed states.Idle (reached p (twin c)) else lost_by p (completed_for p (with_part (restarted (twin c)) (reached p (twin c))))) t
      ∙ (completed_in states.Idle (reached p c) ∙ ap (λ (q : Bool). twin (if q then completed states.Idle (reached p c) else lost_by p (completed_for p (with_part (restarted c) (reached p c))))) (sym t)))
      (λ t.
      ap (λ (q : Bool). if q then completed states.Idle (reached p (twin c)) else lost_by p (completed_for p (with_part (restarted (twin c)) (reached p (twin c))))) t
      ∙ (ap (λ (d : Component). lost_by p (completed_for p d)) (rests_in p c) ∙ (ap (lost_by p) (completed_for_in p (with_part (restarted c) (reached p c))) ∙ lost_by_in p (completed_for p (with_part (restarted c) (reached p c)))))
      ∙ ap (λ (q : Bool). twin (if q then completed states.Idle (reached p c) else lost_by p (completed_for p (with_part (restarted c) (reached p c))))) (sym t))
  arrived_in number p states.Loaded c = completed_for_in p (all_given_back (reached p c))
  arrived_in number p states.WaitForResources c = completed_in states.WaitForResources (record (reached p c) { waiting = Some number })
  arrived_in number p states.Executing c = completed_in states.Executing (reached p c)
  arrived_in number p states.Pause c = completed_in states.Pause (reached p c)
  arrived_in number p states.Invalid c = completed_in states.Invalid (reached p c)

  reset_in : (c : Component) (s : State) → reset_on (twin c) s ≡ reset_on c s
  reset_in c states.Invalid = refl
  reset_in c states.Loaded = refl
  reset_in c states.Idle = refl
  reset_in c states.Executing = refl
  reset_in c states.Pause = refl
  reset_in c states.WaitForResources = refl

  module _ (i : ℕ) (c : Component) (w : World) where
    transitions_in : (o : Option Pending) → transition_happened i (twin c) o (mirror w) ≡ mirror (transition_happened i c o w)
    transitions_in None = refl
    transitions_in (Some p) =
        let a = arrived_in w.waits p p.target c in
        let r = reset_in c p.target in
        (λ j. record (with_component i (a j) (mirror w)) { headers = r j w.headers; waits = waits_after p.target w.waits })
        ∙ (λ j. record (mirror w) { components = set_in w.components i (arrived w.waits p c) j; headers = reset_on c p.target w.headers; waits = waits_after p.target w.waits })

    modes_in : (m : Mode) (n : ℕ) (s : PortState) → all_told (mode_completion m n) (with_port n s (twin c)) ≡ twin (all_told (mode_completion m n) (with_port n s c))
    modes_in modes.Steady n s = refl
    modes_in modes.Enabling n s = told_in (CmdComplete (completions.Enable n)) refl (with_port n s c)
    modes_in modes.Disabling n s = told_in (CmdComplete (completions.Disable n)) refl (with_port n s c)

    at_port_in : (o : Option Port) (f g : Port → World → World) → ((p : Port) → f p (mirror w) ≡ mirror (g p w)) → at_port o f (mirror w) ≡ mirror (at_port o g w)
    at_port_in None f g h = refl
    at_port_in (Some p) f g h = h p

    flushes_in : (p : Port) → flush_happened i (twin c) p (mirror w) ≡ mirror (flush_happened i c p w)
    flushes_in p =
        let d : Component = with_port p.key.port (record p.state { flushing = false }) c in
        let t = told_in (CmdComplete (completions.Flush p.key.port)) refl d in
        (λ j. record (flush_happened i (twin c) p (mirror w)) { components = set (map twin w.components) i (t j) })
        ∙ (λ j. record (flush_happened i (twin c) p (mirror w)) { components = set_in w.components i (told (CmdComplete (completions.Flush p.key.port)) d) j })

    mode_happens_in : (p : Port) → mode_happened i (twin c) p (mirror w) ≡ mirror (mode_happened i c p w)
    mode_happens_in p =
        let m = modes_in p.state.mode p.key.port (record p.state { mode = modes.Steady }) in
        (λ j. with_component i (m j) (mirror w)) ∙ with_in i (all_told (mode_completion p.state.mode p.key.port) (with_port p.key.port (record p.state { mode = modes.Steady }) c)) w

    marks_in : (p : Port) → mark_happened i (twin c) p (mirror w) ≡ mirror (mark_happened i c p w)
    marks_in p =
        let d : Component = with_port p.key.port (record p.state { waiting_mark = None }) c in
        let t = told_in (CmdComplete (completions.Mark p.key.port)) refl d in
        (λ j. record (mark_happened i (twin c) p (mirror w)) { components = set (map twin w.components) i (t j) })
        ∙ (λ j. record (mark_happened i (twin c) p (mirror w)) { components = set_in w.components i (told (CmdComplete (completions.Mark p.key.port)) d) j })

    pub happened_in : (thing : Thing) → happened i (twin c) thing (mirror w) ≡ mirror (happened i c thing w)
    happened_in Transition = transitions_in c.pending
    happened_in (Flush port) = at_port_in (port_of c port) (flush_happened i (twin c)) (flush_happened i c) flushes_in
    happened_in (PortMode port) = at_port_in (port_of c port) (mode_happened i (twin c)) (mode_happened i c) mode_happens_in
    happened_in (WaitingMark port) = at_port_in (port_of c port) (mark_happened i (twin c)) (mark_happened i c) marks_in

  -- ---- the close-out

  first_due_in : (w : World) → first_due (look (mirror w)) ≡ first_due (look w)
  first_due_in w = position_in (has_due (seen w.headers)) (λ c. ap is_some (due_same (seen w.headers) c)) w.components

  happens_in : (w v : World) → Happens w v → Happens (mirror w) (mirror v)
  happens_in w v H = record {
    place = H.place;
    component = twin H.component;
    thing = H.thing;
    first = first_due_in w ∙ H.first;
    there = get_in w.components H.place H.component H.there;
    due = due_same (seen w.headers) H.component ∙ H.due;
    after = ap mirror H.after ∙ sym (happened_in H.place H.component w H.thing);
  }

  times_in : (n : ℕ) (w v : World) → HappenTimes n w v → HappenTimes n (mirror w) (mirror v)
  times_in zero w v e = ap mirror e
  times_in (suc n) w v (mid, T, H) = (mirror mid, times_in n w mid T, happens_in mid v H)

  pub closed_in : (w : World) → IsClosed w → IsClosed (mirror w)
  closed_in w Z = first_due_in w ∙ Z

  pub closes_in : (w v : World) → ClosesTo w v → ClosesTo (mirror w) (mirror v)
  closes_in w v C = record { steps = C.steps; by_steps = times_in C.steps w v C.by_steps; closed = closed_in v C.closed }
