-- The close-out of a bare world.
use Rattle.std.proofs.Common.{◌≡◌, ℕ, zero, suc, not, ◌||◌, cond, List, [], ◌∷◌, set, Option, Some, None, option_map, refl, sym, ◌∙◌, ap}
use Rattle.std.specs.Prelude.{map}
use Rattle.std.proofs.lemmas.Option.{slice_get-map}
use Rattle.omx_types.specs.declared.state.State.{State}
use Rattle.omx_types.specs.declared.state.State.TheVariants.{Invalid, Loaded, Idle, Executing, Pause, WaitForResources}
use Rattle.il_machine.specs.declared.answer.Pending.{Pending}
use Rattle.il_machine.specs.declared.port.Mode.{Mode}
use Rattle.il_machine.specs.declared.port.Mode.TheVariants.{Steady, Disabling, Enabling}
use Rattle.il_machine.specs.declared.port.Port.{Port}
use Rattle.il_machine.specs.States.{is_down}
use Rattle.il_machine.specs.World.{Component, HeaderRecord, World, port_of, with_port}
use Rattle.il_machine.specs.Headers.{Seen, seen}
use Rattle.il_machine.specs.Look.{look}
use Rattle.il_machine.specs.Places.{first_place}
use Rattle.il_machine.specs.Room.{is_by_client}
use Rattle.il_machine.specs.Due.{Thing, Transition, Flush, PortMode, WaitingMark, has_due, first_due, reset_on, reached, completed_for, lost_by, arrived_at, arrived, mode_completion, all_told, transition_happened, at_port, flush_happened, mode_happened, mark_happened, happened, Happens, HappenTimes, ClosesTo, restarted, with_part, all_given_back, waits_after}
use Rattle.il_machine.proofs.Places.{is_first_place}
use Rattle.machine_laws.proofs.Finding.{either}
use Rattle.bare_run_laws.specs.Bare.{bare, bare_component}

-- ---- lists

pub map_set : (f : Component → Component) (cs : List Component) (i : ℕ) (d : Component) → set (map f cs) i (f d) ≡ map f (set cs i d)
map_set f [] i d = refl
map_set f (c ∷ cs) zero d = refl
map_set f (c ∷ cs) (suc i) d = ap (λ (l : List Component). f c ∷ l) (map_set f cs i d)

map_place : (headers : Seen) (cs : List Component) → first_place (has_due headers) (map bare_component cs) ≡ first_place (has_due headers) cs
map_place headers [] = refl
map_place headers (c ∷ cs) = ap (λ (o : Option ℕ). cond (has_due headers c) (Some 0) (option_map suc o)) (map_place headers cs)

pub first_same : (w : World) → first_due (look (bare w)) ≡ first_due (look w)
first_same w =
    is_first_place (has_due (seen w.headers)) (map bare_component w.components)
    ∙ (map_place (seen w.headers) w.components ∙ sym (is_first_place (has_due (seen w.headers)) w.components))

-- ---- a component whose transition happens

reset_same : (target : State) (c : Component) (hs : List HeaderRecord) → reset_on (bare_component c) target hs ≡ reset_on c target hs
reset_same Idle c hs = refl
reset_same Invalid c hs = refl
reset_same Loaded c hs = refl
reset_same Executing c hs = refl
reset_same Pause c hs = refl
reset_same WaitForResources c hs = refl

client_same : (p : Pending) (c : Component) → completed_for p (bare_component c) ≡ bare_component (completed_for p c)
client_same p c = either (is_by_client p.cause) (λ t. rw t refl) (λ f. rw f refl)

lost_same : (p : Pending) (c : Component) → lost_by p (bare_component c) ≡ bare_component (lost_by p c)
lost_same p c = either (c.loss_mark || not (is_by_client p.cause)) (λ t. rw t refl) (λ f. rw f refl)

arrived_same : (number : ℕ) (target : State) (p : Pending) (c : Component) → arrived_at number target p (bare_component c) ≡ bare_component (arrived_at number target p c)
arrived_same number Idle p c = either (is_down c.state)
    (λ t. rw t refl)
    (λ f.
    let r : Component = with_part (restarted c) (reached p c) in
    rw f (ap (lost_by p) (client_same p r) ∙ lost_same p (completed_for p r)))
arrived_same number Loaded p c = client_same p (all_given_back (reached p c))
arrived_same number Invalid p c = refl
arrived_same number Executing p c = refl
arrived_same number Pause p c = refl
arrived_same number WaitForResources p c = refl

mode_same : (mode : Mode) (port : ℕ) (c : Component) → all_told (mode_completion mode port) (bare_component c) ≡ bare_component (all_told (mode_completion mode port) c)
mode_same Steady port c = refl
mode_same Enabling port c = refl
mode_same Disabling port c = refl

-- ---- the world when a thing happens

-- the components, where one gave way to another
put_same : (cs : List Component) (i : ℕ) (d e : Component) → d ≡ bare_component e → set (map bare_component cs) i d ≡ map bare_component (set cs i e)
put_same cs i d e s = ap (λ (x : Component). set (map bare_component cs) i x) s ∙ map_set bare_component cs i e

transition_same : (i : ℕ) (c : Component) (o : Option Pending) (w : World) → transition_happened i (bare_component c) o (bare w) ≡ bare (transition_happened i c o w)
transition_same i c None w = refl
transition_same i c (Some p) w =
    let a = put_same w.components i (arrived w.waits p (bare_component c)) (arrived w.waits p c) (arrived_same w.waits p.target p c) in
    let b = reset_same p.target c w.headers in
    λ j. record { key = 0; components = a j; headers = b j; given = w.given; streams = w.streams; units = w.units; numbered = w.numbered; made = w.made; waits = waits_after p.target w.waits }

flush_same : (i : ℕ) (c : Component) (o : Option Port) (w : World) → at_port o (flush_happened i (bare_component c)) (bare w) ≡ bare (at_port o (flush_happened i c) w)
flush_same i c None w = refl
flush_same i c (Some p) w =
    let a = map_set bare_component w.components i _ in
    λ j. record (flush_happened i (bare_component c) p (bare w)) { components = a j }

mark_same : (i : ℕ) (c : Component) (o : Option Port) (w : World) → at_port o (mark_happened i (bare_component c)) (bare w) ≡ bare (at_port o (mark_happened i c) w)
mark_same i c None w = refl
mark_same i c (Some p) w =
    let a = map_set bare_component w.components i _ in
    λ j. record (mark_happened i (bare_component c) p (bare w)) { components = a j }

port_mode_same : (i : ℕ) (c : Component) (o : Option Port) (w : World) → at_port o (mode_happened i (bare_component c)) (bare w) ≡ bare (at_port o (mode_happened i c) w)
port_mode_same i c None w = refl
port_mode_same i c (Some p) w =
    let m : Component = with_port p.key.port (record p.state { mode = Steady }) c in
    let d : Component = all_told (mode_completion p.state.mode p.key.port) m in
    let a = put_same w.components i (all_told (mode_completion p.state.mode p.key.port) (bare_component m)) d (mode_same p.state.mode p.key.port m) in
    λ j. record (mode_happened i (bare_component c) p (bare w)) { components = a j }

happened_same : (i : ℕ) (c : Component) (thing : Thing) (w : World) → happened i (bare_component c) thing (bare w) ≡ bare (happened i c thing w)
happened_same i c Transition w = transition_same i c c.pending w
happened_same i c (Flush port) w = flush_same i c (port_of c port) w
happened_same i c (PortMode port) w = port_mode_same i c (port_of c port) w
happened_same i c (WaitingMark port) w = mark_same i c (port_of c port) w

happens_same : (w v : World) → Happens w v → Happens (bare w) (bare v)
happens_same w v H = record {
  place = H.place;
  component = bare_component H.component;
  thing = H.thing;
  first = first_same w ∙ H.first;
  there = slice_get-map bare_component w.components H.place ∙ ap (option_map bare_component) H.there;
  due = H.due;
  after = ap bare H.after ∙ sym (happened_same H.place H.component H.thing w);
}

times_same : (n : ℕ) (w v : World) → HappenTimes n w v → HappenTimes n (bare w) (bare v)
times_same zero w v e = ap bare e
times_same (suc n) w v (mid, before, last) = (bare mid, times_same n w mid before, happens_same mid v last)

-- The close-out leads to the same world, but for the slot.
pub bare_closes : (w v : World) → ClosesTo w v → ClosesTo (bare w) (bare v)
bare_closes w v C = record { steps = C.steps; by_steps = times_same C.steps w v C.by_steps; closed = first_same v ∙ C.closed }
