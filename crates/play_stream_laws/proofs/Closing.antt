-- What the close-out keeps: what went through the files, and what components are set to.
use Rattle.std.proofs.Common.{◌≡◌, ℕ, zero, suc, Bool, true, false, ◌||◌, not, List, [], ◌∷◌, set, slice_get, Option, Some, None, option_and_then, option_map, refl, sym, ◌∙◌, ap, subst, if◌then◌else◌}
use Rattle.omx_types.specs.declared.command.Event.{Event}
use Rattle.omx_types.specs.declared.state.State.{State}
use Rattle.omx_types.specs.declared.state.State.TheVariants as states
use Rattle.il_machine.specs.declared.answer.Pending.{Pending}
use Rattle.il_machine.specs.declared.port.Port.{Port}
use Rattle.il_machine.specs.declared.port.PortKey.{PortKey}
use Rattle.il_machine.specs.Due.{Thing, Transition, Flush, PortMode, WaitingMark, Happens, HappenTimes, ClosesTo, all_told, arrived, arrived_at, at_port, completed, completed_for, flush_happened, happened, lost_by, mark_happened, mode_completion, mode_happened, reached, restarted, transition_happened, with_part}
use Rattle.il_machine.specs.Lists.{holds_at}
use Rattle.il_machine.specs.Room.{is_by_client}
use Rattle.il_machine.specs.States.{is_down}
use Rattle.il_machine.specs.World.{Component, Work, World, port_of}
use Rattle.machine_laws.proofs.Finding.{either}
use Rattle.play_world_laws.specs.View.{worked_at}
use Rattle.play_world_laws.specs.Cast.{Cast, input_at, output_at}
use Rattle.play_world_laws.specs.Standing.{pending_at, pending_to}
use Rattle.play_world_laws.specs.Wiring.{work_in}
use Rattle.play_world_laws.proofs.Lists.{got_set}
use Rattle.play_stream_laws.specs.Flowing.{bytes_on}
use Rattle.play_stream_laws.proofs.Keeping.{Keeps, KeepsFlow, part_in, seat}

-- ---- one after another

pub keeps_none : (w : World) → Keeps w w
keeps_none w = record { streams = refl; seats = λ i. refl }

pub keeps_twice : (w u v : World) → Keeps w u → Keeps u v → Keeps w v
keeps_twice w u v K L = record { streams = L.streams ∙ K.streams; seats = λ i. L.seats i ∙ K.seats i }

pub flow_none : (x : Cast) (w : World) → KeepsFlow x w w
flow_none x w = record { bytes = λ l d. refl; parts = λ i. refl }

pub flow_twice : (x : Cast) (w u v : World) → KeepsFlow x w u → KeepsFlow x u v → KeepsFlow x w v
flow_twice x w u v K L = record { bytes = λ l d. L.bytes l d ∙ K.bytes l d; parts = λ i. L.parts i ∙ K.parts i }

-- ---- one component changes

module _ (w v : World) (i : ℕ) (a d : Component) (e : slice_get w.components i ≡ Some a) (c : v.components ≡ set w.components i d) where
  pub one_keeps : v.streams ≡ w.streams → seat d ≡ seat a → Keeps w v
  one_keeps s t = record {
    streams = s;
    seats = λ j. ap (λ (cs : List Component). option_map seat (slice_get cs j)) c ∙ got_set (option_map seat) w.components i j a d e (ap Some t);
  }

  works_kept : d.work ≡ a.work → (key : PortKey) → work_in v.components key ≡ work_in w.components key
  works_kept k key =
      ap (λ (cs : List Component). work_in cs key) c
      ∙ got_set (λ (o : Option Component). worked_at (option_and_then (λ y. y.work) o) key.port) w.components i key.component a d e (ap (λ (o : Option Work). worked_at o key.port) k)

  pub parts_kept : d.part ≡ a.part → (j : ℕ) → option_map part_in (slice_get v.components j) ≡ option_map part_in (slice_get w.components j)
  parts_kept r j = ap (λ (cs : List Component). option_map part_in (slice_get cs j)) c ∙ got_set (option_map part_in) w.components i j a d e (ap Some r)

  pub one_flow : (x : Cast) → v.headers ≡ w.headers → d.work ≡ a.work → d.part ≡ a.part → KeepsFlow x w v
  one_flow x h k r = record { bytes = λ l b. let m = works_kept k (input_at x l) in λ i. bytes_on (output_at x l) (input_at x l) (m i) (h i); parts = parts_kept r }

-- ---- what happens keeps what components are set to

seat_if : (b : Bool) (a c d : Component) → seat c ≡ seat a → seat d ≡ seat a → seat (if b then c else d) ≡ seat a
seat_if true a c d s t = s
seat_if false a c d s t = t

seat_arrived : (n : ℕ) (t : State) (p : Pending) (a : Component) → seat (arrived_at n t p a) ≡ seat a
seat_arrived n states.Idle p a =
    let f : Component = with_part (restarted a) (reached p a) in
    let g : Component = completed_for p f in
    let told : seat g ≡ seat a = seat_if (is_by_client p.cause) a (completed p.target f) f refl refl in
    let gone : seat (lost_by p g) ≡ seat a = either (g.loss_mark || not (is_by_client p.cause)) (λ o. rw o told) (λ o. rw o told) in
    seat_if (is_down a.state) a (completed states.Idle (reached p a)) (lost_by p g) refl gone
seat_arrived n states.Loaded p a = seat_if (is_by_client p.cause) a _ _ refl refl
seat_arrived n states.WaitForResources p a = refl
seat_arrived n states.Executing p a = refl
seat_arrived n states.Pause p a = refl
seat_arrived n states.Invalid p a = refl

seat_told : (es : List Event) (a : Component) → seat (all_told es a) ≡ seat a
seat_told [] a = refl
seat_told (event ∷ es) a = seat_told es _

module _ (w : World) (i : ℕ) (a : Component) (e : slice_get w.components i ≡ Some a) where
  transition_keeps : (o : Option Pending) → Keeps w (transition_happened i a o w)
  transition_keeps None = keeps_none w
  transition_keeps (Some p) = one_keeps w (transition_happened i a (Some p) w) i a (arrived w.waits p a) e refl refl (seat_arrived w.waits p.target p a)

  at_port_keeps : (o : Option Port) (change : Port → World → World) → ((q : Port) → Keeps w (change q w)) → Keeps w (at_port o change w)
  at_port_keeps None change h = keeps_none w
  at_port_keeps (Some q) change h = h q

  thing_keeps : (t : Thing) → Keeps w (happened i a t w)
  thing_keeps Transition = transition_keeps a.pending
  thing_keeps (Flush port) = at_port_keeps (port_of a port) (flush_happened i a) (λ q. one_keeps w (flush_happened i a q w) i a _ e refl refl refl)
  thing_keeps (PortMode port) = at_port_keeps (port_of a port) (mode_happened i a) (λ q. one_keeps w (mode_happened i a q w) i a _ e refl refl (seat_told (mode_completion q.state.mode q.key.port) _))
  thing_keeps (WaitingMark port) = at_port_keeps (port_of a port) (mark_happened i a) (λ q. one_keeps w (mark_happened i a q w) i a _ e refl refl refl)

happens_keep : (w v : World) → Happens w v → Keeps w v
happens_keep w v H = subst (λ (u : World). Keeps w u) (sym H.after) (thing_keeps w H.place H.component H.there H.thing)

times_keep : (n : ℕ) (w v : World) → HappenTimes n w v → Keeps w v
times_keep zero w v h = subst (λ (u : World). Keeps w u) (sym h) (keeps_none w)
times_keep (suc n) w v h = keeps_twice w h.0 v (times_keep n w h.0 h.1) (happens_keep h.0 v h.2)

pub closes_keep : (w v : World) → ClosesTo w v → Keeps w v
closes_keep w v C = times_keep C.steps w v C.by_steps

-- ---- what is pending

-- in phase 2 it leads to Executing
pub pending_executing : (stage : ℕ) (p : Pending) → pending_at 2 stage ≡ Some p → p.target ≡ states.Executing
pending_executing zero p e = absurd cc
pending_executing (suc zero) p e = absurd cc
pending_executing (suc (suc zero)) p e = let s : pending_to states.Executing ≡ p = cc in ap (λ (q : Pending). q.target) (sym s)
pending_executing (suc (suc (suc n))) p e = absurd cc

pub is_pending : (o : Option Pending) (test : Pending → Bool) → holds_at o test ≡ true → (p : Pending) × (o ≡ Some p)
is_pending None test h = absurd cc
is_pending (Some p) test h = (p, refl)
