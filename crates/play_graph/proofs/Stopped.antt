-- The components of a graph are made Invalid, one after the other.
use Rattle.std.proofs.Common.{◌≡◌, ℕ, ◌+◌, ◌<◌, length, Result, Ok, Err, sym, ◌∙◌, ap, arith}
use Rattle.std.specs.Prelude.{option_map, unwrap_or}
use Rattle.omx_types.specs.declared.command.Command.TheVariants.{StateSet}
use Rattle.omx_types.specs.declared.error.OmxError.{OmxError}
use Rattle.omx_types.specs.declared.handle.Handle.{Handle}
use Rattle.omx_types.specs.declared.state.State.TheVariants.{Invalid}
use Rattle.il_machine.specs.declared.answer.Progress.{Progress}
use Rattle.il_machine.specs.Commands.{SendCommand}
use Rattle.il_machine.specs.Due.{IsClosed}
use Rattle.il_machine.specs.Whole.{Always, Stands, Steps, StepsWhere}
use Rattle.il_machine.specs.World.{Component, World}
use Rattle.il_graph.specs.Shown.{Shown, look_of}
use Rattle.std.proofs.lemmas.Option.{slice_get_within}
use Rattle.play_build_laws.specs.Halting.{CanStop, HasEvents, IsSameButNotes, IsStoppedIn, KeepsFiles, notes_at}
use Rattle.play_build_laws.proofs.Invalid.{one_stopped, stops}
use Rattle.play_build_laws.proofs.Linked.{work_none}
use Rattle.play_build_laws.proofs.Notes.{has_events, notes_apart}
use Rattle.play_forms.specs.Plans.{PlanValue}
use Rattle.play_plan_laws.specs.Endings.{ends_of}
use Rattle.play_graph.specs.Ending.{StandsFor}
use Rattle.play_graph.specs.Graphs.{IsHandleAt, kept_of}
use Rattle.play_graph.specs.Making.{IsMade}
use Rattle.play_graph.proofs.Naming.{named_at}
use Rattle.play_graph.specs.Stops.{HasStopped}
use Rattle.play_graph.proofs.Joining.{files_then}
use Rattle.play_graph.proofs.Noted.{notes_shown}

-- ---- worlds

module _ (plan : PlanValue) (place : ℕ) (below : place < length plan.parts) where
  has_events_in : (w : World) → HasStopped plan place w → HasEvents place w
  has_events_in w A = let m = A.many in has_events (ends_of plan) (length plan.joints) place w A.linked (omega (arith, m, below))

  noted : (n : ℕ) (w v : World) → HasStopped plan n w → HasEvents place v → IsSameButNotes w v → HasStopped plan n v × KeepsFiles w v
  noted n w v A E B =
      let x = notes_apart (ends_of plan) (length plan.joints) n w v A.linked A.stopped B E.sound in
      (record { many = B.many ∙ A.many; linked = x.0; stopped = x.1 }, x.2)

  -- the component is stopped, and its notes can be taken again
  stopped_next : (w v : World) → HasStopped plan place w → IsStoppedIn place w v → HasStopped plan (place + 1) v × KeepsFiles w v
  stopped_next w v A B =
      let x = one_stopped (ends_of plan) (length plan.joints) place w v A.linked A.stopped B in
      let m = (x.2).many in
      (record { many = m ∙ A.many; linked = x.0; stopped = x.1 }, x.2)

  events_after : (v : World) → HasStopped plan (place + 1) v → HasEvents place v
  events_after v A = let m = A.many in has_events (ends_of plan) (length plan.joints) place v A.linked (omega (arith, m, below))

module _ {S K : Type 0} where
  -- ---- one is made Invalid

  pub stop_there : (place : ℕ) (g : Shown S K Progress) → StandsFor (CanStop place) g → IsMade place g
  stop_there place g (w, s, C) = (w, s, slice_get_within w.components place C.component C.there)

  module _ (place : ℕ) (g m : Shown S K Progress) (h : Handle) (H : IsHandleAt g place h) (closed : Always (kept_of g) IsClosed) where
    stopped_in : (r : Result (Unit {0}) OmxError) → Steps (kept_of g) (kept_of m) (λ w v. SendCommand w h (StateSet Invalid) r v) → (w : World) → Stands (kept_of g) w → CanStop place w
        → (v : World) × Stands (kept_of m) v × (r ≡ Ok tt) × IsStoppedIn place w v
    stopped_in r sends w s C =
        let v = sends w s in
        let x = stops place w v.0 h r C (closed w s) (named_at w place h C.sound (H w s)) v.2 in
        (v.0, v.1, x.0, x.1)

    pub never_refused : (e : OmxError) → StandsFor (CanStop place) g → Steps (kept_of g) (kept_of m) (λ w v. SendCommand w h (StateSet Invalid) (Err e) v) → ⊥
    never_refused e (w, s, C) sends = let x = (stopped_in (Err e) sends w s C).2 in absurd cc

    pub stop_steps : (r : Result (Unit {0}) OmxError) → Steps (kept_of g) (kept_of m) (λ w v. SendCommand w h (StateSet Invalid) r v) → StepsWhere (kept_of g) (kept_of m) (CanStop place) (IsStoppedIn place)
    stop_steps r sends = λ w s C. let x = stopped_in r sends w s C in (x.0, x.1, x.3)

  -- ---- one after the other

  module _ (plan : PlanValue) (place : ℕ) (below : place < length plan.parts) where
    pub events_stand : (g : Shown S K Progress) → StandsFor (HasStopped plan place) g → StandsFor (HasEvents place) g
    events_stand g (w, s, A) = (w, s, has_events_in plan place below w A)

    can_stop_in : (m : Shown S K Progress) (v : World) → Stands (kept_of m) v → notes_at place (look_of m) ≡ 0 → HasStopped plan place v → HasEvents place v → CanStop place v
    can_stop_in m v s none A E = record {
      sound = E.sound;
      component = E.component;
      there = E.there;
      valid = A.stopped.valid place E.component (omega arith) E.there;
      work = work_none (ends_of plan) (length plan.joints) v A.linked place E.component E.there;
      notes = sym (ap (λ o. unwrap_or (option_map (λ (c : Component). length c.notes) o) 0) E.there) ∙ (notes_shown place m v s ∙ none);
    }

    module _ (g k m : Shown S K Progress) (one : StepsWhere (kept_of g) (kept_of k) (HasEvents place) (λ w v. HasEvents place v × IsSameButNotes w v)) (none : notes_at place (look_of k) ≡ 0) where
      taken_in : (w : World) → Stands (kept_of g) w → HasStopped plan place w → (v : World) × Stands (kept_of k) v × CanStop place v × HasStopped plan place v × KeepsFiles w v
      taken_in w s A =
          let v = one w s (has_events_in plan place below w A) in
          let x = noted plan place below place w v.0 A v.2.0 v.2.1 in
          (v.0, v.1, can_stop_in k v.0 v.1 none x.0 v.2.0, x.0, x.1)

      pub can_stand : StandsFor (HasStopped plan place) g → StandsFor (CanStop place) k
      can_stand (w, s, A) = let v = taken_in w s A in (v.0, v.1, v.2)

      module _ (two : StepsWhere (kept_of k) (kept_of m) (CanStop place) (IsStoppedIn place)) where
        stopped_at : (w : World) → Stands (kept_of g) w → HasStopped plan place w → (v : World) × Stands (kept_of m) v × HasStopped plan (place + 1) v × KeepsFiles w v
        stopped_at w s A =
            let v = taken_in w s A in
            let u = two v.0 v.1 v.2 in
            let x = stopped_next plan place below v.0 u.0 v.3 u.2 in
            (u.0, u.1, x.0, files_then w v.0 u.0 v.4 x.1)

        pub events_stand_then : StandsFor (HasStopped plan place) g → StandsFor (HasEvents place) m
        events_stand_then (w, s, A) = let u = stopped_at w s A in (u.0, u.1, events_after plan place below u.0 u.2)

        pub component_stops : (n : Shown S K Progress) → StepsWhere (kept_of m) (kept_of n) (HasEvents place) (λ w v. HasEvents place v × IsSameButNotes w v)
            → StepsWhere (kept_of g) (kept_of n) (HasStopped plan place) (λ w v. HasStopped plan (place + 1) v × KeepsFiles w v)
        component_stops n three = λ w s A.
            let u = stopped_at w s A in
            let v = three u.0 u.1 (events_after plan place below u.0 u.2) in
            let x = noted plan place below (place + 1) u.0 v.0 u.2 v.2.0 v.2.1 in
            (v.0, v.1, (x.0, files_then w u.0 v.0 u.3 x.1))
