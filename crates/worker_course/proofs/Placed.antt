-- The seats of a graph that was made are those of its components.
use Rattle.std.proofs.Common.{◌≡◌, inl, inr, ℕ, zero, suc, ◌+◌, ◌<◌, ◌≤◌, List, [], ◌∷◌, length, map, set, slice_get, take, Some, option_map, refl, sym, ◌∙◌, ap, subst, arith}
use Rattle.std.specs.Prelude.{nat_lt}
use Rattle.std.proofs.lemmas.Bool.{cases_eq}
use Rattle.std.proofs.lemmas.List.{length-map}
use Rattle.std.proofs.lemmas.Option.{slice_get-map, slice_get_within}
use Rattle.omx_types.specs.declared.handle.Handle.{Handle}
use Rattle.il_machine.specs.declared.answer.Progress.{Progress}
use Rattle.il_machine.specs.World.{Component}
use Rattle.machine_laws.proofs.Every.{set_else, set_there}
use Rattle.il_graph.specs.Shown.{Shown}
use Rattle.script_lang.specs.declared.play_line.PartLine.{PartLine}
use Rattle.play_forms.specs.Plans.{PlanValue}
use Rattle.play_build_laws.specs.Stages.{Joining}
use Rattle.play_build_laws.proofs.Places.{get_there}
use Rattle.play_plan_laws.specs.Assemblies.{PlayFiles}
use Rattle.play_graph.specs.Graphs.{IsHandleAt}
use Rattle.play_graph.specs.Making.{IsAt, IsMade, SomeAt}
use Rattle.work_signs.specs.declared.seat.Seat.{Seat}
use Rattle.work_signs.specs.Seats.{AreSeatsOf, inputs_by}
use Rattle.conducting_thread.specs.Seating.{AreSeatsFor}
use Rattle.worker_course.specs.Seated.{AreHandles, AreSeated}

-- lists with the same at each place
pub same_lists : {X : Type 0} (xs ys : List X) → length xs ≡ length ys → ((i : ℕ) → i < length xs → slice_get xs i ≡ slice_get ys i) → xs ≡ ys
same_lists [] [] n h = refl
same_lists [] (y ∷ ys) n h = absurd (omega arith)
same_lists (x ∷ xs) [] n h = absurd (omega arith)
same_lists (x ∷ xs) (y ∷ ys) n h =
    let first : Some x ≡ Some y = h 0 (omega arith) in
    let rest = same_lists xs ys (omega arith) (λ i b. h (suc i) (omega arith)) in
    cc

module _ {S K : Type 0} (plan : PlanValue) (given : PlayFiles) (graph : Shown S K Progress) (A : IsAt plan given (Joining (length plan.joints)) graph) (seats : List Seat) (Z : AreSeated plan graph seats) where
  many : length A.world.components ≡ length plan.parts
  many = A.built.built.many

  -- the component at a place, with the handle of that place
  there : (place : ℕ) → place < length plan.parts → (c : Component) × (slice_get A.world.components place ≡ Some c) × (slice_get Z.handles place ≡ Some c.handle)
  there place b =
      let m = many in
      let c = get_there A.world.components place (omega arith) in
      let h = Z.named place b in
      let e : option_map (λ (a : Component). a.handle) (slice_get A.world.components place) ≡ Some h.0 = h.2 A.world A.stands in
      let s : Some c.0.handle ≡ Some h.0 = ap (option_map (λ (a : Component). a.handle)) (sym c.1) ∙ e in
      (c.0, c.1, h.1 ∙ sym s)

  pub handles_are : Z.handles ≡ A.handles
  handles_are =
      let are = A.built.built.handles_are in
      let n = length-map A.world.components (λ (a : Component). a.handle) in
      let m = many in
      let z = Z.many in
      let l : length Z.handles ≡ length (map (λ (a : Component). a.handle) A.world.components) = omega (arith, n, m, z) in
      same_lists Z.handles (map (λ (a : Component). a.handle) A.world.components) l (λ i b.
      let t = there i (omega (arith, b, z)) in
      t.2 ∙ sym (slice_get-map (λ (a : Component). a.handle) A.world.components i ∙ ap (option_map (λ (a : Component). a.handle)) t.1)) ∙ are

  pub seats_of : AreSeatsOf plan.parts A.handles seats
  seats_of = subst (λ (handles : List Handle). AreSeatsOf plan.parts handles seats) handles_are Z.seats_are

  seat_count : length seats ≡ length plan.parts
  seat_count = sym (length-map seats (λ (seat : Seat). seat.handle)) ∙ (ap length Z.seats_are.seated ∙ Z.many)

  inputs_at : (place : ℕ) (part : PartLine) (seat : Seat) → slice_get plan.parts place ≡ Some part → slice_get seats place ≡ Some seat → seat.inputs ≡ inputs_by part
  inputs_at place part seat p s =
      let a = slice_get-map (λ (y : Seat). y.inputs) seats place ∙ ap (option_map (λ (y : Seat). y.inputs)) s in
      let b = slice_get-map inputs_by plan.parts place ∙ ap (option_map inputs_by) p in
      let e : Some seat.inputs ≡ Some (inputs_by part) = sym a ∙ (ap (λ (ns : List ℕ). slice_get ns place) Z.seats_are.inputs ∙ b) in
      cc

  numbered_at : (place : ℕ) (seat : Seat) → slice_get seats place ≡ Some seat → (seat.handle).generation ≡ place
  numbered_at place seat s =
      let b = slice_get_within seats place seat s in
      let n = seat_count in
      let t = there place (omega (arith, b, n)) in
      let a = slice_get-map (λ (y : Seat). y.handle) seats place ∙ ap (option_map (λ (y : Seat). y.handle)) s in
      let e : Some seat.handle ≡ Some t.0.handle = sym a ∙ (ap (λ (hs : List Handle). slice_get hs place) Z.seats_are.seated ∙ t.2) in
      let same : seat.handle ≡ t.0.handle = cc in
      ap (λ (h : Handle). h.generation) same ∙ (A.built.built.components.each place t.0 t.1).number

  pub seats_for : AreSeatsFor plan seats
  seats_for = record {
    many = seat_count;
    numbered = numbered_at;
    inputs = λ place part seat port p s. ap (λ (n : ℕ). nat_lt port n) (inputs_at place part seat p s);
  }

-- ---- one by one

front_at : {X : Type 0} (xs : List X) (n i : ℕ) → i < n → slice_get (take n xs) i ≡ slice_get xs i
front_at xs zero i b = absurd (omega arith)
front_at [] (suc n) i b = refl
front_at (x ∷ xs) (suc n) zero b = refl
front_at (x ∷ xs) (suc n) (suc i) b = front_at xs n i (omega arith)

front_count : {X : Type 0} (xs : List X) (n : ℕ) → n ≤ length xs → length (take n xs) ≡ n
front_count xs zero b = refl
front_count [] (suc n) b = absurd (omega arith)
front_count (x ∷ xs) (suc n) b = let r = front_count xs n (omega arith) in omega arith

module _ {S K : Type 0} (graph : Shown S K Progress) where
  -- each component of an assembled graph is made
  pub is_made : (plan : PlanValue) → SomeAt plan (Joining (length plan.joints)) graph → (place : ℕ) → place < length plan.parts → IsMade place graph
  is_made plan (given, A) place b = let m = A.built.built.many in (A.world, A.stands, omega (arith, b, m))

  pub none_named : (handles : List Handle) → AreHandles graph 0 handles
  none_named handles place b = absurd (omega (arith, b))

  pub named_more : (handles : List Handle) (place : ℕ) (h : Handle) → place < length handles → AreHandles graph place handles → IsHandleAt graph place h → AreHandles graph (place + 1) (set handles place h)
  named_more handles place h b named is i below = elim (cases_eq i place) [
    | inl same ↦ (
      h,
      subst (λ (n : ℕ). slice_get (set handles place h) n ≡ Some h) (sym same) (let t = get_there handles place b in set_there handles place t.0 h t.1),
      subst (λ (n : ℕ). IsHandleAt graph n h) (sym same) is,
    )
    | inr other ↦
        let t = named i (omega (arith, below, other)) in
        (t.0, set_else handles place i h other ∙ t.1, t.2)
  ]

  reach : (handles : List Handle) (places : ℕ) → AreHandles graph places handles → places ≤ length handles
  reach handles zero named = omega arith
  reach handles (suc place) named = let t = named place (omega arith) in let b = slice_get_within handles place t.0 t.1 in omega arith

  -- those of the first places
  pub seated_front : (plan : PlanValue) (handles : List Handle) (places : ℕ) (seats : List Seat) → places ≡ length plan.parts → AreHandles graph places handles
      → AreSeatsOf plan.parts (take places handles) seats → AreSeated plan graph seats
  seated_front plan handles places seats all named are = record {
    handles = take places handles;
    many = front_count handles places (reach handles places named) ∙ all;
    named = λ place b.
        let below : place < places = omega (arith, b, all) in
        let t = named place below in
        (t.0, front_at handles places place below ∙ t.1, t.2);
    seats_are = are;
  }
