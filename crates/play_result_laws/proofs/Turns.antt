-- The component that has a turn, and what it is set to.
use Rattle.std.proofs.Common.{◌≡◌, ℕ, ◌<◌, ◌≤◌, false, length, slice_get, Some, None, option_and_then, refl, ◌∙◌, ap, arith}
use Rattle.std.proofs.lemmas.Option.{get_or_from_slice_get, slice_get_past, slice_get_within}
use Rattle.script_lang.specs.declared.play_line.PartLine.{PartLine}
use Rattle.play_forms.specs.Plans.{IsValid, PlanValue}
use Rattle.play_world_laws.proofs.Lists.{get_there}
use Rattle.play_plan_laws.specs.Casting.{place_of, turn_of}
use Rattle.play_plan_laws.proofs.Casts.{plan_has_cast}
use Rattle.play_plan_laws.proofs.Links.{one_turn}
use Rattle.play_plan_laws.proofs.Turns.{few_turns, turn_at}
use Rattle.play_plan_laws.specs.Assemblies.{PlayFiles}
use Rattle.play_result_laws.specs.Terms.{no_terms, part_at, terms_at, terms_by, terms_in}

pub record IsSeat (plan : PlanValue) (c place : ℕ) (part : PartLine) : Type 0 where
  pub turn : slice_get plan.order c ≡ Some place
  pub place_is : place_of plan c ≡ place
  pub there : slice_get plan.parts place ≡ Some part

module _ (plan : PlanValue) (V : IsValid plan) where
  placed : (c : ℕ) → c < length plan.parts → slice_get plan.order c ≡ Some (place_of plan c)
  placed c l = (plan_has_cast plan (λ i. false) V).placed c l

  pub seat_at : (c : ℕ) → c < length plan.parts → (part : PartLine) × IsSeat plan c (place_of plan c) part
  seat_at c l =
      let t = placed c l in
      let p = get_there plan.parts (place_of plan c) ((V.placed).placed c (place_of plan c) t).there in
      (p.0, record { turn = t; place_is = refl; there = p.1 })

  -- the turn of a component
  pub seat_of : (place : ℕ) (part : PartLine) → slice_get plan.parts place ≡ Some part → (turn_of plan place < length plan.parts) × IsSeat plan (turn_of plan place) place part
  seat_of place part e =
      let t = turn_at plan.order place ((V.placed).all place (slice_get_within plan.parts place part e)) in
      let w = slice_get_within plan.order (turn_of plan place) place t in
      let few = few_turns plan.joints (length plan.parts) plan.order V.placed in
      (omega arith, record { turn = t; place_is = get_or_from_slice_get plan.order (turn_of plan place) place 0 t; there = e })

  pub turn_is : (c place : ℕ) (part : PartLine) → IsSeat plan c place part → turn_of plan place ≡ c
  turn_is c place part S = one_turn plan.joints (length plan.parts) plan.order V.placed (turn_of plan place) c place ((seat_of place part S.there).1).turn S.turn

  pub none_at : (c : ℕ) → length plan.parts ≤ c → part_at plan c ≡ None
  none_at c l =
      let few = few_turns plan.joints (length plan.parts) plan.order V.placed in
      ap (option_and_then (slice_get plan.parts)) (slice_get_past plan.order c (omega arith))

pub part_is : (plan : PlanValue) (c place : ℕ) (part : PartLine) → IsSeat plan c place part → part_at plan c ≡ Some part
part_is plan c place part S = ap (option_and_then (slice_get plan.parts)) S.turn ∙ S.there

pub terms_is : (plan : PlanValue) (files : PlayFiles) (c place : ℕ) (part : PartLine) → IsSeat plan c place part → terms_in plan files c ≡ terms_by plan files place part
terms_is plan files c place part S = let e = S.place_is in let p = part_is plan c place part S in λ i. terms_at plan files (e i) (p i)

pub no_terms_is : (plan : PlanValue) (files : PlayFiles) (c : ℕ) → IsValid plan → length plan.parts ≤ c → terms_in plan files c ≡ no_terms
no_terms_is plan files c V l = ap (terms_at plan files (place_of plan c)) (none_at plan V c l)
