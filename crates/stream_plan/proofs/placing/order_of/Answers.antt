use Rattle.std.proofs.Common.{◌≡◌, ◌<◌, true, false, [], ◌∷◌, ◌++◌, length, get_or, refl, sym, subst}
use Rattle.play_forms.specs.Placing.{ArePlaced, IsNext, can_place, has_place}
use Rattle.stream_plan.proofs.Lefts.{left_less, left_of, new_place, placed_more}
use Rattle.stream_plan.proofs.Lists.{there_at}
use Rattle.stream_plan.proofs.placing.order_of.Goals as goal

pub loop-place-smaller : goal.loop-place-smaller
loop-place-smaller c =
    let count = length c.args.parts.now in
    let before = c.loop-place.order.items in
    let next : IsNext c.args.joints.now count before c.in-Some.place =
    subst (λ placed. IsNext c.args.joints.now count placed c.in-Some.place) c.as_slice.ensures.value c.in-Some.ensures.next in
    let pushed : c.push.new.self.items ≡ before ++ (c.in-Some.place ∷ []) = c.in_ok-push.ensures.items in
    subst (λ placed. left_of count placed < left_of count before) (sym pushed)
    (left_less count before c.in-Some.place next.there (new_place c.args.joints.now count before c.in-Some.place next))

pub loop-place-preserved : goal.loop-place-preserved
loop-place-preserved c =
    let count = length c.args.parts.now in
    let before = c.loop-place.order.items in
    let next : IsNext c.args.joints.now count before c.in-Some.place =
    subst (λ placed. IsNext c.args.joints.now count placed c.in-Some.place) c.as_slice.ensures.value c.in-Some.ensures.next in
    let pushed : c.push.new.self.items ≡ before ++ (c.in-Some.place ∷ []) = c.in_ok-push.ensures.items in
    subst (ArePlaced c.args.joints.now count) (sym pushed)
    (placed_more c.args.joints.now count before c.in-Some.place c.loop-place.invariant next)

pub returns-in-Some-first_left-clause-cycle : goal.returns-in-Some-first_left-clause-cycle
returns-in-Some-first_left-clause-cycle c =
    let parts = c.args.parts.now in
    let joints = c.args.joints.now in
    let order = c.loop-place.order.items in
    let left = c.in-Some-first_left.ensures.left in
    let value : c.as_slice.result.now ≡ order = c.as_slice.ensures.value in
    let value_2 : c.as_slice-2.result.now ≡ order = c.as_slice-2.ensures.value in
    record {
      placed = order;
      are_placed = c.loop-place.invariant;
      no_more = λ place below. subst (λ placed. can_place joints placed place ≡ false) value (c.in_default.ensures.none place below);
      place = c.in-Some-first_left.left;
      part = get_or parts c.in-Some-first_left.left c.index-parts-left.result;
      there = there_at parts c.in-Some-first_left.left c.index-parts-left.result left.there;
      its_line = refl;
      left = subst (λ placed. has_place placed c.in-Some-first_left.left ≡ false) value_2 left.left;
      first = λ before below. subst (λ placed. has_place placed before ≡ true) value_2 (left.first before below);
    }
