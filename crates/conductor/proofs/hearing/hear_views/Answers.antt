use Rattle.std.proofs.Common.{◌≡◌, ◌+◌, ◌<◌, ◌++◌, List, length, take, drop, Some, None, sym, ◌∙◌, ap, subst, arith}
use Rattle.std.specs.Prelude.{slice_get}
use Rattle.std.proofs.lemmas.List.{length-set}
use Rattle.il_machine.specs.declared.answer.Progress.{Progress}
use Rattle.conductor.specs.Hearing.{heard_views}
use Rattle.stream_plan.proofs.Lists.{there_at}
use Rattle.conductor.proofs.Hearings.{none_more, view_more}
use Rattle.conductor.proofs.hearing.hear_views.Goals as goal
use Rattle.conductor.proofs.hearing.hear_views.Goals.{in-Some, in_default}

pub loop-place-preserved : goal.loop-place-preserved
loop-place-preserved c =
    let told = c.loop-place.told in
    let views = c.args.views.now in
    let k = c.loop-place.place in
    let many : length told ≡ length views = c.loop-place.invariant.many in
    let below : k < length views = c.loop-place-test.true in
    let inside : k < length told = omega arith in
    let P : List Progress → Type 0 = λ after. take (k + 1) after ++ heard_views (drop (k + 1) after) (drop (k + 1) views) ≡ heard_views c.args.told.now views in
    elim c.match-views-place.branch [
      | in-Some w ↦
          let there : slice_get views k ≡ Some (Some w.in-Some.view) = there_at views k None below ∙ ap Some w.in-Some.is in
          record {
            many = ap length w.told-is ∙ length-set told k w.in-Some.view ∙ many;
            heard = subst P (sym w.told-is) (view_more told views k w.in-Some.view there inside ∙ c.loop-place.invariant.heard);
          }
      | in_default w ↦
          let there : slice_get views k ≡ Some None = there_at views k None below ∙ ap Some w.in_default.is in
          record {
            many = ap length w.told-is ∙ many;
            heard = subst P (sym w.told-is) (none_more told views k there inside ∙ c.loop-place.invariant.heard);
          }
    ]
