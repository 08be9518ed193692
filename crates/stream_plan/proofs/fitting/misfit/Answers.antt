use Rattle.std.proofs.Common.{◌≡◌, Some, None, ◌∙◌, subst, arith}
use Rattle.play_forms.specs.Fitting.{ComponentFits}
use Rattle.play_forms.proofs.Places.{Some_same}
use Rattle.stream_plan.proofs.Fits.{fit_all, fit_more}
use Rattle.stream_plan.proofs.fitting.misfit.Goals as goal
use Rattle.stream_plan.proofs.fitting.misfit.Goals.{in-Some+in_default-component_misfit, in_default}

pub loop-place-preserved : goal.loop-place-preserved
loop-place-preserved c =
    fit_more c.args.parts.now c.args.joints.now c.args.flows.now c.args.order.now c.loop-place.place-index c.loop-place.invariant c.loop-place-test.true
    (λ part there. elim c.match-part_at.branch [
      | in-Some+in_default-component_misfit w ↦
          let same : w.in-Some.part.now ≡ part = Some_same w.in-Some.part.now part (w.in-Some.ensures ∙ there) in
          subst (ComponentFits c.args.joints.now c.args.flows.now _) same w.in_default-component_misfit.ensures.none
      | in_default w ↦ let none : None ≡ Some part = w.in_default.ensures ∙ there in absurd cc
    ])

pub returns-clause-none : goal.returns-clause-none
returns-clause-none c =
    fit_all c.args.parts.now c.args.joints.now c.args.flows.now c.args.order.now c.loop-place.place-index c.loop-place.invariant (omega arith)
