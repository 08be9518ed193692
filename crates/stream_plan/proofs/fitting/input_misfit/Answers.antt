use Rattle.std.proofs.Common.{◌≡◌, ◌<◌, get_or, subst, arith}
use Rattle.std.proofs.lemmas.Option.{slice_get_within}
use Rattle.play_forms.specs.declared.flow.Flow.{Flow}
use Rattle.play_forms.specs.declared.joint.Joint.{Joint}
use Rattle.play_forms.specs.Fitting.{Fits, IsCause, format_into}
use Rattle.stream_plan.proofs.Defaults.{no_joint}
use Rattle.stream_plan.proofs.Lists.{more_at, there_at}
use Rattle.stream_plan.proofs.fitting.input_misfit.Goals as goal
use Rattle.stream_plan.proofs.fitting.input_misfit.Goals.{then-joint-place+then-joint-input+in_default, else-joint-place, else-joint-place-via-then-joint-place+else-joint-input, else-joint-place-via-else-joint-place}

pub returns-in-Some-clause-some : goal.returns-in-Some-clause-some
returns-in-Some-clause-some c =
    let joint : Joint = get_or c.args.joints.now c.loop-joint.joint-index no_joint in
    record {
      number = c.loop-joint.joint-index;
      joint = joint;
      link = there_at c.args.joints.now c.loop-joint.joint-index no_joint c.loop-joint-test.true;
      taker = c.if-joint-place.true;
      taken_at = c.if-joint-input.true;
      cause = subst (λ (flow : Flow). IsCause c.args.kind joint (format_into c.args.joints.now c.args.flows.now c.args.place c.args.input) flow.format c.in-Some.fault) c.flow_into-first.ensures
          (subst (λ (flow : Flow). IsCause c.args.kind joint flow.format c.flow_into-first.result.format c.in-Some.fault) c.flow_into-format.ensures c.in-Some.ensures.some);
    }

pub loop-joint-preserved : goal.loop-joint-preserved
loop-joint-preserved c =
    let format = format_into c.args.joints.now c.args.flows.now c.args.place c.args.input in
    let first = format_into c.args.joints.now c.args.flows.now c.args.place 0 in
    let P : Joint → Type 0 = λ joint. joint.taker ≡ c.args.place → joint.input ≡ c.args.input → Fits c.args.kind joint format first in
    let joint : Joint = get_or c.args.joints.now c.loop-joint.joint-index no_joint in
    let here : P joint =
    elim c.if-joint-place.branch [
      | then-joint-place+then-joint-input+in_default w ↦ λ taken at.
          subst (λ (flow : Flow). Fits c.args.kind joint format flow.format) c.flow_into-first.ensures
          (subst (λ (flow : Flow). Fits c.args.kind joint flow.format c.flow_into-first.result.format) c.flow_into-format.ensures w.in_default.ensures.none)
      | else-joint-place w ↦ λ taken at. absurd (elim w.else-joint-place.branch [
        | else-joint-place-via-then-joint-place+else-joint-input w' ↦ w'.if-joint-input.false at
        | else-joint-place-via-else-joint-place w' ↦ w'.if-joint-place.false taken
      ])
    ] in
    more_at c.args.joints.now c.loop-joint.joint-index no_joint P (λ k joint below there. c.loop-joint.invariant k joint below there) c.loop-joint-test.true here

pub returns-clause-none : goal.returns-clause-none
returns-clause-none c k joint there taken at =
    let inside : k < _ = slice_get_within c.args.joints.now k joint there in
    c.loop-joint.invariant k joint (omega arith) there taken at
