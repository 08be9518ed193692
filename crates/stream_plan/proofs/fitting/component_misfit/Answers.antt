use Rattle.std.proofs.Common.{◌≡◌, ◌<◌, below_more, ◌∙◌, ap, subst, arith}
use Rattle.part_forms.specs.Kinds.{inputs_of}
use Rattle.play_forms.specs.Fitting.{InputFits}
use Rattle.play_forms.specs.Parts.{kind_of}
use Rattle.stream_plan.specs.Misfits.{IsInputMisfit}
use Rattle.stream_plan.proofs.fitting.component_misfit.Goals as goal

pub returns-in-Some-clause-some : goal.returns-in-Some-clause-some
returns-in-Some-clause-some c =
    let is : c.kind_of-kind.result ≡ kind_of c.args.part.now.form = c.kind_of-kind.ensures in
    let few : c.inputs-input-end.result ≡ inputs_of (kind_of c.args.part.now.form) = c.inputs-input-end.ensures ∙ ap inputs_of is in
    record {
      input = c.loop-input.input;
      its_input = subst (λ n. c.loop-input.input < n) few c.loop-input-test.true;
      misfit = subst (λ kind. IsInputMisfit c.args.joints.now c.args.flows.now c.args.place kind c.loop-input.input c.in-Some.fault) is c.in-Some.ensures.some;
      first = λ other below. subst (λ kind. InputFits c.args.joints.now c.args.flows.now c.args.place kind other) is (c.loop-input.invariant other below);
    }

pub loop-input-preserved : goal.loop-input-preserved
loop-input-preserved c = below_more _ _ c.loop-input.invariant c.in_default.ensures.none

pub returns-clause-none : goal.returns-clause-none
returns-clause-none c input below =
    let is : c.kind_of-kind.result ≡ kind_of c.args.part.now.form = c.kind_of-kind.ensures in
    let few : c.inputs-input-end.result ≡ inputs_of (kind_of c.args.part.now.form) = c.inputs-input-end.ensures ∙ ap inputs_of is in
    subst (λ kind. InputFits c.args.joints.now c.args.flows.now c.args.place kind input) is (c.loop-input.invariant input (omega arith))
