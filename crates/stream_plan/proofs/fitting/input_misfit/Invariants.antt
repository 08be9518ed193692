use Rattle.std.proofs.Common.{◌≡◌, ℕ, ◌<◌, Some}
use Rattle.std.specs.Prelude.{slice_get}
use Rattle.play_forms.specs.declared.joint.Joint.{Joint}
use Rattle.play_forms.specs.Fitting.{Fits, format_into}
use Rattle.stream_plan.proofs.fitting.input_misfit.Given as goal

abbrev pub invariant-loop-joint : goal.invariant-loop-joint
invariant-loop-joint l = (k : ℕ) (joint : Joint) → k < l.joint-index → slice_get l.joints k ≡ Some joint → joint.taker ≡ l.place → joint.input ≡ l.input
    → Fits l.kind joint (format_into l.joints l.flows l.place l.input) (format_into l.joints l.flows l.place 0)
