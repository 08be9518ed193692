use Rattle.std.proofs.Common.{ℕ, ◌<◌}
use Rattle.play_forms.specs.Fitting.{InputFits}
use Rattle.stream_plan.proofs.fitting.component_misfit.Given as goal

abbrev pub invariant-loop-input : goal.invariant-loop-input
invariant-loop-input l = (k : ℕ) → k < l.input → InputFits l.joints l.flows l.place l.kind k
