use Rattle.std.proofs.Common.{take}
use Rattle.play_forms.specs.Fitting.{AllFit}
use Rattle.stream_plan.proofs.fitting.misfit.Given as goal

abbrev pub invariant-loop-place : goal.invariant-loop-place
invariant-loop-place l = AllFit l.parts l.joints l.flows (take l.place-index l.order)
