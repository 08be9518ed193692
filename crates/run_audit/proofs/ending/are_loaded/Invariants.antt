use Rattle.std.proofs.Common.{◌≡◌, ◌<◌, ℕ, Some, slice_get}
use Rattle.omx_types.specs.declared.state.State.TheVariants.{Loaded}
use Rattle.il_machine.specs.declared.answer.Progress.{Progress}
use Rattle.run_audit.proofs.ending.are_loaded.Given as goal

abbrev pub invariant-loop-progress : goal.invariant-loop-progress
invariant-loop-progress l = (place : ℕ) (progress : Progress) → place < l.progress-index → slice_get l.told place ≡ Some progress → progress.state ≡ Some Loaded
