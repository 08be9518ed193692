use Rattle.std.proofs.Common.{ℕ, ◌<◌}
use Rattle.play_run.specs.Sending.{IsLoadedAt}
use Rattle.play_run.proofs.playing.Playing.have_told_all.Given as goal

abbrev pub invariant-loop-place : goal.invariant-loop-place
invariant-loop-place g l = (k : ℕ) → k < l.place → IsLoadedAt l.fn.self.graph k
