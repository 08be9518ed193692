use Rattle.std.proofs.Common.{◌≢◌, ◌<◌, ℕ}
use Rattle.play_plan_laws.specs.Casting.{joint_of}
use Rattle.play_run.proofs.playing.Playing.link_from.Given as goal

abbrev pub invariant-loop-link : goal.invariant-loop-link
invariant-loop-link g l = (k : ℕ) → k < l.link → (joint_of l.fn.self.plan k).giver ≢ l.fn.component
