use Rattle.std.proofs.Common.{◌≢◌, ◌<◌, ℕ}
use Rattle.play_plan_laws.specs.Casting.{joint_of}
use Rattle.conducting_thread.proofs.link_ends.link_from.Given as goal

abbrev pub invariant-loop-link : goal.invariant-loop-link
invariant-loop-link l = (k : ℕ) → k < l.link → (joint_of l.fn.plan k).giver ≢ l.fn.component
