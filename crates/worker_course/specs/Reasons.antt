-- Why a play by workers wasn't done whole.
use Rattle.std.specs.Prelude.{Option, Some, None}
use Rattle.play_course.specs.declared.player.RunFault.{RunFault}
use Rattle.play_course.specs.Failing.{fault_at}
use Rattle.play_course.specs.declared.player.RunFault.TheVariants.{OutOfMemory}
use Rattle.play_worker.specs.declared.failure.Failure.{Failure}

-- by the step that failed, where a component's number is its place, or else for want of memory
abbrev pub reason_of : Option Failure → RunFault
reason_of (Some failure) = fault_at (failure.component).generation failure.fault
reason_of None = OutOfMemory
