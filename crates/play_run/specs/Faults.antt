-- What ended the run of a play before its end.
use Rattle.play_course.specs.declared.player.RunFault.{RunFault}
use Rattle.play_course.specs.declared.player.RunFault.TheVariants as runs
use Rattle.play_course.specs.Failing.{fault_at}
use Rattle.play_run.specs.declared.failure.Stop.{Stop}
use Rattle.play_run.specs.declared.failure.Stop.TheVariants as stops

abbrev pub fault_of : Stop → RunFault
fault_of (stops.Failed failure) = fault_at failure.component failure.fault
fault_of stops.OutOfMemory = runs.OutOfMemory
