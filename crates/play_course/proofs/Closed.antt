-- A run whose files were closed has ended.
use Rattle.std.proofs.Common.{ℕ, List, Option, Result}
use Rattle.omx_types.specs.declared.fault.Fault.{Fault}
use Rattle.outside_io.specs.Files.{Outside}
use Rattle.script_lang.specs.declared.play_line.PartLine.{PartLine}
use Rattle.play_forms.specs.Plans.{PlanValue}
use Rattle.play_files.specs.Seen.{FileSeen}
use Rattle.play_course.specs.declared.player.RunFault.{RunFault}
use Rattle.play_course.specs.declared.settling.Ran.{Ran}
use Rattle.play_course.specs.Courses.{HasClosed, HasEnded, HasRun}

pub has_ended : (workers : ℕ) (Tells : List PartLine → List ℕ → Type 0) (plan : PlanValue) (parts : List PartLine) (before after : List (Option FileSeen)) (old new : Outside) (ran : Result Ran RunFault) (result : Result Ran Fault)
    → HasRun workers Tells plan before after ran → HasClosed parts after old new ran result → HasEnded workers Tells plan parts before old new result
has_ended workers Tells plan parts before after old new ran result R C = record {
  after = after;
  ran = ran;
  closed = C.closed;
  reads = C.reads;
  writes = C.writes;
  has_run = R;
  closes = C.closes;
  few = C.few;
  read = C.read;
  unread = C.unread;
  wrote = C.wrote;
  unwritten = C.unwritten;
  is = C.is;
}
