use Rattle.play_build_laws.proofs.Bringing.{brings, releases}
use Rattle.play_build_laws.proofs.Clearing.{all_cleared, all_stopped, next_cleared}
use Rattle.play_build_laws.proofs.Failing.{still_there}
use Rattle.play_build_laws.proofs.Invalid.{one_stopped, stops}
use Rattle.play_build_laws.proofs.Notes.{has_events, heard, none_taken, notes_apart, taken_and_ended}
use Rattle.play_build_laws.proofs.halting.law_of_halting.Goals as goal

pub returns : goal.returns
returns c = record {
  events = has_events;
  heard = λ place w v h r H N T. heard place w h H N r v T;
  none_taken = λ place w v h H N T. none_taken place w h H N v T;
  taken = taken_and_ended;
  notes_apart = notes_apart;
  stopped = stops;
  one_stopped = one_stopped;
  all_stopped = all_stopped;
  brought = λ end links l w v h result A C b N T. let K = brings end links l w A C b v h result N T in (K.cleared_, K.files, K.answered);
  released = λ end links l w v h result B b N T. let K = releases end links l w B b v h result N T in (K.brought, K.files, K.answered);
  next = next_cleared;
  cleared = all_cleared;
  finished = still_there;
}
