use Rattle.std.proofs.Common.{◌≡◌, ◌≤◌, false, take, length, All}
use Rattle.play_log.specs.Places.{lists_of}
use Rattle.play_log.proofs.Merging.{total}
use Rattle.play_log.proofs.pages.count_all.Given as goal

abbrev pub invariant-loop-log : goal.invariant-loop-log
invariant-loop-log l = record {
  within : l.log-index ≤ length l.logs;
  count : l.count ≡ total (lists_of (take l.log-index l.logs));
  whole : All (λ log. log.broken ≡ false) (take l.log-index l.logs);
}
