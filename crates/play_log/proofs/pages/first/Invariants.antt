use Rattle.std.proofs.Common.{◌≤◌, length}
use Rattle.play_log.specs.Merged.{IsLeader}
use Rattle.play_log.specs.Places.{lists_of, text_place}
use Rattle.play_log.proofs.pages.first.Given as goal

abbrev pub invariant-loop-page : goal.invariant-loop-page
invariant-loop-page l = record {
  within : l.page ≤ length l.logs;
  best : IsLeader text_place l.at (lists_of l.logs) l.page l.best;
}

abbrev pub decreases-loop-page : goal.decreases-loop-page
decreases-loop-page l = l.page
