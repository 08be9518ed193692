use Rattle.std.proofs.Common.{◌≡◌, ◌≤◌, false, take, length, All}
use Rattle.worker_course.proofs.ending.are_whole.Given as goal

abbrev pub invariant-loop-page : goal.invariant-loop-page
invariant-loop-page l = record { within : l.page-index ≤ length l.pages; whole : All (λ page. page.broken ≡ false) (take l.page-index l.pages) }
