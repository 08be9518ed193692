-- The graph of a play that workers led from where it was made.
use Rattle.std.specs.Prelude.{◌≡◌, ℕ, ◌+◌, ◌≤◌, false, List, length, Option}
use Rattle.outside_io.specs.declared.sink.Sink.{Ghosts as SinkGhosts}
use Rattle.outside_io.specs.declared.source.Source.{Ghosts as SourceGhosts}
use Rattle.audio_parts.specs.declared.part_file.PartFile.{PartFile}
use Rattle.il_machine.specs.declared.answer.Progress.{Progress}
use Rattle.il_graph.specs.Shown.{Shown, offered}
use Rattle.board.specs.Boards.{HasAllBack}
use Rattle.play_forms.specs.Plans.{PlanValue}
use Rattle.play_course.specs.Players.{CanPlay}
use Rattle.play_graph.specs.Ending.{AreFilesOf}
use Rattle.play_graph.specs.Making.{IsMadeOf}
use Rattle.work_signs.specs.declared.seat.Seat.{Seat}
use Rattle.play_workers.specs.declared.ran.Ran.{Ran}
use Rattle.play_workers.specs.Wholes.{Leaves, Played}
use Rattle.worker_course.specs.Seated.{AreSeated}
use Rattle.worker_course.specs.Sights.{all_seen, play_sight}

module _ {S K : Type 0} (reads : SourceGhosts S) (writes : SinkGhosts K) where
  -- it was made of the plan and of the files that stood there
  pub record IsMadeFrom (plan : PlanValue) (before : List (Option (PartFile S K))) (graph : Shown S K Progress) : Type 0 where
    pub can : CanPlay plan (all_seen reads writes before)
    pub made : IsMadeOf plan (offered reads.offset reads.size reads.told writes.told) before graph
    pub were : AreFilesOf graph (length plan.parts) before

  -- From that graph so many workers led it to this one, beside the one who conducts. Nothing is out of it.
  pub record HasRun {G : Type 0} (counts : G → Option (ℕ → ℕ)) (plan : PlanValue) (workers : ℕ) (before : List (Option (PartFile S K))) (ran : Ran S K Progress G) : Type 0 where
    pub some : (1 ≤ workers) × (workers ≤ 8)
    pub first : Shown S K Progress
    pub made : IsMadeFrom plan before first
    pub seats : List Seat
    pub seated : AreSeated plan first seats
    pub played : Played (play_sight reads writes) false seats workers first ran.graph
    pub leaves : Leaves counts (play_sight reads writes) plan seats (played.closed).log ran
    pub back : HasAllBack ran.graph
    pub gates : length ran.gates.items ≡ workers
    pub pages : length ran.pages.items ≡ workers + 1
