-- What is kept of workers that played a graph.
use Rattle.std.proofs.Common.{◌≡◌, ℕ, ◌+◌, ◌≤◌, false, List, length, Option, Result, Ok, Err, IfOk, IfErr}
use Rattle.outside_io.specs.declared.sink.Sink.{Ghosts as SinkGhosts}
use Rattle.outside_io.specs.declared.source.Source.{Ghosts as SourceGhosts}
use Rattle.audio_parts.specs.declared.part_file.PartFile.{PartFile}
use Rattle.il_machine.specs.declared.answer.Progress.{Progress}
use Rattle.il_graph.specs.Shown.{Shown}
use Rattle.board.specs.Boards.{HasAllBack}
use Rattle.play_forms.specs.Plans.{PlanValue}
use Rattle.work_signs.specs.declared.seat.Seat.{Seat}
use Rattle.play_workers.specs.declared.ran.Ran.{Ran}
use Rattle.play_workers.specs.Wholes.{Leaves, Played}
use Rattle.worker_course.specs.Runs.{HasRun, IsMadeFrom}
use Rattle.worker_course.specs.Seated.{AreSeated}
use Rattle.worker_course.specs.Sights.{play_sight}

module _ {S K G : Type 0} (reads : SourceGhosts S) (writes : SinkGhosts K) (counts : G → Option (ℕ → ℕ)) (plan : PlanValue) (workers : ℕ) (some : 1 ≤ workers) (few : workers ≤ 8)
    (first : Shown S K Progress) (ran : Ran S K Progress G) (seats : List Seat) (seated : AreSeated plan first seats)
    (P : (it : Played (play_sight reads writes) false seats workers first ran.graph) × Leaves counts (play_sight reads writes) plan seats it.closed.log ran)
    (back : HasAllBack ran.graph) (many : (length ran.gates.items ≡ workers) × (length ran.pages.items ≡ workers + 1)) where
  pub has_run : (before : List (Option (PartFile S K))) → IsMadeFrom reads writes plan before first → HasRun reads writes counts plan workers before ran
  has_run before M = record { some = (some, few); first = first; made = M; seats = seats; seated = seated; played = P.0; leaves = P.1; back = back; gates = many.0; pages = many.1 }

-- ---- what comes of a call, on

pub ok_then : {A E : Type 0} (r : Result A E) (P Q : A → Type 0) → ((x : A) → P x → Q x) → IfOk r P → IfOk r Q
ok_then (Ok x) P Q f h = f x h
ok_then (Err e) P Q f h = tt

pub err_then : {A E : Type 0} (r : Result A E) (P Q : E → Type 0) → ((e : E) → P e → Q e) → IfErr r P → IfErr r Q
err_then (Ok x) P Q f h = tt
err_then (Err e) P Q f h = f e h
