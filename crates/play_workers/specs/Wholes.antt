-- What a play by workers was, and what it leaves.
use Rattle.std.specs.Prelude.{◌≡◌, ℕ, ◌+◌, ◌<◌, Bool, true, false, List, [], All, Option, Some, length, slice_get}
use Rattle.conductor.specs.Phases.{Conducts}
use Rattle.conductor.specs.declared.phase.Phase.TheVariants.{Over}
use Rattle.play_forms.specs.Plans.{PlanValue}
use Rattle.play_log.specs.Places.{IsKeptAt, PassLogValue}
use Rattle.pass_lines.specs.Passes.{lines_of}
use Rattle.il_graph.specs.Shown as graphs
use Rattle.turnstile.specs.declared.entry.Entry.{Entry}
use Rattle.turnstile.specs.declared.view.View.{View}
use Rattle.turnstile.specs.Entries.{own}
use Rattle.graph_acts.specs.Plain.{Sight}
use Rattle.board.specs.declared.asked.Asked.{Asked}
use Rattle.board.specs.declared.asked.Told.{Told}
use Rattle.board.specs.declared.boards.Board.{Board}
use Rattle.board.specs.declared.pass.BoardPass.{BoardPass}
use Rattle.board.specs.declared.watched.Watched.{Watched}
use Rattle.board.specs.Asking.{bare_log}
use Rattle.board.specs.Boards.{Closed, IsOf, pass_view}
use Rattle.board.specs.Histories.{graph_of}
use Rattle.work_signs.specs.declared.seat.Seat.{Seat}
use Rattle.pass_book.specs.Saying.{line_of}
use Rattle.pass_book.specs.Books.{IsPlayCall}
use Rattle.pass_book.specs.Seats.{names_of}
use Rattle.play_worker.specs.declared.failure.Failure.{Failure}
use Rattle.play_worker.specs.Counts.{Counts}
use Rattle.play_worker.specs.Failing.{TellsWorst}
use Rattle.play_worker.specs.Requests.{is_request_plain}
use Rattle.conducting_thread.specs.Passes.{HasConducted, HasHalted, IsAtEnd}
use Rattle.work_signs.specs.Seats.{handles_of}
use Rattle.play_workers.specs.declared.hand.Hand.{Hand}
use Rattle.play_workers.specs.declared.ran.Ran.{Ran}
use Rattle.play_workers.specs.Hands.{AreWorkers}
use Rattle.play_workers.specs.Meetings.{HasMet, listed_calls}

module _ {S K C : Type 0} where
  -- the first pass, which has met none and made no call
  pub record IsRoot (b : Board S K C) (p : BoardPass S K C) : Type 0 where
    pub pass : IsOf b p
    pub number : (pass_view p).number ≡ 0
    pub joined : (pass_view p).joined ≡ []
    pub seen : (pass_view p).seen ≡ []
    pub mine : (pass_view p).mine ≡ []

-- ---- what is kept of each pass

module _ {S K C : Type 0} where
  -- unless a line was lost to want of memory, the page has the lines of that pass's entries, at their places
  abbrev pub IsPageOf : List Seat → ℕ → List (Entry (Asked S K C) (Told S K C)) → PassLogValue → Type 0
  IsPageOf seats pass log page = page.broken ≡ false → IsKeptAt (lines_of (line_of (names_of seats)) pass log) page

  -- calls of one who doesn't conduct: a play makes them, and no request is among them
  abbrev pub AreWorks : List Seat → List (Entry (Asked S K C) (Told S K C)) → Type 0
  AreWorks seats calls = All (IsPlayCall seats) calls × All (λ e. is_request_plain e.act.act ≡ false) calls

module _ {S K C G : Type 0} where
  -- where the gate tells its counts, these are of the claims among the calls
  abbrev pub HasCounted : (G → Option (ℕ → ℕ)) → List (Entry (Asked S K C) (Told S K C)) → G → Type 0
  HasCounted counts calls gate = Counts (counts gate) (bare_log calls)

  -- the first pass has met those that left these pages and gates, and not yet those of the workers
  pub record Gathers (counts : G → Option (ℕ → ℕ)) (see : Sight S K C) (b : Board S K C) (seats : List Seat) (root : BoardPass S K C) (hands : List (Hand S K C G)) (pages : List PassLogValue) (gates : List G) (worst : Option Failure) : Type 0 where
    pub pass : IsOf b root
    pub met : HasMet (IsPageOf seats) (HasCounted counts) (AreWorks seats) (pass_view root) (length hands) pages gates
    pub workers : AreWorkers counts see b seats (length (pass_view root).joined + 1) hands
    pub told : TellsWorst (bare_log (listed_calls (pass_view root).joined)) worst

-- ---- the whole

module _ {S K C : Type 0} where
  -- The graph was led from g by the calls of one closed history of a board. A play makes each of these; the one who conducts, whose pass is
  -- 0, alone requests; and no pass above the number of workers has a call.
  pub record Played (see : Sight S K C) (headers : Bool) (seats : List Seat) (workers : ℕ) (g now : graphs.Shown S K C) : Type 0 where
    pub first : Watched S K C
    pub opening : graph_of first ≡ g
    pub root : View (Watched S K C) (Asked S K C) (Told S K C)
    pub closed : Closed see headers first root now
    pub acts : All (IsPlayCall seats) closed.log
    pub alone : (p : ℕ) → 0 < p → All (λ e. is_request_plain e.act.act ≡ false) (own p closed.log)
    pub few : (p : ℕ) → workers < p → own p closed.log ≡ []

module _ {S K C G : Type 0} where
  -- What is known and kept of that history: how far it was conducted; the lines of each pass, on a page of its own; what the gate of each
  -- worker counted; and which of the steps that failed is told.
  pub record Leaves (counts : G → Option (ℕ → ℕ)) (see : Sight S K C) (plan : PlanValue) (seats : List Seat) (log : List (Entry (Asked S K C) (Told S K C))) (ran : Ran S K C G) : Type 0 where
    pub conducted : ran.refused ≡ false → HasConducted see plan (handles_of seats) (bare_log (own 0 log)) ran.conductor
    pub refused : ran.refused ≡ true → HasHalted see plan (handles_of seats) (bare_log (own 0 log))
    pub ended : ran.ended ≡ true → (ran.refused ≡ false) × Conducts ran.conductor Over ran.conductor
    pub stopped : ran.stopped ≡ false → IsAtEnd ran.ended ran.refused ran.conductor
    pub pages : (p : ℕ) (page : PassLogValue) → slice_get ran.pages.items p ≡ Some page → IsPageOf seats p log page
    pub gates : (i : ℕ) (gate : G) → slice_get ran.gates.items i ≡ Some gate → HasCounted counts (own (i + 1) log) gate
    pub worst : TellsWorst (bare_log log) ran.worst
