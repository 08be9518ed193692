-- What holds of a worker between two calls of its round.
use Rattle.std.specs.Prelude.{◌≡◌, ℕ, ◌≤◌, false, List, All, Option, Some, slice_get}
use Rattle.graph_acts.specs.Holding.{Clear}
use Rattle.graph_acts.specs.Plain.{Sight}
use Rattle.board.specs.declared.boards.Board.{Board}
use Rattle.board.specs.Boards.{own_calls, pass_view}
use Rattle.work_signs.specs.declared.seat.Seat.{Seat}
use Rattle.pass_book.specs.Books.{IsBook}
use Rattle.play_worker.specs.declared.worker.Worker.{Worker}
use Rattle.play_worker.specs.Counts.{Counts}
use Rattle.play_worker.specs.Failing.{TellsWorst}
use Rattle.play_worker.specs.Requests.{is_request_plain}

-- the components' numbers are their places
abbrev pub AreNumbered : List Seat → Type 0
AreNumbered seats = (place : ℕ) (seat : Seat) → slice_get seats place ≡ Some seat → (seat.handle).generation ≡ place

module _ {S K C G : Type 0} where
  -- It holds nothing and requested nothing; its gate counted its claims, whether or not each has a line; and of its failed steps it keeps
  -- the one that is told.
  pub record IsWorker (counts : G → Option (ℕ → ℕ)) (see : Sight S K C) (b : Board S K C) (seats : List Seat) (w : Worker S K C G) : Type 0 where
    pub book : IsBook b seats w.book
    pub holds : Clear see (own_calls (w.book).pass)
    pub unasked : All (λ e. is_request_plain e.act.act ≡ false) (pass_view (w.book).pass).mine
    pub counted : Counts (counts w.gate) (own_calls (w.book).pass)
    pub worst : TellsWorst (own_calls (w.book).pass) w.worst
    pub range : (1 ≤ (w.book).number) × ((w.book).number ≤ 8)
