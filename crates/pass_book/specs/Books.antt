-- What holds of a pass with its lines.
use Rattle.std.specs.Prelude.{◌≡◌, ℕ, ◌≤◌, ◌++◌, ◌∷◌, Bool, true, false, List, [], All, IfSome}
use Rattle.turnstile.specs.declared.entry.Entry.{Entry}
use Rattle.turnstile.specs.Entries.{entry, own}
use Rattle.turnstile.specs.Passes.{IsSamePass}
use Rattle.graph_acts.specs.declared.act.Act.{Act}
use Rattle.graph_acts.specs.declared.act.Act.TheVariants as asks
use Rattle.graph_acts.specs.declared.act.Reply.{Reply}
use Rattle.graph_acts.specs.declared.act.Reply.TheVariants as replies
use Rattle.graph_acts.specs.Working.{claimed_work}
use Rattle.graph_acts.specs.Lending.{OnLent}
use Rattle.board.specs.declared.asked.Asked.{Asked}
use Rattle.board.specs.declared.asked.Told.{Told}
use Rattle.board.specs.declared.boards.Board.{Board}
use Rattle.board.specs.declared.pass.BoardPass.{BoardPass}
use Rattle.board.specs.declared.row.ActRow.{ActRow}
use Rattle.board.specs.Boards.{IsOf, own_calls, pass_view}
use Rattle.board.specs.Rows.{IsRowOf, acts, replies as told, room_of}
use Rattle.play_log.specs.Lines.{IsLogLine}
use Rattle.play_log.specs.Places.{IsKeptAt, PassLogValue}
use Rattle.pass_lines.specs.Passes.{lines_of}
use Rattle.pass_book.specs.declared.book.Book.{Book}
use Rattle.work_signs.specs.declared.seat.Seat.{Seat}
use Rattle.pass_book.specs.Saying.{line_of}
use Rattle.pass_book.specs.Seats.{IsOfPlay, names_of}

module _ {S K C : Type 0} where
  -- nothing is asked in the row and nothing told, and it has room for an act of each component
  pub record IsRowAtRest (b : Board S K C) (row : ActRow S K C) : Type 0 where
    pub of : IsRowOf b row
    pub acts : acts row ≡ []
    pub told : told row ≡ []
    pub room : 32 ≤ room_of row

  -- a play makes the call, and its line, if it has one, is one of a log
  pub record IsPlayCall (seats : List Seat) (e : Entry (Asked S K C) (Told S K C)) : Type 0 where
    pub of_play : IsOfPlay seats e.act.act
    pub said : IfSome (line_of (names_of seats) e) IsLogLine

  -- The pass has just its own calls among those that it has seen; each is one that a play makes. Unless a line was lost to want of memory,
  -- the log has the lines of these calls, at their places.
  pub record IsBook (b : Board S K C) (seats : List Seat) (k : Book S K C) : Type 0 where
    pub pass : IsOf b k.pass
    pub number : (pass_view k.pass).number ≡ k.number
    pub mine : own k.number (pass_view k.pass).seen ≡ (pass_view k.pass).mine
    pub lines : (k.log).broken ≡ false → IsKeptAt (lines_of (line_of (names_of seats)) k.number (pass_view k.pass).seen) k.log
    pub acts : All (IsPlayCall seats) (pass_view k.pass).mine
    pub row : IsRowAtRest b k.row

  -- the same pass goes on, with its number
  pub record GoesOn (b : Board S K C) (seats : List Seat) (old new : Book S K C) : Type 0 where
    pub book : IsBook b seats new
    pub number : new.number ≡ old.number
    pub same : IsSamePass (pass_view old.pass) (pass_view new.pass)

  -- a pass that made no call, a log without a line and a row at rest
  pub record IsFresh (b : Board S K C) (pass : BoardPass S K C) (number : ℕ) (log : PassLogValue) (row : ActRow S K C) : Type 0 where
    pub of : IsOf b pass
    pub numbered : (pass_view pass).number ≡ number
    pub unseen : own number (pass_view pass).seen ≡ []
    pub unmade : (pass_view pass).mine ≡ []
    pub empty : IsKeptAt [] log
    pub rests : IsRowAtRest b row

  -- the pass made that call, and no other
  abbrev pub Made : Book S K C → Act S K C → Reply S K C → Book S K C → Type 0
  Made old act reply new = own_calls new.pass ≡ own_calls old.pass ++ entry old.number act reply ∷ []

  -- a work that a claim gives is that of the component that was named
  abbrev pub IsItsWork : Act S K C → Reply S K C → Type 0
  IsItsWork (asks.Claim h) (replies.Claim result) = OnLent result (λ work. (work.component).generation ≡ h.generation)
  IsItsWork _ _ = Unit {0}
