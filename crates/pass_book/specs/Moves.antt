-- What calls leave of a book by which nothing is held that wasn't before.
use Rattle.std.specs.Prelude.{◌≡◌, ℕ, Bool, true, false, ◌++◌, List, [], ◌∷◌, All, None, Result, Ok, Err}
use Rattle.il_machine.specs.declared.answer.Acted.{Acted}
use Rattle.il_machine.specs.declared.answer.Acted.TheVariants as acted
use Rattle.il_machine.specs.declared.answer.Progress.{Progress}
use Rattle.il_machine.specs.Components.{moved_by}
use Rattle.note_queues.specs.declared.taken.Call.{Call}
use Rattle.note_queues.specs.declared.taken.Taken.TheVariants.{Told}
use Rattle.note_queues.specs.declared.taken.Took.{Took}
use Rattle.note_queues.specs.declared.taken.Took.TheVariants as tooks
use Rattle.omx_types.specs.declared.error.OmxError.{OmxError}
use Rattle.omx_types.specs.declared.command.Event.{Event}
use Rattle.omx_types.specs.declared.handle.Handle.{Handle}
use Rattle.turnstile.specs.declared.entry.Entry.{Entry}
use Rattle.turnstile.specs.Entries.{entry}
use Rattle.graph_acts.specs.declared.act.Act.{Act}
use Rattle.graph_acts.specs.declared.act.Act.TheVariants as asks
use Rattle.graph_acts.specs.declared.act.Reply.{Reply}
use Rattle.graph_acts.specs.declared.act.Reply.TheVariants as replies
use Rattle.graph_acts.specs.Holding.{OutClient, took_client}
use Rattle.board.specs.declared.boards.Board.{Board}
use Rattle.board.specs.Boards.{clients, headers, own_calls, works}
use Rattle.pass_book.specs.declared.book.Book.{Book}
use Rattle.work_signs.specs.declared.seat.Seat.{Seat}
use Rattle.pass_book.specs.Books.{GoesOn, Made}

-- the act was done
abbrev pub was_done : {E : Type 0} → Result Acted E → Bool
was_done (Ok acted.Did) = true
was_done (Ok (acted.Idle why)) = false
was_done (Err e) = false

-- a component's client object that is to come back with that progress
abbrev pub out_client : Handle → Progress → OutClient
out_client h told = record { handle = h; progress = told }

module _ {S K C : Type 0} where
  -- no request, no claim and no finish: a look at the progress, a command run, a note taken and ended, a header moved
  abbrev pub IsMove : Act S K C → Type 0
  IsMove (asks.Progress h) = Unit {0}
  IsMove (asks.RunCommand h) = Unit {0}
  IsMove (asks.TakeNote h) = Unit {0}
  IsMove (asks.EndNote h client) = Unit {0}
  IsMove (asks.Supply h port) = Unit {0}
  IsMove (asks.Release h port) = Unit {0}
  IsMove (asks.HandOver h port) = Unit {0}
  IsMove (asks.HandBack h port) = Unit {0}
  IsMove _ = ⊥

  abbrev pub HoldsAsBefore : (C → Progress) → Book S K C → Book S K C → Type 0
  HoldsAsBefore progress old new = (headers new.pass ≡ headers old.pass) × (clients progress new.pass ≡ clients progress old.pass) × (works new.pass ≡ works old.pass)

  -- the calls that were made since are all such acts
  abbrev pub Adds : (Act S K C → Type 0) → Book S K C → Book S K C → Type 0
  Adds Which old new = (more : List (Entry (Act S K C) (Reply S K C))) × (own_calls new.pass ≡ own_calls old.pass ++ more) × All (λ e. Which e.act) more

  -- the pass goes on, holds what it held, and made moves alone
  pub record Moves (progress : C → Progress) (b : Board S K C) (seats : List Seat) (old new : Book S K C) : Type 0 where
    pub goes_on : GoesOn b seats old new
    pub holds : HoldsAsBefore progress old new
    pub adds : Adds IsMove old new

  -- A note was taken that tells an event, and its client object went back as it is once it heard that. Or there was no note to take.
  abbrev pub Delivered : (C → Progress) → Handle → Bool → Book S K C → Book S K C → Type 0
  Delivered progress h true old new = (call : Call C) × (event : Event) × (client : C) × (call.taken ≡ Told event) × (progress client ≡ moved_by event (progress call.client))
      × (own_calls new.pass ≡ own_calls old.pass ++ entry old.number (asks.TakeNote h) (replies.TakeNote (Ok (tooks.Call call))) ∷ entry old.number (asks.EndNote h client) replies.EndNote ∷ [])
  Delivered progress h false old new = (answer : Result (Took C) OmxError) × (took_client progress h answer ≡ None) × Made old (asks.TakeNote h) (replies.TakeNote answer) new
