-- The calls of a step.
use Rattle.std.specs.Prelude.{◌≡◌, ◌++◌, Bool, true, false, [], ◌∷◌, Some, None}
use Rattle.omx_types.specs.declared.handle.Handle.{Handle}
use Rattle.audio_parts.specs.Shown.{ShownPart}
use Rattle.il_flow.specs.Works.{DoneOf}
use Rattle.turnstile.specs.Entries.{entry}
use Rattle.graph_acts.specs.declared.act.Act.TheVariants as asks
use Rattle.graph_acts.specs.declared.act.Reply.{Reply}
use Rattle.graph_acts.specs.declared.act.Reply.TheVariants as replies
use Rattle.graph_acts.specs.Plain.{Sight}
use Rattle.graph_acts.specs.Working.{IsRunOf, OutWork, work_given}
use Rattle.board.specs.Boards.{own_calls}
use Rattle.pass_book.specs.declared.book.Book.{Book}
use Rattle.pass_book.specs.Books.{Made}

module _ {S K C : Type 0} where
  -- a work of the component was claimed, and came back as its step left it
  pub record IsStepped (see : Sight S K C) (h : Handle) (old new : Book S K C) : Type 0 where
    pub reply : Reply S K C
    pub got : OutWork S K
    pub done : DoneOf (ShownPart S K)
    pub gave : work_given reply ≡ Some got
    pub run : IsRunOf see.reads see.writes got done
    pub calls : own_calls new.pass ≡ own_calls old.pass ++ entry old.number (asks.Claim h) reply ∷ entry old.number (asks.Finish done) replies.Finish ∷ []

  -- so it was, and no other call was made; or there was no work to claim
  abbrev pub Steps : Sight S K C → Handle → Bool → Book S K C → Book S K C → Type 0
  Steps see h true old new = IsStepped see h old new
  Steps see h false old new = (reply : Reply S K C) × (work_given reply ≡ None) × Made old (asks.Claim h) reply new
