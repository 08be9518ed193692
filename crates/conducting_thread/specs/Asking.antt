-- What a pass has requested more, as the machine has it, and whether all of it was accepted.
use Rattle.std.specs.Prelude.{◌≡◌, ◌≢◌, Bool, true, false, List, ◌∷◌, ◌++◌, All, Result, Ok, Err, is_ok}
use Rattle.omx_types.specs.declared.error.OmxError.{OmxError}
use Rattle.omx_types.specs.declared.param.Supplier.{Supplier}
use Rattle.omx_types.specs.declared.param.Supplier.TheVariants.{Input, Output, Unspecified}
use Rattle.il_machine.specs.declared.answer.Progress.{Progress}
use Rattle.il_machine.specs.Acts as acts
use Rattle.turnstile.specs.declared.entry.Entry.{Entry}
use Rattle.graph_acts.specs.declared.act.Act.{Act}
use Rattle.graph_acts.specs.declared.act.Act.TheVariants as asks
use Rattle.graph_acts.specs.declared.act.Reply.{Reply}
use Rattle.graph_acts.specs.Plain.{Sight}
use Rattle.board.specs.declared.boards.Board.{Board}
use Rattle.board.specs.Asking.{ArePlain}
use Rattle.board.specs.Boards.{own_calls}
use Rattle.pass_book.specs.declared.book.Book.{Book}
use Rattle.pass_book.specs.declared.quiet.QuietAct.{QuietAct}
use Rattle.pass_book.specs.declared.quiet.QuietAct.TheVariants as quiets
use Rattle.pass_book.specs.declared.quiet.QuietReply.{QuietReply}
use Rattle.pass_book.specs.declared.quiet.QuietReply.TheVariants as answers
use Rattle.work_signs.specs.declared.seat.Seat.{Seat}
use Rattle.pass_book.specs.Books.{GoesOn}
use Rattle.pass_book.specs.Moves.{HoldsAsBefore}
use Rattle.pass_book.specs.Quiet.{IsQuietOfPlay}

-- ---- requests

-- what one who conducts asks beside looks
abbrev pub IsRequest : QuietAct → Type 0
IsRequest (quiets.SetParameter h key value) = Unit {0}
IsRequest (quiets.SetupTunnel output input) = Unit {0}
IsRequest (quiets.DropTunnel output input) = Unit {0}
IsRequest (quiets.SendCommand h command) = Unit {0}
IsRequest _ = ⊥

-- the request, and the answer that is due: it is accepted, and the input supplies the headers of a tunnel
abbrev pub due : QuietAct → acts.Act × acts.Reply
due (quiets.SetParameter h key value) = (acts.SetParameter h key value, acts.Plain (Ok tt))
due (quiets.SetupTunnel output input) = (acts.SetupTunnel output input, acts.Joined (Ok Input))
due (quiets.DropTunnel output input) = (acts.DropTunnel output input, acts.Plain (Ok tt))
due (quiets.SendCommand h command) = (acts.SendCommand h command, acts.Plain (Ok tt))
due (quiets.Progress h) = (acts.Progress h, acts.Plain (Ok tt))
due (quiets.RunCommand h) = (acts.RunCommand h, acts.Plain (Ok tt))
due (quiets.Supply h port) = (acts.Supply h port, acts.Plain (Ok tt))
due (quiets.Release h port) = (acts.Release h port, acts.Plain (Ok tt))
due (quiets.HandOver h port) = (acts.HandOver h port, acts.Plain (Ok tt))
due (quiets.HandBack h port) = (acts.HandBack h port, acts.Plain (Ok tt))

abbrev pub by_input : Result Supplier OmxError → Bool
by_input (Ok Input) = true
by_input (Ok Output) = false
by_input (Ok Unspecified) = false
by_input (Err e) = false

-- that answer is the one that is due
abbrev pub is_accepted : QuietReply → Bool
is_accepted (answers.SetParameter result) = is_ok result
is_accepted (answers.SetupTunnel result) = by_input result
is_accepted (answers.DropTunnel result) = is_ok result
is_accepted (answers.SendCommand result) = is_ok result
is_accepted _ = false

-- a request of a play
abbrev pub IsRequestOf : List Seat → QuietAct → Type 0
IsRequestOf seats act = IsRequest act × IsQuietOfPlay seats act

-- ---- what was asked

module _ {S K C : Type 0} where
  -- no work comes back by the act, so no step can have failed by it
  abbrev pub IsStepless : Act S K C → Type 0
  IsStepless (asks.Finish done) = ⊥
  IsStepless _ = Unit {0}

  abbrev pub AreStepless : List (Entry (Act S K C) (Reply S K C)) → Type 0
  AreStepless calls = All (λ e. IsStepless e.act) calls

  -- the pass goes on, holds what it held, and brought back no work
  pub record Keeps (progress : C → Progress) (b : Board S K C) (seats : List Seat) (old new : Book S K C) : Type 0 where
    pub goes_on : GoesOn b seats old new
    pub holds : HoldsAsBefore progress old new
    pub stepless : AreStepless (own_calls old.pass) → AreStepless (own_calls new.pass)

  -- the pass has made these calls more, which are nothing but these steps of the machine
  pub record HasAsked (see : Sight S K C) (old : List (Entry (Act S K C) (Reply S K C))) (steps : List (acts.Act × acts.Reply)) (new : List (Entry (Act S K C) (Reply S K C))) : Type 0 where
    pub made : List (Entry (Act S K C) (Reply S K C))
    pub added : new ≡ old ++ made
    pub stand : (xs : List (acts.Act × acts.Reply)) → ArePlain see made xs → xs ≡ steps

  -- of the steps that are due those before one were answered as is due, and that one otherwise
  pub record IsAnsweredOtherwise (see : Sight S K C) (old : List (Entry (Act S K C) (Reply S K C))) (due : List (acts.Act × acts.Reply)) (new : List (Entry (Act S K C) (Reply S K C))) : Type 0 where
    pub made : List (acts.Act × acts.Reply)
    pub expected : acts.Act × acts.Reply
    pub left : List (acts.Act × acts.Reply)
    pub reply : acts.Reply
    pub more : List (acts.Act × acts.Reply)
    pub are_due : due ≡ made ++ expected ∷ left
    pub other : reply ≢ expected.1
    pub asked : HasAsked see old (made ++ (expected.0, reply) ∷ more) new

  -- all that is due was asked and answered so; or it wasn't
  abbrev pub AreAnswered : Sight S K C → List (Entry (Act S K C) (Reply S K C)) → List (acts.Act × acts.Reply) → Bool → List (Entry (Act S K C) (Reply S K C)) → Type 0
  AreAnswered see old due true new = HasAsked see old due new
  AreAnswered see old due false new = IsAnsweredOtherwise see old due new
