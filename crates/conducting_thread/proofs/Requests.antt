-- A request that was made, and its answer.
use Rattle.std.proofs.Common.{◌≡◌, ◌≢◌, ℕ, false, List, [], ◌∷◌, ◌++◌, Ok, Err, refl, sym, ◌∙◌, subst}
use Rattle.std.proofs.lemmas.List.Elements.{All-push}
use Rattle.omx_types.specs.declared.param.Supplier.TheVariants.{Input, Output, Unspecified}
use Rattle.il_machine.specs.declared.answer.Progress.{Progress}
use Rattle.il_machine.specs.Acts as acts
use Rattle.turnstile.specs.declared.entry.Entry.{Entry}
use Rattle.turnstile.specs.Entries.{entry}
use Rattle.turnstile.specs.Passes.{IsSamePass}
use Rattle.graph_acts.specs.declared.act.Act.{Act}
use Rattle.graph_acts.specs.declared.act.Reply.{Reply}
use Rattle.graph_acts.specs.Plain.{Sight}
use Rattle.board.specs.declared.boards.Board.{Board}
use Rattle.board.specs.Asking.{IsPlain}
use Rattle.board.specs.Boards.{own_calls, pass_view}
use Rattle.pass_book.specs.declared.book.Book.{Book}
use Rattle.pass_book.specs.declared.quiet.QuietAct.{QuietAct}
use Rattle.pass_book.specs.declared.quiet.QuietAct.TheVariants as quiets
use Rattle.pass_book.specs.declared.quiet.QuietReply.{QuietReply}
use Rattle.pass_book.specs.declared.quiet.QuietReply.TheVariants as answers
use Rattle.work_signs.specs.declared.seat.Seat.{Seat}
use Rattle.pass_book.specs.Books.{GoesOn, IsBook, Made}
use Rattle.pass_book.specs.Moves.{HoldsAsBefore}
use Rattle.pass_book.specs.Quiet.{IsQuietReply, act_of, reply_of}
use Rattle.conducting_thread.specs.Asking.{AreAnswered, AreStepless, IsRequest, IsStepless, Keeps, due, is_accepted}
use Rattle.conducting_thread.proofs.Asked.{asked_one}

module _ {S K C : Type 0} (see : Sight S K C) (p : ℕ) (old new : List (Entry (Act S K C) (Reply S K C))) where
  abbrev MadeOne : QuietAct → QuietReply → Type 0
  MadeOne act reply = new ≡ old ++ entry p (act_of act) (reply_of reply) ∷ []

  -- its answer was another than is due
  otherwise : (act : QuietAct) (answer : QuietReply) (reply : acts.Reply) → MadeOne act answer → ((x : acts.Act × acts.Reply) → IsPlain see (entry p (act_of act) (reply_of answer)) x → x ≡ ((due act).0, reply)) → reply ≢ (due act).1 → AreAnswered see old (due act ∷ []) false new
  otherwise act answer reply e only other = record {
    made = [];
    expected = due act;
    left = [];
    reply = reply;
    more = [];
    are_due = refl;
    other = other;
    asked = asked_one see old new (entry p (act_of act) (reply_of answer)) ((due act).0, reply) e only;
  }

  pub answered : (act : QuietAct) (reply : QuietReply) → IsRequest act → IsQuietReply act reply → MadeOne act reply → AreAnswered see old (due act ∷ []) (is_accepted reply) new
  answered (quiets.SetParameter h key value) (answers.SetParameter (Ok x)) r k e = asked_one see old new (entry p (act_of (quiets.SetParameter h key value)) (reply_of (answers.SetParameter (Ok x)))) (due (quiets.SetParameter h key value)) e (λ y u. u.1)
  answered (quiets.SetParameter h key value) (answers.SetParameter (Err er)) r k e = otherwise (quiets.SetParameter h key value) (answers.SetParameter (Err er)) (acts.Plain (Err er)) e (λ y u. u.1) (λ z. cc)
  answered (quiets.SetParameter h key value) _ r k e = absurd k
  answered (quiets.SetupTunnel output input) (answers.SetupTunnel (Ok Input)) r k e = asked_one see old new (entry p (act_of (quiets.SetupTunnel output input)) (reply_of (answers.SetupTunnel (Ok Input)))) (due (quiets.SetupTunnel output input)) e (λ y u. u.1)
  answered (quiets.SetupTunnel output input) (answers.SetupTunnel (Ok Output)) r k e = otherwise (quiets.SetupTunnel output input) (answers.SetupTunnel (Ok Output)) (acts.Joined (Ok Output)) e (λ y u. u.1) (λ z. cc)
  answered (quiets.SetupTunnel output input) (answers.SetupTunnel (Ok Unspecified)) r k e = otherwise (quiets.SetupTunnel output input) (answers.SetupTunnel (Ok Unspecified)) (acts.Joined (Ok Unspecified)) e (λ y u. u.1) (λ z. cc)
  answered (quiets.SetupTunnel output input) (answers.SetupTunnel (Err er)) r k e = otherwise (quiets.SetupTunnel output input) (answers.SetupTunnel (Err er)) (acts.Joined (Err er)) e (λ y u. u.1) (λ z. cc)
  answered (quiets.SetupTunnel output input) _ r k e = absurd k
  answered (quiets.DropTunnel output input) (answers.DropTunnel (Ok x)) r k e = asked_one see old new (entry p (act_of (quiets.DropTunnel output input)) (reply_of (answers.DropTunnel (Ok x)))) (due (quiets.DropTunnel output input)) e (λ y u. u.1)
  answered (quiets.DropTunnel output input) (answers.DropTunnel (Err er)) r k e = otherwise (quiets.DropTunnel output input) (answers.DropTunnel (Err er)) (acts.Plain (Err er)) e (λ y u. u.1) (λ z. cc)
  answered (quiets.DropTunnel output input) _ r k e = absurd k
  answered (quiets.SendCommand h command) (answers.SendCommand (Ok x)) r k e = asked_one see old new (entry p (act_of (quiets.SendCommand h command)) (reply_of (answers.SendCommand (Ok x)))) (due (quiets.SendCommand h command)) e (λ y u. u.1)
  answered (quiets.SendCommand h command) (answers.SendCommand (Err er)) r k e = otherwise (quiets.SendCommand h command) (answers.SendCommand (Err er)) (acts.Plain (Err er)) e (λ y u. u.1) (λ z. cc)
  answered (quiets.SendCommand h command) _ r k e = absurd k
  answered _ _ r k e = absurd r

-- ---- the pass goes on

module _ {S K C : Type 0} (progress : C → Progress) (b : Board S K C) (seats : List Seat) where
  pub keeps_itself : (k : Book S K C) → IsBook b seats k → Keeps progress b seats k k
  keeps_itself k is = record {
    goes_on = record { book = is; number = refl; same = (refl, refl, refl) };
    holds = (refl, refl, refl);
    stepless = λ h. h;
  }

  quiet_act : (asked : QuietAct) → IsStepless {S = S} {K = K} {C = C} (act_of asked)
  quiet_act (quiets.Progress h) = tt
  quiet_act (quiets.SetParameter h key value) = tt
  quiet_act (quiets.SetupTunnel output input) = tt
  quiet_act (quiets.DropTunnel output input) = tt
  quiet_act (quiets.SendCommand h command) = tt
  quiet_act (quiets.RunCommand h) = tt
  quiet_act (quiets.Supply h port) = tt
  quiet_act (quiets.Release h port) = tt
  quiet_act (quiets.HandOver h port) = tt
  quiet_act (quiets.HandBack h port) = tt

  -- one call by which nothing goes out and nothing in
  pub keeps_quiet : (k l : Book S K C) (asked : QuietAct) (told : QuietReply) → GoesOn b seats k l → HoldsAsBefore progress k l → Made k (act_of asked) (reply_of told) l → Keeps progress b seats k l
  keeps_quiet k l asked told on holds made = record {
    goes_on = on;
    holds = holds;
    stepless = λ h. subst AreStepless (sym made) (All-push (λ e. IsStepless e.act) (own_calls k.pass) (entry k.number (act_of asked) (reply_of told)) h (quiet_act asked));
  }

  pub same_on : (k l m : Book S K C) → IsSamePass (pass_view k.pass) (pass_view l.pass) → IsSamePass (pass_view l.pass) (pass_view m.pass) → IsSamePass (pass_view k.pass) (pass_view m.pass)
  same_on k l m A B = (B.0 ∙ A.0, B.1 ∙ A.1, B.2 ∙ A.2)

  pub keeps_on : (k l m : Book S K C) → Keeps progress b seats k l → Keeps progress b seats l m → Keeps progress b seats k m
  keeps_on k l m A B = record {
    goes_on = record { book = (B.goes_on).book; number = (B.goes_on).number ∙ (A.goes_on).number; same = same_on k l m (A.goes_on).same (B.goes_on).same };
    holds = ((B.holds).0 ∙ (A.holds).0, (B.holds).1 ∙ (A.holds).1, (B.holds).2 ∙ (A.holds).2);
    stepless = λ h. B.stepless (A.stepless h);
  }
