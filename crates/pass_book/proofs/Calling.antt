-- What several quiet calls leave, one behind another.
use Rattle.std.proofs.Common.{◌≡◌, ℕ, ◌+◌, suc, arith, take, slice_get, Some, List, [], ◌∷◌, ◌++◌, map, refl, sym, ap, ◌∙◌, append_assoc, append-nil}
use Rattle.std.proofs.Math.Seq.{take-suc}
use Rattle.std.proofs.lemmas.Option.{get_or_from_slice_get, slice_get_within}
use Rattle.il_machine.specs.declared.answer.Progress.{Progress}
use Rattle.turnstile.specs.declared.entry.Entry.{Entry}
use Rattle.turnstile.specs.Entries.{entry}
use Rattle.graph_acts.specs.declared.act.Act.{Act}
use Rattle.graph_acts.specs.declared.act.Reply.{Reply}
use Rattle.board.specs.declared.boards.Board.{Board}
use Rattle.board.specs.Boards.{own_calls}
use Rattle.board.specs.Rows.{entries_of}
use Rattle.pass_book.specs.declared.book.Book.{Book}
use Rattle.pass_book.specs.declared.quiet.QuietAct.{QuietAct}
use Rattle.pass_book.specs.declared.quiet.QuietReply.{QuietReply}
use Rattle.work_signs.specs.declared.seat.Seat.{Seat}
use Rattle.pass_book.specs.Books.{GoesOn, IsBook, Made}
use Rattle.pass_book.specs.Moves.{HoldsAsBefore}
use Rattle.pass_book.specs.Quiet.{AreQuietReplies, IsQuietReply, act_of, reply_of}
use Rattle.pass_book.proofs.Keeping.{goes_further, goes_itself, holds_further}

pub take_more : {X : Type 0} (xs : List X) (i : ℕ) (x : X) → slice_get xs i ≡ Some x → take (i + 1) xs ≡ take i xs ++ x ∷ []
take_more xs i x e =
    let next : i + 1 ≡ suc i = omega arith in
    ap (λ (n : ℕ). take n xs) next ∙ (take-suc xs i x (slice_get_within xs i x e) ∙ ap (λ y. take i xs ++ y ∷ []) (get_or_from_slice_get xs i x x e))

replies_more : (asked : List QuietAct) (told : List QuietReply) (a : QuietAct) (r : QuietReply) → AreQuietReplies asked told → IsQuietReply a r → AreQuietReplies (asked ++ a ∷ []) (told ++ r ∷ [])
replies_more [] [] a r are is = (is, tt)
replies_more [] (y ∷ told) a r are is = absurd are
replies_more (x ∷ asked) [] a r are is = absurd are
replies_more (x ∷ asked) (y ∷ told) a r are is = (are.0, replies_more asked told a r are.1 is)

module _ {S K C : Type 0} where
  -- the entries of the calls, by the pass
  abbrev pub calls_of : ℕ → List QuietAct → List QuietReply → List (Entry (Act S K C) (Reply S K C))
  calls_of p asked told = entries_of p (map act_of asked) (map reply_of told)

  calls_more : (p : ℕ) (asked : List QuietAct) (told : List QuietReply) (a : QuietAct) (r : QuietReply) → AreQuietReplies asked told
      → calls_of p (asked ++ a ∷ []) (told ++ r ∷ []) ≡ calls_of p asked told ++ entry p (act_of a) (reply_of r) ∷ []
  calls_more p [] [] a r are = refl
  calls_more p [] (y ∷ told) a r are = absurd are
  calls_more p (x ∷ asked) [] a r are = absurd are
  calls_more p (x ∷ asked) (y ∷ told) a r are = ap (λ l. entry p (act_of x) (reply_of y) ∷ l) (calls_more p asked told a r are.1)

  -- the calls were made, and these are the replies
  pub record AreMade (progress : C → Progress) (b : Board S K C) (seats : List Seat) (old new : Book S K C) (asked : List QuietAct) (told : List QuietReply) : Type 0 where
    pub goes_on : GoesOn b seats old new
    pub added : own_calls new.pass ≡ own_calls old.pass ++ calls_of old.number asked told
    pub replies : AreQuietReplies asked told
    pub holds : HoldsAsBefore progress old new

  module _ (progress : C → Progress) (b : Board S K C) (seats : List Seat) where
    pub none_made : (x : Book S K C) → IsBook b seats x → AreMade progress b seats x x [] []
    none_made x is = record { goes_on = goes_itself progress b seats x is; added = sym (append-nil (own_calls x.pass)); replies = tt; holds = (refl, refl, refl) }

    pub one_made : (x y z : Book S K C) (asked asked' : List QuietAct) (told : List QuietReply) (a : QuietAct) (r : QuietReply) → AreMade progress b seats x y asked told → asked' ≡ asked ++ a ∷ []
        → GoesOn b seats y z → Made y (act_of a) (reply_of r) z → IsQuietReply a r → HoldsAsBefore progress y z → AreMade progress b seats x z asked' (told ++ r ∷ [])
    one_made x y z asked asked' told a r M at on made is holds =
        let now : AreMade progress b seats x z (asked ++ a ∷ []) (told ++ r ∷ []) = record {
          goes_on = goes_further progress b seats x y z M.goes_on on;
          added = made
              ∙ (ap (λ l. l ++ entry y.number (act_of a) (reply_of r) ∷ []) M.added
              ∙ (append_assoc (own_calls x.pass) (calls_of x.number asked told) (entry y.number (act_of a) (reply_of r) ∷ [])
              ∙ ap (λ l. own_calls x.pass ++ l) (ap (λ (n : ℕ). calls_of x.number asked told ++ entry n (act_of a) (reply_of r) ∷ []) M.goes_on.number ∙ sym (calls_more x.number asked told a r M.replies))));
          replies = replies_more asked told a r M.replies is;
          holds = holds_further progress b seats x y z M.holds holds;
        } in
        rw at now
