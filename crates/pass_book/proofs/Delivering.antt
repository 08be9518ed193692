-- What a delivery leaves of a book.
use Rattle.std.proofs.Common.{◌≡◌, ℕ, List, [], ◌∷◌, ◌++◌, ap, ◌∙◌, append_assoc}
use Rattle.std.proofs.lemmas.List.Elements.{All-cons, All-nil}
use Rattle.il_machine.specs.declared.answer.Progress.{Progress}
use Rattle.turnstile.specs.declared.entry.Entry.{Entry}
use Rattle.turnstile.specs.Entries.{entry}
use Rattle.graph_acts.specs.declared.act.Act.{Act}
use Rattle.graph_acts.specs.declared.act.Reply.{Reply}
use Rattle.board.specs.declared.boards.Board.{Board}
use Rattle.board.specs.Boards.{own_calls}
use Rattle.pass_book.specs.declared.book.Book.{Book}
use Rattle.work_signs.specs.declared.seat.Seat.{Seat}
use Rattle.pass_book.specs.Books.{GoesOn, Made}
use Rattle.pass_book.specs.Moves.{HoldsAsBefore, IsMove, Moves}
use Rattle.pass_book.proofs.Keeping.{goes_further}

module _ {S K C : Type 0} where
  pub made_twice : (x y z : Book S K C) (a b : Act S K C) (r s : Reply S K C) → y.number ≡ x.number → Made x a r y → Made y b s z
      → own_calls z.pass ≡ own_calls x.pass ++ entry x.number a r ∷ entry x.number b s ∷ []
  made_twice x y z a b r s same one two =
      two ∙ (ap (λ l. l ++ entry y.number b s ∷ []) one
      ∙ (append_assoc (own_calls x.pass) (entry x.number a r ∷ []) (entry y.number b s ∷ []) ∙ ap (λ (n : ℕ). own_calls x.pass ++ entry x.number a r ∷ entry n b s ∷ []) same))

  pub moves_twice : (progress : C → Progress) (board : Board S K C) (seats : List Seat) (x y z : Book S K C) (a b : Act S K C) (r s : Reply S K C) → IsMove a → IsMove b
      → GoesOn board seats x y → Made x a r y → GoesOn board seats y z → Made y b s z → HoldsAsBefore progress x z → Moves progress board seats x z
  moves_twice progress board seats x y z a b r s p q on one further two holds = record {
    goes_on = goes_further progress board seats x y z on further;
    holds = holds;
    adds = (
      entry x.number a r ∷ entry x.number b s ∷ [],
      made_twice x y z a b r s on.number one two,
      All-cons (λ (e : Entry (Act S K C) (Reply S K C)). IsMove e.act) (entry x.number a r) (entry x.number b s ∷ []) p
          (All-cons (λ (e : Entry (Act S K C) (Reply S K C)). IsMove e.act) (entry x.number b s) [] q (All-nil (λ (e : Entry (Act S K C) (Reply S K C)). IsMove e.act))),
    );
  }
