-- What is kept of a book over its calls.
use Rattle.std.proofs.Common.{◌≡◌, ℕ, ◌+◌, ◌==◌, ◌<◌, List, [], ◌∷◌, ◌++◌, All, Bool, false, Option, IfSome, option_map, sym, refl, ap, ◌∙◌, subst, append_assoc, append-nil}
use Rattle.std.proofs.lemmas.List.Elements.{All-append, All-cons, All-nil}
use Rattle.il_machine.specs.declared.answer.Progress.{Progress}
use Rattle.header_core.specs.BufferHeader.{BufferHeader}
use Rattle.turnstile.specs.declared.entry.Entry.{Entry}
use Rattle.turnstile.specs.Entries.{entry, own}
use Rattle.turnstile.specs.Passes.{IsSamePass}
use Rattle.turnstile.proofs.Basics.{own_mine, snoc_same}
use Rattle.graph_acts.specs.declared.act.Act.{Act}
use Rattle.graph_acts.specs.declared.act.Reply.{Reply}
use Rattle.graph_acts.specs.Holding.{May, OutClient, clients_held, headers_held, works_held}
use Rattle.graph_acts.specs.Plain.{Sight}
use Rattle.graph_acts.specs.Working.{OutWork}
use Rattle.board.specs.declared.asked.Asked.{Asked}
use Rattle.board.specs.declared.asked.Told.{Told}
use Rattle.board.specs.declared.boards.Board.{Board}
use Rattle.board.specs.declared.pass.BoardPass.{BoardPass}
use Rattle.board.specs.declared.row.ActRow.{ActRow}
use Rattle.board.specs.Asking.{bare_log}
use Rattle.board.specs.Boards.{IsCalled, IsOf, clients, clients_after, first_of, headers, headers_after, own_calls, pass_view, works, works_after}
use Rattle.board.proofs.Bare.{bare_snoc}
use Rattle.play_log.specs.Choosing.{picked}
use Rattle.play_log.specs.Lines.{IsLogLine, LogLine}
use Rattle.play_log.specs.Places.{IsKeptAt, PassLogValue, PlacedLine}
use Rattle.pass_lines.specs.Passes.{lines_of}
use Rattle.pass_lines.proofs.Choosing.{more, stays}
use Rattle.pass_book.specs.declared.book.Book.{Book}
use Rattle.pass_book.specs.declared.quiet.QuietAct.{QuietAct}
use Rattle.pass_book.specs.declared.quiet.QuietAct.TheVariants as quiets
use Rattle.pass_book.specs.declared.quiet.QuietReply.{QuietReply}
use Rattle.pass_book.specs.declared.quiet.QuietReply.TheVariants as answers
use Rattle.work_signs.specs.declared.seat.Seat.{Seat}
use Rattle.pass_book.specs.Books.{GoesOn, IsBook, IsFresh, IsPlayCall, IsRowAtRest, Made}
use Rattle.pass_book.specs.Moves.{Adds, HoldsAsBefore, IsMove, Moves}
use Rattle.pass_book.specs.Quiet.{IsQuietOfPlay, IsQuietReply, act_of, reply_of}
use Rattle.pass_book.specs.Saying.{line_by, line_of, said_of}
use Rattle.pass_book.specs.Seats.{IsOfPlay, names_of}

all_more : {X : Type 0} (P : X → Type 0) (xs : List X) (x : X) → All P xs → P x → All P (xs ++ x ∷ [])
all_more P xs x all is = All-append P xs (x ∷ []) all (All-cons P x [] is (All-nil P))

-- ---- a book's lines

module _ {S K C : Type 0} where
  -- the lines of a pass that made no call
  pub fresh_book : (b : Board S K C) (seats : List Seat) (k : Book S K C) (pass : BoardPass S K C) (number : ℕ) (log : PassLogValue) (row : ActRow S K C)
      → IsFresh b pass number log row → k.pass ≡ pass → k.number ≡ number → k.log ≡ log → k.row ≡ row → IsBook b seats k
  fresh_book b seats k pass number log row F at num kept asks =
      let says = line_of (names_of seats) in
      let none : lines_of says number (pass_view pass).seen ≡ [] = stays says number [] (pass_view pass).seen F.unseen in
      let made : IsBook b seats (record { pass = pass; number = number; log = log; row = row }) = record {
        pass = F.of;
        number = F.numbered;
        mine = F.unseen ∙ sym F.unmade;
        lines = λ whole. subst (λ l. IsKeptAt l log) (sym none) F.empty;
        acts = subst (All (IsPlayCall seats)) (sym F.unmade) (All-nil (λ (e : Entry (Asked S K C) (Told S K C)). IsPlayCall seats e));
        row = F.rests;
      } in
      subst (IsBook b seats) (λ i. record { pass = sym at i; number = sym num i; log = sym kept i; row = sym asks i }) made

  -- those of one that made a call
  called_lines : (says : Entry (Asked S K C) (Told S K C) → Option LogLine) (see : Sight S K C) (hs : Bool) (b : Board S K C) (k : BoardPass S K C) (p : ℕ) (act : Act S K C) (place : ℕ) (reply : Reply S K C) (w : BoardPass S K C)
      → (pass_view k).number ≡ p → own p (pass_view k).seen ≡ (pass_view k).mine → (Q : IsCalled see hs (first_of b) (pass_view k) act place reply (pass_view w))
      → (own p (pass_view w).seen ≡ (pass_view w).mine) × (lines_of says p (pass_view w).seen ≡ lines_of says p (pass_view k).seen ++ picked (says (entry p (record { act = act; reader = Q.given }) (record { reply = reply; reader = Q.back }))) place [])
  called_lines says see hs b k p act place reply w is mine Q =
      let c = Q.called in
      let a : Asked S K C = record { act = act; reader = Q.given } in
      let r : Told S K C = record { reply = reply; reader = Q.back } in
      let v = pass_view k in let u = pass_view w in
      let seen : u.seen ≡ c.before ++ entry p a r ∷ [] = c.is_seen ∙ ap (λ (q : ℕ). c.before ++ entry q a r ∷ []) is in
      let after : own p u.seen ≡ u.mine = ap (λ (q : ℕ). own q u.seen) (sym is) ∙ c.mine in
      let added : u.mine ≡ v.mine ++ entry p a r ∷ [] = c.added ∙ ap (λ (q : ℕ). v.mine ++ entry q a r ∷ []) is in
      let early : own p c.before ++ entry p a r ∷ [] ≡ v.mine ++ entry p a r ∷ [] = sym (own_mine p a r c.before) ∙ (ap (own p) (sym seen) ∙ (after ∙ added)) in
      let before : own p (v.seen ++ c.earlier.0) ≡ own p v.seen = ap (own p) c.earlier.1 ∙ ((snoc_same (own p c.before) v.mine (entry p a r) (entry p a r) early).0 ∙ sym mine) in
      let same : lines_of says p c.before ≡ lines_of says p v.seen = ap (lines_of says p) (sym c.earlier.1) ∙ stays says p v.seen c.earlier.0 before in (
        after,
        ap (lines_of says p) seen ∙ (more says p c.before a r ∙ (λ i. same i ++ picked (says (entry p a r)) (sym c.at_place i) [])),
      )

  pub book_called : (see : Sight S K C) (hs : Bool) (b : Board S K C) (seats : List Seat) (k k' : Book S K C) (p : BoardPass S K C) (act : Act S K C) (place : ℕ) (reply : Reply S K C)
      → IsBook b seats k → IsOfPlay seats act → IfSome (option_map (line_by k.number) (said_of (names_of seats) act reply)) IsLogLine → IsOf b p → IsSamePass (pass_view k.pass) (pass_view p) → IsCalled see hs (first_of b) (pass_view k.pass) act place reply (pass_view p)
      → k'.pass ≡ p → k'.number ≡ k.number → k'.row ≡ k.row → ((k'.log).broken ≡ false → (k.log).broken ≡ false)
      → ((lines : List PlacedLine) → IsKeptAt lines k.log → (k'.log).broken ≡ false → IsKeptAt (lines ++ picked (option_map (line_by k.number) (said_of (names_of seats) act reply)) place []) k'.log)
      → GoesOn b seats k k'
  book_called see hs b seats k k' p act place reply is plays said of same Q at num asks whole kept =
      let t = subst (λ (q : BoardPass S K C). IsOf b q × IsSamePass (pass_view k.pass) (pass_view q) × IsCalled see hs (first_of b) (pass_view k.pass) act place reply (pass_view q)) (sym at) (of, same, Q) in
      let R = t.2 in
      let a : Asked S K C = record { act = act; reader = R.given } in
      let r : Told S K C = record { reply = reply; reader = R.back } in
      let v = pass_view k.pass in let w = pass_view k'.pass in
      let says = line_of (names_of seats) in
      let c = called_lines says see hs b k.pass k.number act place reply k'.pass is.number is.mine R in record {
        book = record {
          pass = t.0;
          number = (t.1).0 ∙ (is.number ∙ sym num);
          mine = ap (λ (z : ℕ). own z w.seen) num ∙ c.0;
          lines = λ unbroken. subst (λ l. IsKeptAt l k'.log) (sym (ap (λ (z : ℕ). lines_of says z w.seen) num ∙ c.1)) (kept (lines_of says k.number v.seen) (is.lines (whole unbroken)) unbroken);
          acts = subst (All (IsPlayCall seats)) (sym R.called.added) (all_more (λ (e : Entry (Asked S K C) (Told S K C)). IsPlayCall seats e) v.mine (entry v.number a r) is.acts (record { of_play = plays; said = subst (λ (n : ℕ). IfSome (option_map (line_by n) (said_of (names_of seats) act reply)) IsLogLine) (sym is.number) said }));
          row = subst (IsRowAtRest b) (sym asks) is.row;
        };
        number = num;
        same = t.1;
      }

  pub book_made : (see : Sight S K C) (hs : Bool) (b : Board S K C) (seats : List Seat) (k k' : Book S K C) (p : BoardPass S K C) (act : Act S K C) (place : ℕ) (reply : Reply S K C)
      → IsBook b seats k → IsCalled see hs (first_of b) (pass_view k.pass) act place reply (pass_view p) → k'.pass ≡ p → Made k act reply k'
  book_made see hs b seats k k' p act place reply is Q at =
      let v = pass_view k.pass in
      let e : Entry (Asked S K C) (Told S K C) = entry v.number (record { act = act; reader = Q.given }) (record { reply = reply; reader = Q.back }) in
      ap own_calls at ∙ (ap bare_log Q.called.added ∙ (bare_snoc v.mine e ∙ ap (λ (n : ℕ). own_calls k.pass ++ entry n act reply ∷ []) is.number))

  -- a look without a turn changes nothing
  pub peeked : (progress : C → Progress) (b : Board S K C) (seats : List Seat) (k k' : Book S K C) → IsBook b seats k → IsOf b k'.pass → pass_view k'.pass ≡ pass_view k.pass → k'.number ≡ k.number → k'.log ≡ k.log → k'.row ≡ k.row → Moves progress b seats k k'
  peeked progress b seats k k' is of at num kept asks = record {
    goes_on = record {
      book = record {
        pass = of;
        number = ap (λ v. v.number) at ∙ (is.number ∙ sym num);
        mine = (λ i. own (num i) (at i).seen) ∙ (is.mine ∙ ap (λ v. v.mine) (sym at));
        lines = subst (λ (l : List PlacedLine × PassLogValue). (l.1).broken ≡ false → IsKeptAt l.0 l.1) (λ i. (lines_of (line_of (names_of seats)) (sym num i) (sym at i).seen, sym kept i)) is.lines;
        acts = subst (λ v. All (IsPlayCall seats) v.mine) (sym at) is.acts;
        row = subst (IsRowAtRest b) (sym asks) is.row;
      };
      number = num;
      same = (ap (λ v. v.number) at, ap (λ v. v.splits) at, ap (λ v. v.joined) at);
    };
    holds = (ap (λ v. headers_held (bare_log v.mine)) at, ap (λ v. clients_held progress (bare_log v.mine)) at, ap (λ v. works_held (bare_log v.mine)) at);
    adds = ([], ap (λ v. bare_log v.mine) at ∙ sym (append-nil (own_calls k.pass)), All-nil (λ (e : Entry (Act S K C) (Reply S K C)). IsMove e.act));
  }

  -- ---- acts by which nothing goes out and nothing in

  pub quiet_of_play : (seats : List Seat) (a : QuietAct) (act : Act S K C) → act ≡ act_of a → IsQuietOfPlay seats a → IsOfPlay seats act
  quiet_of_play seats (quiets.Progress h) act e is = subst (IsOfPlay seats) (sym e) is
  quiet_of_play seats (quiets.SetParameter h key value) act e is = subst (IsOfPlay seats) (sym e) is
  quiet_of_play seats (quiets.SetupTunnel output input) act e is = subst (IsOfPlay seats) (sym e) is
  quiet_of_play seats (quiets.DropTunnel output input) act e is = subst (IsOfPlay seats) (sym e) is
  quiet_of_play seats (quiets.SendCommand h command) act e is = subst (IsOfPlay seats) (sym e) is
  quiet_of_play seats (quiets.RunCommand h) act e is = subst (IsOfPlay seats) (sym e) is
  quiet_of_play seats (quiets.Supply h port) act e is = subst (IsOfPlay seats) (sym e) is
  quiet_of_play seats (quiets.Release h port) act e is = subst (IsOfPlay seats) (sym e) is
  quiet_of_play seats (quiets.HandOver h port) act e is = subst (IsOfPlay seats) (sym e) is
  quiet_of_play seats (quiets.HandBack h port) act e is = subst (IsOfPlay seats) (sym e) is

  pub quiet_may : (see : Sight S K C) (hs : Bool) (mine : List (Entry (Act S K C) (Reply S K C))) (a : QuietAct) (act : Act S K C) → act ≡ act_of a → May see hs mine act
  quiet_may see hs mine (quiets.Progress h) act e = subst (May see hs mine) (sym e) tt
  quiet_may see hs mine (quiets.SetParameter h key value) act e = subst (May see hs mine) (sym e) tt
  quiet_may see hs mine (quiets.SetupTunnel output input) act e = subst (May see hs mine) (sym e) tt
  quiet_may see hs mine (quiets.DropTunnel output input) act e = subst (May see hs mine) (sym e) tt
  quiet_may see hs mine (quiets.SendCommand h command) act e = subst (May see hs mine) (sym e) tt
  quiet_may see hs mine (quiets.RunCommand h) act e = subst (May see hs mine) (sym e) tt
  quiet_may see hs mine (quiets.Supply h port) act e = subst (May see hs mine) (sym e) tt
  quiet_may see hs mine (quiets.Release h port) act e = subst (May see hs mine) (sym e) tt
  quiet_may see hs mine (quiets.HandOver h port) act e = subst (May see hs mine) (sym e) tt
  quiet_may see hs mine (quiets.HandBack h port) act e = subst (May see hs mine) (sym e) tt

  pub record IsStill (progress : C → Progress) (act : Act S K C) (reply : Reply S K C) : Type 0 where
    pub headers : (held : List BufferHeader) → headers_after act reply held ≡ held
    pub clients : (held : List OutClient) → clients_after progress act reply held ≡ held
    pub works : (held : List (OutWork S K)) → works_after act reply held ≡ held

  still : (progress : C → Progress) (a : QuietAct) (r : QuietReply) → IsQuietReply a r → IsStill progress (act_of a) (reply_of r)
  still progress (quiets.Progress h) (answers.Progress result) is = record { headers = λ held. refl; clients = λ held. refl; works = λ held. refl }
  still progress (quiets.SetParameter h key value) (answers.SetParameter result) is = record { headers = λ held. refl; clients = λ held. refl; works = λ held. refl }
  still progress (quiets.SetupTunnel output input) (answers.SetupTunnel result) is = record { headers = λ held. refl; clients = λ held. refl; works = λ held. refl }
  still progress (quiets.DropTunnel output input) (answers.DropTunnel result) is = record { headers = λ held. refl; clients = λ held. refl; works = λ held. refl }
  still progress (quiets.SendCommand h command) (answers.SendCommand result) is = record { headers = λ held. refl; clients = λ held. refl; works = λ held. refl }
  still progress (quiets.RunCommand h) (answers.RunCommand result) is = record { headers = λ held. refl; clients = λ held. refl; works = λ held. refl }
  still progress (quiets.Supply h port) (answers.Supply result) is = record { headers = λ held. refl; clients = λ held. refl; works = λ held. refl }
  still progress (quiets.Release h port) (answers.Release result) is = record { headers = λ held. refl; clients = λ held. refl; works = λ held. refl }
  still progress (quiets.HandOver h port) (answers.HandOver result) is = record { headers = λ held. refl; clients = λ held. refl; works = λ held. refl }
  still progress (quiets.HandBack h port) (answers.HandBack result) is = record { headers = λ held. refl; clients = λ held. refl; works = λ held. refl }
  still progress _ _ is = absurd is

  -- a quiet call leaves what is held
  pub quiet_holds : (progress : C → Progress) (x y : Book S K C) (a : QuietAct) (r : QuietReply) (act : Act S K C) (reply : Reply S K C) → IsQuietReply a r → act ≡ act_of a → reply ≡ reply_of r
      → headers y.pass ≡ headers_after act reply (headers x.pass) → clients progress y.pass ≡ clients_after progress act reply (clients progress x.pass) → works y.pass ≡ works_after act reply (works x.pass)
      → HoldsAsBefore progress x y
  quiet_holds progress x y a r act reply is asked told hs cs ws =
      let s = still progress a r is in (
        hs ∙ ((λ i. headers_after (asked i) (told i) (headers x.pass)) ∙ s.headers (headers x.pass)),
        cs ∙ ((λ i. clients_after progress (asked i) (told i) (clients progress x.pass)) ∙ s.clients (clients progress x.pass)),
        ws ∙ ((λ i. works_after (asked i) (told i) (works x.pass)) ∙ s.works (works x.pass)),
      )

  -- ---- one call behind another

  module _ (progress : C → Progress) (b : Board S K C) (seats : List Seat) where
    pub goes_itself : (x : Book S K C) → IsBook b seats x → GoesOn b seats x x
    goes_itself x is = record { book = is; number = refl; same = (refl, refl, refl) }

    pub goes_further : (x y z : Book S K C) → GoesOn b seats x y → GoesOn b seats y z → GoesOn b seats x z
    goes_further x y z f g = record { book = g.book; number = g.number ∙ f.number; same = ((g.same).0 ∙ (f.same).0, (g.same).1 ∙ (f.same).1, (g.same).2 ∙ (f.same).2) }

    pub holds_further : (x y z : Book S K C) → HoldsAsBefore progress x y → HoldsAsBefore progress y z → HoldsAsBefore progress x z
    holds_further x y z f g = (g.0 ∙ f.0, g.1 ∙ f.1, g.2 ∙ f.2)

    pub adds_further : (Which : Act S K C → Type 0) (x y z : Book S K C) → Adds Which x y → Adds Which y z → Adds Which x z
    adds_further Which x y z f g = (
      f.0 ++ g.0,
      g.1 ∙ (ap (λ l. l ++ g.0) f.1 ∙ append_assoc (own_calls x.pass) f.0 g.0),
      All-append (λ (e : Entry (Act S K C) (Reply S K C)). Which e.act) f.0 g.0 f.2 g.2,
    )

    pub moves_itself : (x : Book S K C) → IsBook b seats x → Moves progress b seats x x
    moves_itself x is = record {
      goes_on = goes_itself x is;
      holds = (refl, refl, refl);
      adds = ([], sym (append-nil (own_calls x.pass)), All-nil (λ (e : Entry (Act S K C) (Reply S K C)). IsMove e.act));
    }

    pub moves_on : (x y z : Book S K C) → Moves progress b seats x y → Moves progress b seats y z → Moves progress b seats x z
    moves_on x y z f g = record {
      goes_on = goes_further x y z f.goes_on g.goes_on;
      holds = holds_further x y z f.holds g.holds;
      adds = adds_further IsMove x y z f.adds g.adds;
    }

    -- one such call
    pub moves_once : (x y : Book S K C) (act : Act S K C) (reply : Reply S K C) → IsMove act → GoesOn b seats x y → HoldsAsBefore progress x y → Made x act reply y → Moves progress b seats x y
    moves_once x y act reply is on holds made = record {
      goes_on = on;
      holds = holds;
      adds = (entry x.number act reply ∷ [], made, All-cons (λ (e : Entry (Act S K C) (Reply S K C)). IsMove e.act) (entry x.number act reply) [] is (All-nil (λ (e : Entry (Act S K C) (Reply S K C)). IsMove e.act)));
    }
