-- What is kept of a worker over moves, over a claim that gives nothing, and over a step.
use Rattle.std.proofs.Common.{◌≡◌, ℕ, ◌+◌, ◌-◌, ◌^◌, ◌<◌, ◌≤◌, List, [], ◌∷◌, ◌++◌, length, Option, Some, None, is_some, inl, inr, sym, refl, ap, ◌∙◌, subst, arith, append_assoc, length-append, slice_get, get_or}
use Rattle.std.proofs.lemmas.Option.{slice_get-get_or, slice_get_within}
use Rattle.header_core.specs.BufferHeader.{BufferHeader}
use Rattle.held_things.specs.Held.{Has, more}
use Rattle.omx_types.specs.declared.handle.Handle.{Handle}
use Rattle.turnstile.specs.declared.entry.Entry.{Entry}
use Rattle.turnstile.specs.Entries.{entry}
use Rattle.graph_acts.specs.declared.act.Act.{Act}
use Rattle.graph_acts.specs.declared.act.Act.TheVariants as asks
use Rattle.graph_acts.specs.declared.act.Reply.{Reply}
use Rattle.graph_acts.specs.declared.act.Reply.TheVariants as replies
use Rattle.graph_acts.specs.Holding.{Clear}
use Rattle.graph_acts.specs.Plain.{Sight}
use Rattle.graph_acts.specs.Replying.{IsReplyTo}
use Rattle.graph_acts.specs.Working.{IsRunOf, OutWork, work_given}
use Rattle.audio_parts.specs.Shown.{ShownPart}
use Rattle.il_flow.specs.Works.{DoneOf}
use Rattle.board.specs.declared.boards.Board.{Board}
use Rattle.board.specs.Boards.{clients, clients_after, headers, headers_after, own_calls, pass_view, works, works_after}
use Rattle.pass_book.specs.declared.book.Book.{Book}
use Rattle.work_signs.specs.declared.seat.Seat.{Seat}
use Rattle.pass_book.specs.Books.{GoesOn, IsBook, IsItsWork, Made}
use Rattle.pass_book.specs.Moves.{Moves}
use Rattle.pass_book.specs.Seats.{IsSeatOf, IsSeated, IsSeatedAt}
use Rattle.play_worker.specs.declared.worker.Worker.{Worker}
use Rattle.play_worker.specs.declared.failure.Failure.{Failure}
use Rattle.play_worker.specs.Counts.{Counts, Raised, TellsZeros}
use Rattle.play_worker.specs.Failing.{HasFailed, TellsWorst, failed_by, worse}
use Rattle.play_worker.specs.Stepping.{IsStepped}
use Rattle.play_worker.specs.Workers.{AreNumbered, IsWorker}
use Rattle.play_worker.proofs.Calls.{claim_headers, claimed_number, counts_back, counts_claim, counts_idle, counts_moves, counts_zeros, moves_fail, unasked_moves, unasked_none, unasked_one}
use Rattle.play_worker.proofs.Order.{no_some, tells_still, tells_worse}

-- ---- seats

pub seated : (seats : List Seat) (s : Seat) → IsSeatOf seats s → IsSeated seats s.handle
seated seats s is = (s, is, refl)

-- at a port that the seat has
pub seated_at : (seats : List Seat) (s : Seat) (port : ℕ) → IsSeatOf seats s → port < s.ports → IsSeatedAt seats s.handle port
seated_at seats s port is below = (s, is, refl, below)

pub seated_within : (seats : List Seat) (h : Handle) → IsSeated seats h → h.generation < length seats
seated_within seats h is = slice_get_within seats h.generation is.0 is.1

pub numbered : (seats : List Seat) (place : ℕ) (s : Seat) → AreNumbered seats → slice_get seats place ≡ Some s → IsSeatOf seats s
numbered seats place s are at = ap (λ (n : ℕ). slice_get seats n) (are place s at) ∙ at

-- the seat at a place
pub numbered_at : (seats : List Seat) (place : ℕ) (s : Seat) → AreNumbered seats → place < length seats → s ≡ get_or seats place s → IsSeatOf seats s
numbered_at seats place s are lt at = numbered seats place s are (slice_get-get_or seats place s lt ∙ ap (λ (x : Seat). Some x) (sym at))

-- ---- a work that was claimed

pub has_only : {X : Type 0} (xs : List X) (x : X) → xs ≡ x ∷ [] → Has xs x
has_only {X} xs x e = subst (λ (l : List X). Has l x) (sym e) (inl refl)

module _ {S K C : Type 0} where
  -- it comes back as that of a component of the play
  pub done_within : (seats : List Seat) (h : Handle) (reply : Reply S K C) (got : OutWork S K) (done : DoneOf (ShownPart S K)) → IsSeated seats h → IsReplyTo (asks.Claim h) reply → IsItsWork (asks.Claim h) reply → work_given reply ≡ Some got
      → done.component ≡ got.handle → (done.component).generation < length seats
  done_within seats h reply got done is r its gave same = subst (λ (n : ℕ). n < length seats) (sym (ap (λ (x : Handle). x.generation) same ∙ claimed_number h reply got r its gave)) (seated_within seats h is)

module _ {S K C : Type 0} (see : Sight S K C) (b : Board S K C) (seats : List Seat) where
  -- the calls of a step
  pub stepped : (x y z : Book S K C) (h : Handle) (reply : Reply S K C) (got : OutWork S K) (done : DoneOf (ShownPart S K)) → GoesOn b seats x y → Made x (asks.Claim h) reply y → work_given reply ≡ Some got → IsRunOf see.reads see.writes got done
      → Made y (asks.Finish done) replies.Finish z → IsStepped see h x z
  stepped x y z h reply got done on at gave run at' =
      let e : Entry (Act S K C) (Reply S K C) = entry x.number (asks.Claim h) reply in
      let e' : Entry (Act S K C) (Reply S K C) = entry x.number (asks.Finish done) replies.Finish in
      let same : entry y.number (asks.Finish done) replies.Finish ≡ e' = ap (λ (n : ℕ). entry n (asks.Finish done) replies.Finish) on.number in record {
        reply = reply;
        got = got;
        done = done;
        gave = gave;
        run = run;
        calls = at' ∙ ((λ i. at i ++ same i ∷ []) ∙ append_assoc (own_calls x.pass) (e ∷ []) (e' ∷ []));
      }

-- ---- a worker

module _ {S K C G : Type 0} (counts : G → Option (ℕ → ℕ)) (see : Sight S K C) (b : Board S K C) (seats : List Seat) where
  pub worker_begins : (w : Worker S K C G) → IsBook b seats w.book → own_calls (w.book).pass ≡ [] → TellsZeros (counts w.gate) → w.worst ≡ None → 1 ≤ (w.book).number → (w.book).number ≤ 8 → IsWorker counts see b seats w
  worker_begins w is none zeros untold one eight = record {
    book = is;
    holds = subst (λ (l : List (Entry (Act S K C) (Reply S K C))). Clear see l) (sym none) (refl, refl, refl);
    unasked = unasked_none (pass_view (w.book).pass).mine none;
    counted = subst (λ (l : List (Entry (Act S K C) (Reply S K C))). Counts (counts w.gate) l) (sym none) (counts_zeros S K C (counts w.gate) zeros);
    worst = subst (λ (o : Option Failure). TellsWorst (own_calls (w.book).pass) o) (sym untold) (subst (λ (l : List (Entry (Act S K C) (Reply S K C))). TellsWorst l None) (sym none) (λ f h. h));
    range = (one, eight);
  }

  pub worker_moves : (w w' : Worker S K C G) → IsWorker counts see b seats w → Moves see.progress b seats w.book w'.book → w'.gate ≡ w.gate → w'.worst ≡ w.worst → IsWorker counts see b seats w'
  worker_moves w w' is m same told =
      let added = m.adds in
      let more' = added.0 in
      let at = added.1 in
      let number : (w'.book).number ≡ (w.book).number = (m.goes_on).number in record {
        book = (m.goes_on).book;
        holds = ((m.holds).0 ∙ (is.holds).0, (m.holds).1 ∙ (is.holds).1, (m.holds).2 ∙ (is.holds).2);
        unasked = unasked_moves (pass_view (w.book).pass).mine (pass_view (w'.book).pass).mine more' at added.2 is.unasked;
        counted = subst (λ (g : G). Counts (counts g) (own_calls (w'.book).pass)) (sym same)
            (subst (λ (l : List (Entry (Act S K C) (Reply S K C))). Counts (counts w.gate) l) (sym at) (counts_moves (counts w.gate) (own_calls (w.book).pass) more' added.2 is.counted));
        worst = subst (λ (o : Option Failure). TellsWorst (own_calls (w'.book).pass) o) (sym told)
            (subst (λ (l : List (Entry (Act S K C) (Reply S K C))). TellsWorst l w.worst) (sym at) (tells_still (own_calls (w.book).pass) more' w.worst (moves_fail more' added.2) is.worst));
        range = (subst (λ (n : ℕ). 1 ≤ n) (sym number) (is.range).0, subst (λ (n : ℕ). n ≤ 8) (sym number) (is.range).1);
      }

  claim_fails : (p : ℕ) (h : Handle) (reply : Reply S K C) (f : Failure) → HasFailed (entry p (asks.Claim h) reply ∷ []) f → ⊥
  claim_fails p h reply f hf = elim hf [ inl a ↦ no_some None f refl a | inr z ↦ z ]

  -- a claim gave nothing
  pub worker_idles : (w w' : Worker S K C G) (h : Handle) (reply : Reply S K C) → IsWorker counts see b seats w → GoesOn b seats w.book w'.book → Made w.book (asks.Claim h) reply w'.book → IsReplyTo (asks.Claim h) reply → work_given reply ≡ None
      → headers (w'.book).pass ≡ headers_after (asks.Claim h) reply (headers (w.book).pass) → clients see.progress (w'.book).pass ≡ clients_after see.progress (asks.Claim h) reply (clients see.progress (w.book).pass)
      → works (w'.book).pass ≡ works_after (asks.Claim h) reply (works (w.book).pass) → w'.gate ≡ w.gate → w'.worst ≡ w.worst → IsWorker counts see b seats w'
  worker_idles w w' h reply is on at r none hs cs ws same told =
      let number : (w'.book).number ≡ (w.book).number = on.number in
      let e : Entry (Act S K C) (Reply S K C) = entry (w.book).number (asks.Claim h) reply in record {
        book = on.book;
        holds = (
          hs ∙ (ap (λ (o : Option BufferHeader). more o (headers (w.book).pass)) (claim_headers h reply r) ∙ (is.holds).0),
          cs ∙ (is.holds).1,
          ws ∙ (ap (λ (o : Option (OutWork S K)). more o (works (w.book).pass)) none ∙ (is.holds).2),
        );
        unasked = unasked_one (pass_view (w.book).pass).mine (pass_view (w'.book).pass).mine e at refl is.unasked;
        counted = subst (λ (g : G). Counts (counts g) (own_calls (w'.book).pass)) (sym same)
            (subst (λ (l : List (Entry (Act S K C) (Reply S K C))). Counts (counts w.gate) l) (sym at) (counts_idle (counts w.gate) (own_calls (w.book).pass) (w.book).number h reply none is.counted));
        worst = subst (λ (o : Option Failure). TellsWorst (own_calls (w'.book).pass) o) (sym told)
            (subst (λ (l : List (Entry (Act S K C) (Reply S K C))). TellsWorst l w.worst) (sym at) (tells_still (own_calls (w.book).pass) (e ∷ []) w.worst (claim_fails (w.book).number h reply) is.worst));
        range = (subst (λ (n : ℕ). 1 ≤ n) (sym number) (is.range).0, subst (λ (n : ℕ). n ≤ 8) (sym number) (is.range).1);
      }

  -- what a pass holds once a claim gave a work
  pub claimed_works : (w : Worker S K C G) (k : Book S K C) (h : Handle) (reply : Reply S K C) (got : OutWork S K) → IsWorker counts see b seats w → works k.pass ≡ works_after (asks.Claim h) reply (works (w.book).pass) → work_given reply ≡ Some got
      → works k.pass ≡ got ∷ []
  claimed_works w k h reply got is ws gave = ws ∙ (ap (λ (o : Option (OutWork S K)). more o (works (w.book).pass)) gave ∙ ap (λ (l : List (OutWork S K)). got ∷ l) (is.holds).2)

  -- a work was claimed, its gate was called, and it came back
  pub worker_steps : (w w' : Worker S K C G) (k : Book S K C) (h : Handle) (reply : Reply S K C) (got : OutWork S K) (done : DoneOf (ShownPart S K)) → IsWorker counts see b seats w
      → GoesOn b seats w.book k → Made w.book (asks.Claim h) reply k → length (own_calls k.pass) ≤ 2 ^ 50 → IsReplyTo (asks.Claim h) reply → work_given reply ≡ Some got
      → headers k.pass ≡ headers_after (asks.Claim h) reply (headers (w.book).pass) → clients see.progress k.pass ≡ clients_after see.progress (asks.Claim h) reply (clients see.progress (w.book).pass)
      → Raised (counts w.gate) h.generation (counts w'.gate)
      → GoesOn b seats k w'.book → Made k (asks.Finish done) replies.Finish w'.book → headers (w'.book).pass ≡ headers k.pass → clients see.progress (w'.book).pass ≡ clients see.progress k.pass → works (w'.book).pass ≡ []
      → w'.worst ≡ worse w.worst (failed_by done.component done.fault) → IsWorker counts see b seats w'
  worker_steps w w' k h reply got done is on at few r gave hs cs raised on' at' hs' cs' none told =
      let number : (w'.book).number ≡ (w.book).number = on'.number ∙ on.number in
      let e : Entry (Act S K C) (Reply S K C) = entry (w.book).number (asks.Claim h) reply in
      let e' : Entry (Act S K C) (Reply S K C) = entry k.number (asks.Finish done) replies.Finish in
      let before : List (Entry (Act S K C) (Reply S K C)) = own_calls (w.book).pass in
      let short : length before < 2 ^ 64 - 1 = let len : length (own_calls k.pass) ≡ length before + 1 = ap length at ∙ length-append before (e ∷ []) in omega (arith, few, len) in
      let had : Counts (counts w'.gate) (own_calls k.pass) = subst (λ (l : List (Entry (Act S K C) (Reply S K C))). Counts (counts w'.gate) l) (sym at)
      (counts_claim (counts w.gate) (counts w'.gate) before (w.book).number h reply short (ap is_some gave) is.counted raised) in
      let knew : TellsWorst (own_calls k.pass) w.worst = subst (λ (l : List (Entry (Act S K C) (Reply S K C))). TellsWorst l w.worst) (sym at) (tells_still before (e ∷ []) w.worst (claim_fails (w.book).number h reply) is.worst) in record {
        book = on'.book;
        holds = (
          hs' ∙ (hs ∙ (ap (λ (o : Option BufferHeader). more o (headers (w.book).pass)) (claim_headers h reply r) ∙ (is.holds).0)),
          cs' ∙ (cs ∙ (is.holds).1),
          none,
        );
        unasked = unasked_one (pass_view k.pass).mine (pass_view (w'.book).pass).mine e' at' refl (unasked_one (pass_view (w.book).pass).mine (pass_view k.pass).mine e at refl is.unasked);
        counted = subst (λ (l : List (Entry (Act S K C) (Reply S K C))). Counts (counts w'.gate) l) (sym at') (counts_back (counts w'.gate) (own_calls k.pass) e' (λ x. refl) had);
        worst = subst (λ (o : Option Failure). TellsWorst (own_calls (w'.book).pass) o) (sym told)
            (subst (λ (l : List (Entry (Act S K C) (Reply S K C))). TellsWorst l (worse w.worst (failed_by done.component done.fault))) (sym at')
            (tells_worse (own_calls k.pass) e' w.worst (failed_by done.component done.fault) refl knew));
        range = (subst (λ (n : ℕ). 1 ≤ n) (sym number) (is.range).0, subst (λ (n : ℕ). n ≤ 8) (sym number) (is.range).1);
      }
