-- What calls of a worker leave of its counts and of what it requested.
use Rattle.std.proofs.Common.{◌≡◌, ℕ, ◌+◌, ◌-◌, ◌^◌, ◌<◌, ◌≤◌, Bool, true, false, List, [], ◌∷◌, ◌++◌, length, All, Option, Some, None, IfSome, is_some, inl, inr, sym, refl, ap, ◌∙◌, subst, arith, eq-eqb, ne_eqb, add_assoc, zero-add, if◌then◌else◌, Ok}
use mathlib.Core.Logic.{dite}
use native.Mathlib.Decide.{ℕ_discrete}
use Rattle.std.proofs.lemmas.List.Elements.{All-append, All-cons, All-head, All-map, All-nil, All-tail}
use Rattle.omx_types.specs.declared.handle.Handle.{Handle}
use Rattle.turnstile.specs.declared.entry.Entry.{Entry}
use Rattle.turnstile.specs.Entries.{entry}
use Rattle.graph_acts.specs.declared.act.Act.{Act}
use Rattle.graph_acts.specs.declared.act.Act.TheVariants as asks
use Rattle.graph_acts.specs.declared.act.Reply.{Reply}
use Rattle.graph_acts.specs.declared.act.Reply.TheVariants as replies
use Rattle.graph_acts.specs.declared.claimed.LentClaim.TheVariants as claimed
use Rattle.graph_acts.specs.Holding.{given_out}
use Rattle.graph_acts.specs.Replying.{IsReplyTo}
use Rattle.graph_acts.specs.Working.{OutWork, work_given}
use Rattle.board.specs.declared.asked.Asked.{Asked}
use Rattle.board.specs.declared.asked.Told.{Told}
use Rattle.board.specs.Asking.{bare, bare_log}
use Rattle.pass_book.specs.Books.{IsItsWork}
use Rattle.pass_book.specs.Moves.{IsMove}
use Rattle.play_worker.specs.declared.failure.Failure.{Failure}
use Rattle.play_worker.specs.Counts.{Counts, Raised, TellsZeros, claims, is_claim}
use Rattle.play_worker.specs.Failing.{HasFailed, failure_in}
use Rattle.play_worker.specs.Requests.{is_request_plain}
use Rattle.play_worker.proofs.Order.{no_some}

abbrev bit : Bool → ℕ
bit b = if b then 1 else 0

bit_le : (b : Bool) → bit b ≤ 1
bit_le true = omega arith
bit_le false = omega arith

pub counts_zeros : (S K C : Type 0) (o : Option (ℕ → ℕ)) → TellsZeros o → Counts {S = S} {K = K} {C = C} o []
counts_zeros S K C None z = tt
counts_zeros S K C (Some f) z = z

module _ {S K C : Type 0} where
  -- ---- counts

  claims_append : (x : ℕ) (xs ys : List (Entry (Act S K C) (Reply S K C))) → claims x (xs ++ ys) ≡ claims x xs + claims x ys
  claims_append x [] ys = sym (zero-add (claims x ys))
  claims_append x (e ∷ es) ys = ap (λ (n : ℕ). bit (is_claim x e.act e.reply) + n) (claims_append x es ys) ∙ sym (add_assoc (bit (is_claim x e.act e.reply)) (claims x es) (claims x ys))

  claims_le : (x : ℕ) (xs : List (Entry (Act S K C) (Reply S K C))) → claims x xs ≤ length xs
  claims_le x [] = omega arith
  claims_le x (e ∷ es) = let a = bit_le (is_claim x e.act e.reply) in let b = claims_le x es in omega arith

  counts_still : (o : Option (ℕ → ℕ)) (xs ys : List (Entry (Act S K C) (Reply S K C))) → ((x : ℕ) → claims x ys ≡ 0) → Counts o xs → Counts o (xs ++ ys)
  counts_still None xs ys n h = tt
  counts_still (Some f) xs ys n h = λ x. let a = claims_append x xs ys in let b = n x in let c = h x in omega (arith, a, b, c)

  -- the gate's counts, once it was told of a claim
  pub counts_claim : (old new : Option (ℕ → ℕ)) (xs : List (Entry (Act S K C) (Reply S K C))) (p : ℕ) (h : Handle) (reply : Reply S K C) → length xs < 2 ^ 64 - 1 → is_some (work_given reply) ≡ true
      → Counts old xs → Raised old h.generation new → Counts new (xs ++ entry p (asks.Claim h) reply ∷ [])
  counts_claim None new xs p h reply few gave had raised = subst (λ (o : Option (ℕ → ℕ)). Counts o (xs ++ entry p (asks.Claim h) reply ∷ [])) (sym raised) tt
  counts_claim (Some f) new xs p h reply few gave had raised = subst (λ (o : Option (ℕ → ℕ)). Counts o (xs ++ entry p (asks.Claim h) reply ∷ [])) (sym raised.1) (λ x.
      let c = h.generation in
      let more : claims x (xs ++ entry p (asks.Claim h) reply ∷ []) ≡ claims x xs + (bit (is_claim x (asks.Claim h) reply) + 0) = claims_append x xs (entry p (asks.Claim h) reply ∷ []) in
      let had' = had x in
      dite (ℕ_discrete x c)
      (λ e. let lt : f c < 2 ^ 64 - 1 = let m = claims_le c xs in let at = had c in omega (arith, m, at, few) in
      let one : bit (is_claim x (asks.Claim h) reply) ≡ 1 = rw (gave, eq-eqb x c e) refl in ap raised.0 e ∙ (raised.3 lt ∙ (ap (λ (y : ℕ). f y + 1) (sym e) ∙ omega (arith, had', more, one))))
      (λ ne. let none : bit (is_claim x (asks.Claim h) reply) ≡ 0 = rw (gave, ne_eqb x c ne) refl in raised.2 x ne ∙ omega (arith, had', more, none)))

  -- a claim that gave nothing, and a work that came back, are no claims
  pub counts_idle : (o : Option (ℕ → ℕ)) (xs : List (Entry (Act S K C) (Reply S K C))) (p : ℕ) (h : Handle) (reply : Reply S K C) → work_given reply ≡ None → Counts o xs → Counts o (xs ++ entry p (asks.Claim h) reply ∷ [])
  counts_idle o xs p h reply none had = counts_still o xs (entry p (asks.Claim h) reply ∷ []) (λ x. rw none refl) had

  pub counts_back : (o : Option (ℕ → ℕ)) (xs : List (Entry (Act S K C) (Reply S K C))) (e : Entry (Act S K C) (Reply S K C)) → ((x : ℕ) → is_claim x e.act e.reply ≡ false) → Counts o xs → Counts o (xs ++ e ∷ [])
  counts_back o xs e none had = counts_still o xs (e ∷ []) (λ x. rw (none x) refl) had

  -- ---- moves

  move_claims : (x : ℕ) (act : Act S K C) (reply : Reply S K C) → IsMove act → is_claim x act reply ≡ false
  move_claims x (asks.Claim h) reply m = absurd m
  move_claims x _ reply m = refl

  move_fails : (act : Act S K C) → IsMove act → failure_in act ≡ None
  move_fails (asks.Finish done) m = absurd m
  move_fails _ m = refl

  move_asks : (act : Act S K C) → IsMove act → is_request_plain act ≡ false
  move_asks (asks.Progress h) m = refl
  move_asks (asks.RunCommand h) m = refl
  move_asks (asks.TakeNote h) m = refl
  move_asks (asks.EndNote h client) m = refl
  move_asks (asks.Supply h port) m = refl
  move_asks (asks.Release h port) m = refl
  move_asks (asks.HandOver h port) m = refl
  move_asks (asks.HandBack h port) m = refl
  move_asks _ m = absurd m

  abbrev pub AreMoves : List (Entry (Act S K C) (Reply S K C)) → Type 0
  AreMoves more = All (λ (e : Entry (Act S K C) (Reply S K C)). IsMove e.act) more

  moves_claims : (x : ℕ) (more : List (Entry (Act S K C) (Reply S K C))) → AreMoves more → claims x more ≡ 0
  moves_claims x [] m = refl
  moves_claims x (e ∷ es) m =
      let a : is_claim x e.act e.reply ≡ false = move_claims x e.act e.reply (All-head (λ (e : Entry (Act S K C) (Reply S K C)). IsMove e.act) e es m) in
      let b : claims x es ≡ 0 = moves_claims x es (All-tail (λ (e : Entry (Act S K C) (Reply S K C)). IsMove e.act) e es m) in
      let c : bit (is_claim x e.act e.reply) ≡ 0 = ap bit a in omega (arith, b, c)

  pub moves_fail : (more : List (Entry (Act S K C) (Reply S K C))) → AreMoves more → (f : Failure) → HasFailed more f → ⊥
  moves_fail [] m f h = h
  moves_fail (e ∷ es) m f h = elim h [
    | inl a ↦
        let none : failure_in e.act ≡ None = move_fails e.act (All-head (λ (e : Entry (Act S K C) (Reply S K C)). IsMove e.act) e es m) in
        no_some (failure_in e.act) f none a
    | inr b ↦ moves_fail es (All-tail (λ (e : Entry (Act S K C) (Reply S K C)). IsMove e.act) e es m) f b
  ]

  pub counts_moves : (o : Option (ℕ → ℕ)) (xs more : List (Entry (Act S K C) (Reply S K C))) → AreMoves more → Counts o xs → Counts o (xs ++ more)
  counts_moves o xs more m had = counts_still o xs more (λ x. moves_claims x more m) had

  -- ---- requests

  abbrev pub IsUnasked : Entry (Act S K C) (Reply S K C) → Type 0
  IsUnasked e = is_request_plain e.act ≡ false

  abbrev pub IsUnaskedSeen : Entry (Asked S K C) (Told S K C) → Type 0
  IsUnaskedSeen e = is_request_plain e.act.act ≡ false

  moves_ask : (more : List (Entry (Act S K C) (Reply S K C))) → AreMoves more → All IsUnasked more
  moves_ask [] m = All-nil IsUnasked
  moves_ask (e ∷ es) m = All-cons IsUnasked e es (move_asks e.act (All-head (λ (e : Entry (Act S K C) (Reply S K C)). IsMove e.act) e es m)) (moves_ask es (All-tail (λ (e : Entry (Act S K C) (Reply S K C)). IsMove e.act) e es m))

  unbare : (log : List (Entry (Asked S K C) (Told S K C))) → All IsUnasked (bare_log log) → All IsUnaskedSeen log
  unbare [] a = All-nil IsUnaskedSeen
  unbare (e ∷ es) a = All-cons IsUnaskedSeen e es (All-head IsUnasked (bare e) (bare_log es) a) (unbare es (All-tail IsUnasked (bare e) (bare_log es) a))

  unasked_more : (old new : List (Entry (Asked S K C) (Told S K C))) (more : List (Entry (Act S K C) (Reply S K C))) → bare_log new ≡ bare_log old ++ more → All IsUnasked more
      → All IsUnaskedSeen old → All IsUnaskedSeen new
  unasked_more old new more at m a = unbare new (subst (All IsUnasked) (sym at) (All-append IsUnasked (bare_log old) more (All-map IsUnasked bare old a) m))

  pub unasked_moves : (old new : List (Entry (Asked S K C) (Told S K C))) (more : List (Entry (Act S K C) (Reply S K C))) → bare_log new ≡ bare_log old ++ more → AreMoves more
      → All IsUnaskedSeen old → All IsUnaskedSeen new
  unasked_moves old new more at m a = unasked_more old new more at (moves_ask more m) a

  pub unasked_one : (old new : List (Entry (Asked S K C) (Told S K C))) (e : Entry (Act S K C) (Reply S K C)) → bare_log new ≡ bare_log old ++ e ∷ [] → is_request_plain e.act ≡ false
      → All IsUnaskedSeen old → All IsUnaskedSeen new
  unasked_one old new e at n a = unasked_more old new (e ∷ []) at (All-cons IsUnasked e [] n (All-nil IsUnasked)) a

  pub unasked_none : (log : List (Entry (Asked S K C) (Told S K C))) → bare_log log ≡ [] → All IsUnaskedSeen log
  unasked_none log at = unbare log (subst (All IsUnasked) (sym at) (All-nil IsUnasked))

  -- ---- the reply to a claim

  pub claim_headers : (h : Handle) (reply : Reply S K C) → IsReplyTo (asks.Claim h) reply → given_out reply ≡ None
  claim_headers h (replies.Claim result) r = refl
  claim_headers h _ r = absurd r

  its_number : (h : Handle) (reply : Reply S K C) → IsReplyTo (asks.Claim h) reply → IsItsWork (asks.Claim h) reply → IfSome (work_given reply) (λ (got : OutWork S K). (got.handle).generation ≡ h.generation)
  its_number h (replies.Claim (Ok (claimed.Work work))) r is = is
  its_number h (replies.Claim _) r is = tt
  its_number h _ r is = absurd r

  pub claimed_number : (h : Handle) (reply : Reply S K C) (got : OutWork S K) → IsReplyTo (asks.Claim h) reply → IsItsWork (asks.Claim h) reply → work_given reply ≡ Some got → (got.handle).generation ≡ h.generation
  claimed_number h reply got r is e = subst (λ (o : Option (OutWork S K)). IfSome o (λ (got : OutWork S K). (got.handle).generation ≡ h.generation)) e (its_number h reply r is)
