-- Which failed step is told of several lists of calls, and of the same calls in another order.
use Rattle.std.proofs.Common.{◌≡◌, inl, inr, Bool, true, false, List, [], ◌∷◌, ◌++◌, All, Option, Some, None, sym, refl, subst}
use Rattle.std.proofs.lemmas.List.Elements.{All-cons, All-head, All-nil, All-tail, All-weaker}
use Rattle.turnstile.specs.declared.entry.Entry.{Entry}
use Rattle.graph_acts.specs.declared.act.Act.{Act}
use Rattle.graph_acts.specs.declared.act.Reply.{Reply}
use Rattle.board.specs.declared.asked.Asked.{Asked}
use Rattle.board.specs.declared.asked.Told.{Told}
use Rattle.board.specs.Asking.{bare_log}
use Rattle.play_worker.specs.declared.failure.Failure.{Failure}
use Rattle.play_worker.specs.Failing.{HasFailed, TellsWorst, failure_in, first_of, is_first, worse}
use Rattle.play_worker.proofs.Order.{failed_before, failed_behind, failed_either, first_on, first_other, tells_still}

module _ {S K C : Type 0} where
  both_first : (xs ys : List (Entry (Act S K C) (Reply S K C))) (one other : Failure) (b : Bool) → is_first one other ≡ b → TellsWorst xs (Some one) → TellsWorst ys (Some other) → TellsWorst (xs ++ ys) (Some (first_of one other))
  both_first xs ys one other true first t u =
      let is : first_of one other ≡ one = rw first refl in
      subst (λ (x : Failure). TellsWorst (xs ++ ys) (Some x)) (sym is) (
        failed_before xs ys one t.0,
        λ f h. elim (failed_either xs ys f h) [ inl a ↦ t.1 f a | inr c ↦ first_on one other f first (u.1 f c) ],
      )
  both_first xs ys one other false later t u =
      let is : first_of one other ≡ other = rw later refl in
      subst (λ (x : Failure). TellsWorst (xs ++ ys) (Some x)) (sym is) (
        failed_behind xs ys other u.0,
        λ f h. elim (failed_either xs ys f h) [ inl a ↦ first_on other one f (first_other one other later) (t.1 f a) | inr c ↦ u.1 f c ],
      )

  pub tells_both : (xs ys : List (Entry (Act S K C) (Reply S K C))) (one other : Option Failure) → TellsWorst xs one → TellsWorst ys other → TellsWorst (xs ++ ys) (worse one other)
  tells_both xs ys None None t u = tells_still xs ys None u t
  tells_both xs ys None (Some other) t u = (
    failed_behind xs ys other u.0,
    λ f h. elim (failed_either xs ys f h) [ inl a ↦ absurd (t f a) | inr c ↦ u.1 f c ],
  )
  tells_both xs ys (Some one) None t u = tells_still xs ys (Some one) u t
  tells_both xs ys (Some one) (Some other) t u = both_first xs ys one other (is_first one other) refl t u

module _ {S K C : Type 0} where
  each_fails : (f : Failure) (ys : List (Entry (Asked S K C) (Told S K C))) → All (λ e. failure_in e.act.act ≡ Some f → HasFailed (bare_log ys) f) ys
  each_fails f [] = All-nil (λ e. failure_in e.act.act ≡ Some f → HasFailed {S = S} {K = K} {C = C} [] f)
  each_fails f (y ∷ ys) = All-cons (λ e. failure_in e.act.act ≡ Some f → HasFailed (bare_log (y ∷ ys)) f) y ys (λ i. inl i)
      (All-weaker (λ e. failure_in e.act.act ≡ Some f → HasFailed (bare_log ys) f) (λ e. failure_in e.act.act ≡ Some f → HasFailed (bare_log (y ∷ ys)) f) (λ x k i. inr (k i)) ys (each_fails f ys))

  one_fails : (f : Failure) (T : Type 0) (xs : List (Entry (Asked S K C) (Told S K C))) → All (λ e. failure_in e.act.act ≡ Some f → T) xs → HasFailed (bare_log xs) f → T
  one_fails f T [] all h = absurd h
  one_fails f T (x ∷ xs) all h = elim h [
    | inl i ↦ All-head (λ e. failure_in e.act.act ≡ Some f → T) x xs all i
    | inr m ↦ one_fails f T xs (All-tail (λ e. failure_in e.act.act ≡ Some f → T) x xs all) m
  ]

  -- a list that has no call but those of the other
  moved : (xs ys : List (Entry (Asked S K C) (Told S K C))) (f : Failure) → ((Q : Entry (Asked S K C) (Told S K C) → Type 0) → All Q ys → All Q xs) → HasFailed (bare_log xs) f → HasFailed (bare_log ys) f
  moved xs ys f within h = one_fails f (HasFailed (bare_log ys) f) xs (within (λ e. failure_in e.act.act ≡ Some f → HasFailed (bare_log ys) f) (each_fails f ys)) h

  pub tells_same : (xs ys : List (Entry (Asked S K C) (Told S K C))) (worst : Option Failure) → ((Q : Entry (Asked S K C) (Told S K C) → Type 0) → All Q ys → All Q xs) → ((Q : Entry (Asked S K C) (Told S K C) → Type 0) → All Q xs → All Q ys)
      → TellsWorst (bare_log ys) worst → TellsWorst (bare_log xs) worst
  tells_same xs ys None within back t = λ f h. t f (moved xs ys f within h)
  tells_same xs ys (Some worst) within back t = (moved ys xs worst back t.0, λ f h. t.1 f (moved xs ys f within h))
