-- Lists of things that are held.
use Rattle.std.proofs.Common.{◌≡◌, ◌≢◌, ◌⊎◌, inl, inr, ℕ, ◌∙◌, sym, ap, subst, refl, cond, not, Bool, true, false, Some, None, Option, List, [], ◌∷◌, ◌++◌}
use Rattle.std.specs.Prelude.{filter}
use mathlib.Core.Logic.{⊎_elim}
use Rattle.turnstile.specs.declared.entry.Entry.{Entry}
use Rattle.turnstile.specs.Entries.{entry, own}
use Rattle.turnstile.proofs.Basics.{by_bool, own_mine, own_other}
use Rattle.held_things.specs.Held.{Has, more, Tells, less, IsOther, after, held_from, held_by}

pub more_first : {X : Type 0} (o : Option X) (xs : List X) (x : X) → o ≡ Some x → Has (more o xs) x
more_first o xs x e = subst (λ z. Has (more z xs) x) (sym e) (inl refl)

pub more_rest : {X : Type 0} (o : Option X) (xs : List X) (x : X) → Has xs x → Has (more o xs) x
more_rest None xs x h = h
more_rest (Some y) xs x h = inr h

pub in_more : {X : Type 0} (o : Option X) (xs : List X) (x : X) → Has (more o xs) x → (o ≡ Some x) ⊎ Has xs x
in_more None xs x h = inr h
in_more (Some y) xs x h = ⊎_elim (λ e. inl (ap (λ z. Some z) e)) (λ t. inr t) h

in_filter : {X : Type 0} (p : X → Bool) (xs : List X) (x : X) → Has (filter p xs) x → Has xs x × (p x ≡ true)
in_filter p [] x h = absurd h
in_filter p (y ∷ ys) x h = by_bool (p y)
    (λ t. ⊎_elim (λ e. (inl e, ap p (sym e) ∙ t)) (λ r. let i = in_filter p ys x r in (inr i.0, i.1)) (subst (λ b. Has (cond b (y ∷ filter p ys) (filter p ys)) x) t h))
    (λ f. let i = in_filter p ys x (subst (λ b. Has (cond b (y ∷ filter p ys) (filter p ys)) x) f h) in (inr i.0, i.1))

filter_in : {X : Type 0} (p : X → Bool) (xs : List X) (x : X) → Has xs x → p x ≡ true → Has (filter p xs) x
filter_in p [] x h t = absurd h
filter_in p (y ∷ ys) x (inl e) t = subst (λ b. Has (cond b (y ∷ filter p ys) (filter p ys)) x) (sym (ap p e ∙ t)) (inl e)
filter_in p (y ∷ ys) x (inr h) t = by_bool (p y)
    (λ u. subst (λ b. Has (cond b (y ∷ filter p ys) (filter p ys)) x) (sym u) (inr (filter_in p ys x h t)))
    (λ u. subst (λ b. Has (cond b (y ∷ filter p ys) (filter p ys)) x) (sym u) (filter_in p ys x h t))

module _ {X K : Type 0} (key : X → K) (same : K → K → Bool) (T : Tells same) where
  pub in_less : (o : Option K) (xs : List X) (x : X) → Has (less key same o xs) x → Has xs x × IsOther o (key x)
  in_less None xs x h = (h, tt)
  in_less (Some gone) xs x h =
      let i = in_filter (λ y. not (same (key y) gone)) xs x h in
      (i.0, λ e. let s : same (key x) gone ≡ true = ap (λ k. same k gone) e ∙ T.itself gone in let f : false ≡ true = sym (ap not s) ∙ i.1 in absurd cc)

  pub less_in : (o : Option K) (xs : List X) (x : X) → Has xs x → IsOther o (key x) → Has (less key same o xs) x
  less_in None xs x h n = h
  less_in (Some gone) xs x h n = filter_in (λ y. not (same (key y) gone)) xs x h (by_bool (same (key x) gone) (λ t. absurd (n (T.is (key x) gone t))) (λ f. ap not f))

module _ {X K A R : Type 0} (key : X → K) (same : K → K → Bool) (gone : A → R → Option K) (come : A → R → Option X) where
  pub held_snoc : (xs : List X) (es : List (Entry A R)) (e : Entry A R) → held_from key same gone come xs (es ++ e ∷ []) ≡ after key same gone come (held_from key same gone come xs es) e.act e.reply
  held_snoc xs [] e = refl
  held_snoc xs (x ∷ es) e = held_snoc (after key same gone come xs x.act x.reply) es e

  pub held_mine : (p : ℕ) (a : A) (r : R) (log : List (Entry A R)) → held_by key same gone come (log ++ entry p a r ∷ []) p ≡ after key same gone come (held_by key same gone come log p) a r
  held_mine p a r log = ap (held_from key same gone come []) (own_mine p a r log) ∙ held_snoc [] (own p log) (entry p a r)

  pub held_other : (p q : ℕ) (a : A) (r : R) (log : List (Entry A R)) → p ≢ q → held_by key same gone come (log ++ entry p a r ∷ []) q ≡ held_by key same gone come log q
  held_other p q a r log ne = ap (held_from key same gone come []) (own_other p q a r log ne)
