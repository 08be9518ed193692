-- What is held stays held in order, whatever act comes next: the one fact that `may` and `clear` rest on.
use Rattle.std.proofs.Common.{◌≡◌, ◌≢◌, ◌⊎◌, inl, inr, ℕ, ◌∙◌, sym, subst, refl, Bool, Some, None, Option, IfSome, List, [], ◌∷◌, ◌++◌}
use mathlib.Core.Logic.{dite, ⊎_elim}
use native.Mathlib.Decide.{ℕ_discrete}
use Rattle.turnstile.specs.declared.entry.Entry.{Entry}
use Rattle.turnstile.specs.Entries.{entry}
use Rattle.held_things.specs.Held.{Has, Tells, less, IsOther, HasKey, AreHeld, Given, Moves, IsOwn, after, held_by}
use Rattle.held_things.proofs.Lists.{more_first, more_rest, in_more, in_less, less_in, held_mine, held_other}

pub at_some : {X : Type 0} (P : X → Type 0) (o : Option X) (x : X) → o ≡ Some x → IfSome o P → P x
at_some P o x e h = subst (λ z. IfSome z P) e h

has_key : {X K : Type 0} (key : X → K) (o : Option X) (k : K) → HasKey key o k → (x : X) × (o ≡ Some x) × (key x ≡ k)
has_key key None k h = absurd h
has_key key (Some x) k h = (x, refl, h)

other_key : {K : Type 0} (o : Option K) (k : K) → ((g : K) → o ≡ Some g → k ≢ g) → IsOther o k
other_key None k h = tt
other_key (Some g) k h = h g refl

module _ {X K A R : Type 0} (key : X → K) (same : K → K → Bool) (T : Tells same) (gone : A → R → Option K) (come : A → R → Option X) where
  -- what a pass holds after the act: what was given to it now, or what it held and wasn't taken in
  abbrev held_of : ℕ → List (Entry A R) → List X
  held_of p log = held_by key same gone come log p

  pub split_held : (log : List (Entry A R)) (pass : ℕ) (a : A) (r : R) (p : ℕ) (x : X)
      → ((q : ℕ) (y : X) → q ≢ pass → Has (held_of q log) y → IsOther (gone a r) (key y))
      → Has (held_of p (log ++ entry pass a r ∷ [])) x
      → ((p ≡ pass) × (come a r ≡ Some x)) ⊎ (Has (held_of p log) x × IsOther (gone a r) (key x))
  split_held log pass a r p x others h = dite (ℕ_discrete pass p)
      (λ is.
      let mine : Has (after key same gone come (held_of p log) a r) x = subst (λ l. Has l x) (subst (λ z. held_of p (log ++ entry z a r ∷ []) ≡ after key same gone come (held_of p log) a r) (sym is) (held_mine key same gone come p a r log)) h in
      ⊎_elim (λ e. inl (sym is, e)) (λ t. inr (in_less key same T (gone a r) (held_of p log) x t)) (in_more (come a r) (less key same (gone a r) (held_of p log)) x mine))
      (λ ne.
      let old : Has (held_of p log) x = subst (λ l. Has l x) (held_other key same gone come pass p a r log ne) h in
      inr (old, others p x (λ e. ne (sym e)) old))

  still_held : (log : List (Entry A R)) (pass : ℕ) (a : A) (r : R) (p : ℕ) (x : X) → Has (held_of p log) x → IsOther (gone a r) (key x) → Has (held_of p (log ++ entry pass a r ∷ [])) x
  still_held log pass a r p x h n = dite (ℕ_discrete pass p)
      (λ is. subst (λ l. Has l x) (sym (subst (λ z. held_of p (log ++ entry z a r ∷ []) ≡ after key same gone come (held_of p log) a r) (sym is) (held_mine key same gone come p a r log)))
      (more_rest (come a r) (less key same (gone a r) (held_of p log)) x (less_in key same T (gone a r) (held_of p log) x h n)))
      (λ ne. subst (λ l. Has l x) (sym (held_other key same gone come pass p a r log ne)) h)

  newly_held : (log : List (Entry A R)) (pass : ℕ) (a : A) (r : R) (x : X) → come a r ≡ Some x → Has (held_of pass (log ++ entry pass a r ∷ [])) x
  newly_held log pass a r x e = subst (λ l. Has l x) (sym (held_mine key same gone come pass a r log)) (more_first (come a r) (less key same (gone a r) (held_of pass log)) x e)

  module _ (log : List (Entry A R)) (pass : ℕ) (a : A) (r : R) (Out Now : X → Type 0) (Is Then Was : K → Type 0) where
    -- another pass holds nothing of what is taken in
    pub others_keep : AreHeld key (held_by key same gone come log) Out Is Was → IsOwn key (held_of pass log) (gone a r) → (q : ℕ) (y : X) → q ≢ pass → Has (held_of q log) y → IsOther (gone a r) (key y)
    others_keep H O q y ne h = other_key (gone a r) (key y) (λ g e k. let o = O g e in ne (H.apart q pass y o.0 h o.1 (k ∙ sym o.2)))

    pub stay_held : AreHeld key (held_by key same gone come log) Out Is Was → IsOwn key (held_of pass log) (gone a r) → Moves key (gone a r) (come a r) Out Now Is Then
        → AreHeld key (held_by key same gone come (log ++ entry pass a r ∷ [])) Now Then Was
    stay_held H O M =
        let cut = λ (p : ℕ) (x : X) (h : Has (held_of p (log ++ entry pass a r ∷ [])) x). split_held log pass a r p x (others_keep H O) h in
        record {
          out = λ p x h. ⊎_elim (λ n. (at_some (Given key Out Now) (come a r) x n.1 M.given).now) (λ s. M.stay x s.1 (H.out p x s.0)) (cut p x h);
          apart = λ p q x y h g e. ⊎_elim
              (λ n. ⊎_elim (λ m. n.0 ∙ sym m.0) (λ t. absurd ((at_some (Given key Out Now) (come a r) x n.1 M.given).other y (H.out q y t.0) (sym e))) (cut q y g))
              (λ s. ⊎_elim (λ m. absurd ((at_some (Given key Out Now) (come a r) y m.1 M.given).other x (H.out p x s.0) e)) (λ t. H.apart p q x y s.0 t.0 e) (cut q y g))
              (cut p x h);
          all = λ k is. ⊎_elim
              (λ b. ⊎_elim (λ w. inl w) (λ s. inr (s.0, s.1, still_held log pass a r s.0 s.1 s.2 (subst (IsOther (gone a r)) (sym s.3) b.1), s.3)) (H.all k b.0))
              (λ n. let f = has_key key (come a r) k n in inr (pass, f.0, newly_held log pass a r f.0 f.1, f.2))
              (M.back k is);
        }
