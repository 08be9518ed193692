-- Lists of an assembly: the component that a handle names, what a list has in place of another element, and the stream of a component.
use Rattle.std.proofs.Common.{◌≡◌, ◌⊎◌, inl, inr, ℕ, zero, suc, ◌+◌, ◌<◌, ◌≤◌, Bool, true, false, nat_eq, List, [], ◌∷◌, ◌++◌, length, map, set, find, replicate, slice_get, Option, Some, None, option_map, All, MatchOption, Result, refl, sym, ◌∙◌, ap, subst, eqb-true, eq-eqb, ne_eqb, arith}
use Rattle.omx_types.specs.declared.handle.Handle.{Handle}
use Rattle.omx_types.specs.declared.error.OmxError.{OmxError}
use Rattle.il_machine.specs.Answers.{Resolving}
use Rattle.il_machine.specs.Places.{first_place}
use Rattle.il_machine.specs.World.{Component, Stream, World, is_at, is_stream_of, number_of, place_of}
use Rattle.il_machine.proofs.Places.{is_first_place}
use Rattle.machine_laws.proofs.Accepting.{both_of}
use Rattle.machine_laws.proofs.Every.{at_set, at_place, from_places}
use Rattle.machine_laws.proofs.Finding.{either}
use Rattle.machine_laws.proofs.Keys.{at_there}
use Rattle.play_build_laws.specs.Assembly.{Assembly}
use Rattle.play_build_laws.specs.Stages.{AreBuilt, Progress}

module _ {X : Type 0} where
  -- the one that passes is the first that does
  pub first_at : (test : X → Bool) (xs : List X) (i : ℕ) (x : X) → slice_get xs i ≡ Some x → test x ≡ true → ((j : ℕ) (y : X) → slice_get xs j ≡ Some y → test y ≡ true → j ≡ i) → first_place test xs ≡ Some i
  first_at test [] i x e t u = absurd cc
  first_at test (y ∷ xs) zero x e t u = let s : y ≡ x = cc in let k : test y ≡ true = ap test s ∙ t in rw k refl
  first_at test (y ∷ xs) (suc i) x e t u = either (test y)
      (λ k. let z : 0 ≡ suc i = u 0 y refl k in absurd (omega arith))
      (λ k. rw (k, first_at test xs i x e t (λ j z f h. let q : suc j ≡ suc i = u (suc j) z f h in omega arith)) refl)

  pub none_first : (test : X → Bool) (xs : List X) → ((i : ℕ) (x : X) → slice_get xs i ≡ Some x → test x ≡ false) → first_place test xs ≡ None
  none_first test [] h = refl
  none_first test (x ∷ xs) h = rw (h 0 x refl, none_first test xs (λ i y e. h (suc i) y e)) refl

  pub all_set : (P : X → Type 0) (xs : List X) (i : ℕ) (y : X) → All P xs → P y → All P (set xs i y)
  all_set P xs i y A p = from_places P (set xs i y) (λ j z e. elim (at_set xs i j y z e) [ inl h ↦ subst P (sym h.1) p | inr h ↦ at_place P xs j z A h.1 ])

module _ {X Y : Type 0} (f : X → Y) where
  pub mapped_at : (xs : List X) (i : ℕ) → slice_get (map f xs) i ≡ option_map f (slice_get xs i)
  mapped_at [] i = refl
  mapped_at (x ∷ xs) zero = refl
  mapped_at (x ∷ xs) (suc i) = mapped_at xs i

  pub from_mapped : (xs : List X) (i : ℕ) (y : Y) → slice_get (map f xs) i ≡ Some y → (x : X) × (slice_get xs i ≡ Some x) × (f x ≡ y)
  from_mapped [] i y e = absurd cc
  from_mapped (x ∷ xs) zero y e = (x, refl, cc)
  from_mapped (x ∷ xs) (suc i) y e = from_mapped xs i y e

  pub mapped_set : (xs : List X) (i : ℕ) (a b : X) → slice_get xs i ≡ Some a → f b ≡ f a → map f (set xs i b) ≡ map f xs
  mapped_set [] i a b e s = refl
  mapped_set (x ∷ xs) zero a b e s = let q : x ≡ a = cc in ap (λ (y : Y). y ∷ map f xs) (s ∙ ap f (sym q))
  mapped_set (x ∷ xs) (suc i) a b e s = ap (λ (ys : List Y). f x ∷ ys) (mapped_set xs i a b e s)

  pub mapped_push : (xs : List X) (y : X) → map f (xs ++ y ∷ []) ≡ map f xs ++ f y ∷ []
  mapped_push [] y = refl
  mapped_push (x ∷ xs) y = ap (λ (ys : List Y). f x ∷ ys) (mapped_push xs y)

-- ---- handles

module _ (s : Assembly) (p : Progress) (cs : List Component) (A : AreBuilt s p cs) where
  -- a component's handle names it
  pub named : (c : ℕ) (a : Component) → slice_get cs c ≡ Some a → place_of a.handle cs ≡ Some c
  named c a e = is_first_place (is_at a.handle) cs ∙ first_at (is_at a.handle) cs c a e
      (let x : nat_eq a.handle.slot a.handle.slot ≡ true = eq-eqb _ _ refl in let y : nat_eq a.handle.generation a.handle.generation ≡ true = eq-eqb _ _ refl in rw (x, y) refl)
      (λ j b f t.
      let q = both_of (nat_eq b.handle.slot a.handle.slot) (nat_eq b.handle.generation a.handle.generation) t in
      let g : number_of b ≡ number_of a = eqb-true _ _ q.1 in
      sym (A.each j b f).number ∙ (g ∙ (A.each c a e).number))

-- ---- what a handle names

some_case : {A : Type 0} (o : Option A) (N : Type 0) (P : A → Type 0) (i : A) → o ≡ Some i → MatchOption o N P → P i
some_case o N P i e h = rw e at h

pub resolved : {T E : Type 0} (refuse : OmxError → E) (w : World) (h : Handle) (result : Result T E) (v : World) (Then : ℕ → Component → Type 0) (i : ℕ) (a : Component)
    → place_of h w.components ≡ Some i → slice_get w.components i ≡ Some a → Resolving refuse w h result v Then → Then i a
resolved refuse w h result v Then i a e f r =
    at_there (slice_get w.components i) (Then i) a f (some_case (place_of h w.components) _ (λ j. MatchOption (slice_get w.components j) ⊥ (Then j)) i e r)

-- ---- streams

-- the stream at a place, where each stands at the place that it names
pub stream_found : (ss : List Stream) (from c : ℕ) → ((k : ℕ) (st : Stream) → slice_get ss k ≡ Some st → st.component ≡ from + k) → find (is_stream_of (from + c)) ss ≡ slice_get ss c
stream_found [] from c h = refl
stream_found (st ∷ ss) from zero h =
    let e : st.component ≡ from + 0 = h 0 st refl in
    let t : is_stream_of (from + 0) st ≡ true = eq-eqb _ _ e in
    rw t refl
stream_found (st ∷ ss) from (suc c) h =
    let e : st.component ≡ from + 0 = h 0 st refl in
    let t : is_stream_of (from + suc c) st ≡ false = ne_eqb _ _ (λ z. omega arith) in
    let r = stream_found ss (suc from) c (λ k y f. let q = h (suc k) y f in omega arith) in
    let m : suc from + c ≡ from + suc c = omega arith in
    rw t (ap (λ (n : ℕ). find (is_stream_of n) ss) (sym m) ∙ r)

-- ---- what is there

pub get_there : {X : Type 0} (xs : List X) (k : ℕ) → k < length xs → (x : X) × (slice_get xs k ≡ Some x)
get_there [] k l = absurd (omega arith)
get_there (x ∷ xs) zero l = (x, refl)
get_there (x ∷ xs) (suc k) l = get_there xs k (omega arith)

pub pushed_at : {X : Type 0} (xs : List X) (j : ℕ) (y z : X) → slice_get (xs ++ y ∷ []) j ≡ Some z → (slice_get xs j ≡ Some z) ⊎ ((j ≡ length xs) × (z ≡ y))
pushed_at [] zero y z e = inr (refl, cc)
pushed_at [] (suc j) y z e = absurd cc
pushed_at (x ∷ xs) zero y z e = inl e
pushed_at (x ∷ xs) (suc j) y z e = elim (pushed_at xs j y z e) [ inl h ↦ inl h | inr h ↦ inr (ap suc h.0, h.1) ]

pub replica_there : {X : Type 0} (n k : ℕ) (x : X) → k < n → slice_get (replicate n x) k ≡ Some x
replica_there zero k x l = absurd (omega arith)
replica_there (suc n) zero x l = refl
replica_there (suc n) (suc k) x l = replica_there n k x (omega arith)

pub first_replica : {X : Type 0} (n k : ℕ) (x : X) (ys : List X) → k < n → slice_get (replicate n x ++ ys) k ≡ Some x
first_replica zero k x ys l = absurd (omega arith)
first_replica (suc n) zero x ys l = refl
first_replica (suc n) (suc k) x ys l = first_replica n k x ys (omega arith)

pub second_replica : {X : Type 0} (n m k : ℕ) (x y : X) → n ≤ k → k < n + m → slice_get (replicate n x ++ replicate m y) k ≡ Some y
second_replica zero m k x y l h = replica_there m k y (omega arith)
second_replica (suc n) m zero x y l h = absurd (omega arith)
second_replica (suc n) m (suc k) x y l h = second_replica n m k x y (omega arith) (omega arith)
