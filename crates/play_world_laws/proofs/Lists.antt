-- Sums and places of lists, and the component that a handle names.
use Rattle.std.proofs.Common.{◌≡◌, inl, inr, ℕ, zero, suc, ◌+◌, ◌<◌, ◌≤◌, List, length, [], ◌∷◌, set, slice_get, sum_by, Option, Some, MatchOption, Result, Err, refl, ap, arith}
use Rattle.std.proofs.lemmas.List.Sums.{sum_by-cons}
use Rattle.std.proofs.lemmas.Bool.{cases_eq}
use Rattle.omx_types.specs.declared.handle.Handle.{Handle}
use Rattle.omx_types.specs.declared.error.OmxError.{OmxError}
use Rattle.omx_types.specs.declared.error.OmxError.TheVariants as errors
use Rattle.il_machine.specs.declared.port.Port.{Port}
use Rattle.il_machine.specs.World.{Component, World, place_of, port_of}
use Rattle.il_machine.specs.Flow.{OnPort}
use Rattle.il_machine.specs.Answers.{Resolving}
use Rattle.machine_laws.proofs.Every.{set_there, set_else}
use Rattle.machine_laws.proofs.Keys.{at_there}

-- ---- sums

module _ {X : Type 0} (f : X → ℕ) where
  pub sum_none : (xs : List X) → ((i : ℕ) (x : X) → slice_get xs i ≡ Some x → f x ≡ 0) → sum_by f xs ≡ 0
  sum_none [] h = refl
  sum_none (x ∷ xs) h = let a = sum_by-cons f x xs in let b = h 0 x refl in let i = sum_none xs (λ k y e. h (suc k) y e) in omega arith

  pub sum_same : (xs : List X) (i : ℕ) (a b : X) → slice_get xs i ≡ Some a → f b ≡ f a → sum_by f (set xs i b) ≡ sum_by f xs
  sum_same [] i a b e s = absurd cc
  sum_same (x ∷ xs) zero a b e s =
      let is : x ≡ a = cc in
      let c = sum_by-cons f b xs in
      let d = sum_by-cons f x xs in
      let q : f x ≡ f a = ap f is in
      omega arith
  sum_same (x ∷ xs) (suc i) a b e s =
      let c = sum_by-cons f x (set xs i b) in
      let d = sum_by-cons f x xs in
      let r = sum_same xs i a b e s in
      omega arith

  pub sum_below : (g : X → ℕ) (xs : List X) → ((x : X) → f x ≤ g x) → sum_by f xs ≤ sum_by g xs
  sum_below g [] h = omega arith
  sum_below g (x ∷ xs) h = let a = sum_by-cons f x xs in let b = sum_by-cons g x xs in let c = h x in let i = sum_below g xs h in omega arith

  -- one that gives nothing leaves room for all that it could give
  pub sum_spare : (g : X → ℕ) (xs : List X) (i : ℕ) (a : X) → slice_get xs i ≡ Some a → f a ≡ 0 → ((x : X) → f x ≤ g x) → sum_by f xs + g a ≤ sum_by g xs
  sum_spare g [] i a e z h = absurd cc
  sum_spare g (x ∷ xs) zero a e z h =
      let is : x ≡ a = cc in
      let b = sum_by-cons f x xs in
      let c = sum_by-cons g x xs in
      let d = sum_below g xs h in
      let p : f x ≡ f a = ap f is in
      let q : g x ≡ g a = ap g is in
      omega arith
  sum_spare g (x ∷ xs) (suc i) a e z h =
      let b = sum_by-cons f x xs in
      let c = sum_by-cons g x xs in
      let d = h x in
      let r = sum_spare g xs i a e z h in
      omega arith

-- ---- places

pub get_there : {X : Type 0} (xs : List X) (k : ℕ) → k < length xs → (x : X) × (slice_get xs k ≡ Some x)
get_there [] k l = absurd (omega arith)
get_there (x ∷ xs) zero l = (x, refl)
get_there (x ∷ xs) (suc k) l = get_there xs k (omega arith)

module _ {X Y : Type 0} where
  -- what a list with one other element has at a place
  pub got_set : (f : Option X → Y) (xs : List X) (i k : ℕ) (a b : X) → slice_get xs i ≡ Some a → f (Some b) ≡ f (Some a) → f (slice_get (set xs i b) k) ≡ f (slice_get xs k)
  got_set f xs i k a b e s = elim (cases_eq k i) [
    | inl q ↦ rw (q, set_there xs i a b e, e) s
    | inr n ↦ ap f (set_else xs i k b n)
  ]

-- ---- what a handle names

some_case : {A : Type 0} (o : Option A) (N : Type 0) (P : A → Type 0) (i : A) → o ≡ Some i → MatchOption o N P → P i
some_case o N P i e h = rw e at h

pub resolved : {T E : Type 0} (refuse : OmxError → E) (w : World) (h : Handle) (result : Result T E) (v : World) (Then : ℕ → Component → Type 0) (i : ℕ) (a : Component)
    → place_of h w.components ≡ Some i → slice_get w.components i ≡ Some a → Resolving refuse w h result v Then → Then i a
resolved refuse w h result v Then i a e f r =
    at_there (slice_get w.components i) (Then i) a f (some_case (place_of h w.components) _ (λ j. MatchOption (slice_get w.components j) ⊥ (Then j)) i e r)

pub resolved_port : {T E : Type 0} (refuse : OmxError → E) (w : World) (h : Handle) (port : ℕ) (result : Result T E) (v : World) (Then : ℕ → Component → Port → Type 0) (i : ℕ) (a : Component) (q : Port)
    → place_of h w.components ≡ Some i → slice_get w.components i ≡ Some a → port_of a port ≡ Some q → OnPort refuse w h port result v Then → Then i a q
resolved_port refuse w h port result v Then i a q e f g r =
    some_case (port_of a port) _ (Then i a) q g
    (resolved refuse w h result v (λ j c. MatchOption (port_of c port) ((result ≡ Err (refuse errors.BadPortIndex)) × (v ≡ w)) (Then j c)) i a e f r)
