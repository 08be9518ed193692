-- Where a component of a play may claim: the machine's tests, and the model's.
use Rattle.std.proofs.Common.{◌≡◌, ◌⊎◌, inl, inr, ℕ, zero, suc, ◌≤◌, Bool, true, false, if◌then◌else◌, List, [], ◌∷◌, ◌++◌, map, slice_get, Option, Some, None, refl, sym, ◌∙◌, ap, arith}
use Rattle.il_machine.specs.Lists.{first_of_these}
use Rattle.il_machine.specs.World.{Component}
use Rattle.il_machine.specs.Ports.{is_at_rest}
use Rattle.machine_laws.proofs.Accepting.{passed}
use Rattle.play_world_laws.specs.Standing.{commands_at}

-- ---- lists of tests

pub passes : {E : Type 0} (b : Bool) (e : E) (rest : Option E) → b ≡ false → rest ≡ None → (if b then Some e else rest) ≡ None
passes b e rest f h = rw f h

pub first_append : {E : Type 0} (xs ys : List (Bool × E)) → first_of_these xs ≡ None → first_of_these ys ≡ None → first_of_these (xs ++ ys) ≡ None
first_append [] ys a b = b
first_append (x ∷ xs) ys a b = let f = passed x.0 x.1 (first_of_these xs) a in rw f.0 (first_append xs ys f.1 b)

pub first_map : {A E : Type 0} (f : A → Bool × E) (xs : List A) → ((i : ℕ) (x : A) → slice_get xs i ≡ Some x → (f x).0 ≡ false) → first_of_these (map f xs) ≡ None
first_map f [] h = refl
first_map f (x ∷ xs) h = rw (h 0 x refl) (first_map f xs (λ i y e. h (suc i) y e))

pub map_first : {A E : Type 0} (f : A → Bool × E) (xs : List A) (i : ℕ) (x : A) → first_of_these (map f xs) ≡ None → slice_get xs i ≡ Some x → (f x).0 ≡ false
map_first f [] i x h e = absurd cc
map_first f (y ∷ xs) zero x h e = let s : y ≡ x = cc in let p = passed (f y).0 (f y).1 (first_of_these (map f xs)) h in ap (λ z. (f z).0) (sym s) ∙ p.0
map_first f (y ∷ xs) (suc i) x h e = let p = passed (f y).0 (f y).1 (first_of_these (map f xs)) h in map_first f xs i x p.1 e

pub late_commands : (phase stage : ℕ) → 3 ≤ stage → commands_at phase stage ≡ []
late_commands phase zero l = absurd (omega arith)
late_commands phase (suc zero) l = absurd (omega arith)
late_commands phase (suc (suc zero)) l = absurd (omega arith)
late_commands phase (suc (suc (suc n))) l = refl

pub at_rest_none : (a : Component) → is_at_rest a ≡ true → a.pending ≡ None
at_rest_none a h = elim (none_or a.pending) [ inl n ↦ n | inr k ↦ let z : false ≡ true = rw k.1 at h in absurd cc ]
  where
    none_or : {A : Type 0} (o : Option A) → (o ≡ None) ⊎ ((x : A) × (o ≡ Some x))
    none_or None = inl refl
    none_or (Some x) = inr (x, refl)
