-- Lists by place, and one more element.
use Rattle.std.proofs.Common.{◌≡◌, ◌⊎◌, inl, inr, ℕ, zero, suc, ◌+◌, ◌<◌, ◌==◌, List, [], ◌∷◌, ◌++◌, length, take, map, get_or, add-one, Some, refl, sym, ◌∙◌, ap, subst, arith}
use Rattle.std.specs.Prelude.{slice_get, option_map}
use Rattle.std.proofs.lemmas.Option.{slice_get-get_or, slice_get-map, get_or_from_slice_get}
use Rattle.std.proofs.Math.ListN.{set}
use Rattle.std.proofs.lemmas.Bool.{eqb-true, eq-eqb}
use Rattle.play_forms.proofs.Places.{Some_same, both, either}

pub slice_get_more : {A : Type 0} (xs : List A) (x : A) (k : ℕ) (y : A) → slice_get (xs ++ (x ∷ [])) k ≡ Some y
    → ((k < length xs) × (slice_get xs k ≡ Some y)) ⊎ ((k ≡ length xs) × (y ≡ x))
slice_get_more [] x zero y e = inr (refl, sym (Some_same x y e))
slice_get_more [] x (suc k) y e = absurd cc
slice_get_more (z ∷ xs) x zero y e = inl (omega arith, e)
slice_get_more (z ∷ xs) x (suc k) y e =
    elim (slice_get_more xs x k y e) [ inl h ↦ inl (let b : k < length xs = h.0 in omega arith, h.1) | inr h ↦ inr (ap suc h.0, h.1) ]

-- of the front, what is in the whole
pub slice_get_take : {A : Type 0} (xs : List A) (n k : ℕ) (y : A) → slice_get (take n xs) k ≡ Some y → (k < n) × (slice_get xs k ≡ Some y)
slice_get_take xs zero k y e = absurd cc
slice_get_take [] (suc n) k y e = absurd cc
slice_get_take (x ∷ xs) (suc n) zero y e = (omega arith, e)
slice_get_take (x ∷ xs) (suc n) (suc k) y e = let h = slice_get_take xs n k y e in let b : k < n = h.0 in (omega arith, h.1)

pub slice_get_front : {A : Type 0} (xs : List A) (n k : ℕ) (y : A) → k < n → slice_get xs k ≡ Some y → slice_get (take n xs) k ≡ Some y
slice_get_front xs zero k y b e = absurd (omega arith)
slice_get_front [] (suc n) k y b e = absurd cc
slice_get_front (x ∷ xs) (suc n) zero y b e = e
slice_get_front (x ∷ xs) (suc n) (suc k) y b e = slice_get_front xs n k y (omega arith) e

pub slice_get_mapped : {A B : Type 0} (f : A → B) (xs : List A) (k : ℕ) (x : A) → slice_get xs k ≡ Some x → slice_get (map f xs) k ≡ Some (f x)
slice_get_mapped f xs k x e = slice_get-map f xs k ∙ ap (option_map f) e

-- what holds at each place before, and at this one, holds before the next
pub more_at : {A : Type 0} (xs : List A) (n : ℕ) (d : A) (P : A → Type 0)
    → ((k : ℕ) (x : A) → k < n → slice_get xs k ≡ Some x → P x) → n < length xs → P (get_or xs n d)
    → (k : ℕ) (x : A) → k < n + 1 → slice_get xs k ≡ Some x → P x
more_at xs n d P before inside here k x below there =
    either (k == n)
    (λ same.
    let at : k ≡ n = eqb-true k n same in
    let found : slice_get xs n ≡ Some x = subst (λ i. slice_get xs i ≡ Some x) at there in
    subst P (get_or_from_slice_get xs n x d found) here)
    (λ apart. let ne : k ≡ n → ⊥ = λ at. both (k == n) (eq-eqb k n at) apart in before k x (omega arith) there)

pub there_at : {A : Type 0} (xs : List A) (n : ℕ) (d : A) → n < length xs → slice_get xs n ≡ Some (get_or xs n d)
there_at xs n d inside = slice_get-get_or xs n d inside

pub set_at : {A : Type 0} (xs : List A) (n : ℕ) (v : A) → n < length xs → slice_get (set xs n v) n ≡ Some v
set_at [] n v inside = absurd (omega arith)
set_at (x ∷ xs) zero v inside = refl
set_at (x ∷ xs) (suc n) v inside = set_at xs n v (omega arith)

pub set_other : {A : Type 0} (xs : List A) (n k : ℕ) (v : A) → (k ≡ n → ⊥) → slice_get (set xs n v) k ≡ slice_get xs k
set_other [] n k v apart = refl
set_other (x ∷ xs) zero zero v apart = absurd (apart refl)
set_other (x ∷ xs) zero (suc k) v apart = refl
set_other (x ∷ xs) (suc n) zero v apart = refl
set_other (x ∷ xs) (suc n) (suc k) v apart = set_other xs n k v (λ e. apart (ap suc e))

-- one element more of what is mapped
map_take_suc : {A B : Type 0} (f : A → B) (xs : List A) (k : ℕ) (x : A) → slice_get xs k ≡ Some x → map f (take (suc k) xs) ≡ map f (take k xs) ++ (f x ∷ [])
map_take_suc f [] k x e = absurd cc
map_take_suc f (y ∷ xs) zero x e = let same : y ≡ x = Some_same y x e in rw same refl
map_take_suc f (y ∷ xs) (suc k) x e = ap (λ rest. f y ∷ rest) (map_take_suc f xs k x e)

pub map_take_more : {A B : Type 0} (f : A → B) (xs : List A) (k : ℕ) (x : A) → slice_get xs k ≡ Some x → map f (take (k + 1) xs) ≡ map f (take k xs) ++ (f x ∷ [])
map_take_more f xs k x e = rw add-one (map_take_suc f xs k x e)
