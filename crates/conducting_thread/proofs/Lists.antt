-- A list, as far as a loop has come in it.
use Rattle.std.proofs.Common.{◌≡◌, ℕ, ◌+◌, List, [], ◌∷◌, ◌++◌, map, take, drop, slice_get, Some, refl, sym, ◌∙◌, ap, add-one}
use Rattle.std.proofs.lemmas.List.{map-append, take-append-drop}
use Rattle.std.proofs.lemmas.Option.{get_or_from_slice_get, slice_get_within}
use Rattle.std.proofs.Math.Seq.{take-suc}

module _ {X : Type 0} (xs : List X) where
  pub front_more : (i : ℕ) (x : X) → slice_get xs i ≡ Some x → take (i + 1) xs ≡ take i xs ++ x ∷ []
  front_more i x e =
      ap (λ (k : ℕ). take k xs) (add-one i) ∙ (take-suc xs i x (slice_get_within xs i x e) ∙ ap (λ (y : X). take i xs ++ y ∷ []) (get_or_from_slice_get xs i x x e))

module _ {X Y : Type 0} (f : X → Y) (xs : List X) where
  pub one_more : (i : ℕ) (x : X) → slice_get xs i ≡ Some x → map f (take (i + 1) xs) ≡ map f (take i xs) ++ f x ∷ []
  one_more i x e = ap (map f) (front_more xs i x e) ∙ map-append f (take i xs) (x ∷ [])

  -- the one at a place, with those before it and behind it
  pub around : (i : ℕ) (x : X) → slice_get xs i ≡ Some x → (map f (take i xs) ++ f x ∷ []) ++ map f (drop (i + 1) xs) ≡ map f xs
  around i x e =
      ap (λ (ys : List Y). ys ++ map f (drop (i + 1) xs)) (sym (one_more i x e)) ∙ (sym (map-append f (take (i + 1) xs) (drop (i + 1) xs)) ∙ ap (map f) (take-append-drop (i + 1) xs))

pub fused : {X Y Z : Type 0} (f : X → Y) (h : Z → X) (zs : List Z) → map f (map h zs) ≡ map (λ (z : Z). f (h z)) zs
fused f h [] = refl
fused {Y = Y} f h (z ∷ zs) = ap (λ (ys : List Y). f (h z) ∷ ys) (fused f h zs)
