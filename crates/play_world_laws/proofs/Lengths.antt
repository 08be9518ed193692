-- The bytes of a step in a play: its part's frames are those of its links, and each header gets whole frames.
use Rattle.std.proofs.Common.{◌≡◌, ℕ, zero, suc, ◌+◌, Bool, true, false, List, [], ◌∷◌, find, drop, slice_get, Some, refl, sym, ◌∙◌, ap, subst, arith}
use Rattle.std.specs.List.{AllByRecursion}
use Rattle.omx_types.specs.declared.kind.Kind.{Kind}
use Rattle.omx_types.specs.declared.kind.Kind.TheVariants as kinds
use Rattle.il_machine.specs.Kinds.{is_source, is_late}
use Rattle.machine_laws.proofs.Finding.{either}

-- ---- lists

pub at_all : {X : Type 0} (P : X → Type 0) (xs : List X) (i : ℕ) (y : X) → AllByRecursion P xs → slice_get xs i ≡ Some y → P y
at_all P [] i y A e = absurd cc
at_all P (z ∷ xs) zero y A e = let s : z ≡ y = cc in subst P s A.0
at_all P (z ∷ xs) (suc i) y A e = at_all P xs i y A.1 e

pub drop_at : {X : Type 0} (n : ℕ) (xs : List X) (i : ℕ) → slice_get (drop n xs) i ≡ slice_get xs (n + i)
drop_at zero xs i = let z : i ≡ 0 + i = omega arith in ap (slice_get xs) z
drop_at (suc n) [] i = refl
drop_at (suc n) (z ∷ xs) i = let s : suc (n + i) ≡ suc n + i = omega arith in drop_at n xs i ∙ ap (slice_get (z ∷ xs)) s

pub found_at : {X : Type 0} (test : X → Bool) (xs : List X) (y : X) → find test xs ≡ Some y → (i : ℕ) × (slice_get xs i ≡ Some y) × (test y ≡ true)
found_at test [] y e = absurd cc
found_at test (z ∷ xs) y e = either (test z)
    (λ t. let s : Some z ≡ Some y = rw t at e in let is : z ≡ y = cc in (0, s, ap test (sym is) ∙ t))
    (λ f. let r = found_at test xs y (rw f at e) in (suc r.0, r.1, r.2))

-- ---- formats

pub source_early : (k : Kind) → is_source k ≡ true → is_late k ≡ false → k ≡ kinds.Source
source_early kinds.Source s l = refl
source_early kinds.Late s l = absurd cc
source_early kinds.Decoder s l = absurd cc
source_early kinds.Alaw s l = absurd cc
source_early kinds.Mulaw s l = absurd cc
source_early kinds.Gain s l = absurd cc
source_early (kinds.Mixer n) s l = absurd cc
source_early (kinds.Splitter n) s l = absurd cc
source_early kinds.Sink s l = absurd cc
