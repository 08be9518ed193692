-- The lists of blocks at home, where those behind the end never were out.
use Rattle.std.proofs.Common.{◌≡◌, ℕ, zero, suc, ◌+◌, ◌≤◌, Bool, true, false, List, [], ◌∷◌, ◌++◌, length, replicate, refl, ap, subst, arith, All}
use Rattle.std.proofs.lemmas.List.Elements.{All-contains, Contains-push}
use Rattle.block_region.specs.Regions.{is_home, marked, homes, outs}

pub homes-more : (hs : List Bool) (m : ℕ) → homes (hs ++ replicate m true) ≡ homes hs + m
homes-more [] zero = refl
homes-more [] (suc m) = omega (arith, homes-more [] m)
homes-more (true ∷ hs) m = omega (arith, homes-more hs m)
homes-more (false ∷ hs) m = homes-more hs m

pub outs-more : (hs : List Bool) (m : ℕ) → homes hs + outs (hs ++ replicate m true) ≡ length hs
outs-more [] zero = refl
outs-more [] (suc m) = outs-more [] m
outs-more (true ∷ hs) m = omega (arith, outs-more hs m)
outs-more (false ∷ hs) m = omega (arith, outs-more hs m)

pub homes-pushed : (hs : List Bool) → homes (hs ++ false ∷ []) ≡ homes hs
homes-pushed [] = refl
homes-pushed (true ∷ hs) = ap suc (homes-pushed hs)
homes-pushed (false ∷ hs) = homes-pushed hs

-- a block that ever was out
pub is_home-before : (hs ks : List Bool) (n : ℕ) → n + 1 ≤ length hs → is_home (hs ++ ks) n ≡ is_home hs n
is_home-before [] ks n some = absurd (omega arith)
is_home-before (h ∷ hs) ks zero some = refl
is_home-before (h ∷ hs) ks (suc n) some = is_home-before hs ks n (omega arith)

pub marked-before : (hs ks : List Bool) (n : ℕ) (x : Bool) → n + 1 ≤ length hs → marked hs n x ++ ks ≡ marked (hs ++ ks) n x
marked-before [] ks n x some = absurd (omega arith)
marked-before (h ∷ hs) ks zero x some = refl
marked-before (h ∷ hs) ks (suc n) x some = ap (λ js. h ∷ js) (marked-before hs ks n x (omega arith))

-- the first that never was
pub is_home-first : (hs : List Bool) (m : ℕ) → is_home (hs ++ replicate (suc m) true) (length hs) ≡ true
is_home-first [] m = refl
is_home-first (h ∷ hs) m = is_home-first hs m

pub marked-first : (hs : List Bool) (m : ℕ) → (hs ++ false ∷ []) ++ replicate m true ≡ marked (hs ++ replicate (suc m) true) (length hs) false
marked-first [] m = refl
marked-first (h ∷ hs) m = ap (λ js. h ∷ js) (marked-first hs m)

-- what holds of each holds of the one that is taken out
pub popped : {X : Type 0} (P : X → Type 0) (xs ys : List X) (x : X) → xs ≡ ys ++ x ∷ [] → All P xs → P x
popped P xs ys x e all = All-contains P (ys ++ x ∷ []) x (subst (All P) e all) (Contains-push ys x)
