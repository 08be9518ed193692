-- A text parted by a byte that isn't in its front has one front and one rest.
use Rattle.std.proofs.Common.{◌≡◌, ◌≢◌, ℕ, zero, suc, ◌<◌, List, [], ◌∷◌, ◌++◌, length, get_or, drop, refl, sym, ap, arith}

abbrev pub Lacks : ℕ → List ℕ → Type 0
Lacks byte xs = (k : ℕ) → k < length xs → get_or xs k 0 ≢ byte

pub lacks_both : (byte : ℕ) (xs ys : List ℕ) → Lacks byte xs → Lacks byte ys → Lacks byte (xs ++ ys)
lacks_both byte [] ys a b k l = b k l
lacks_both byte (x ∷ xs) ys a b zero l = a 0 (omega arith)
lacks_both byte (x ∷ xs) ys a b (suc k) l = lacks_both byte xs ys (λ k l. a (suc k) (omega arith)) b k (omega arith)

pub parted : (byte : ℕ) (xs ys rest more : List ℕ) → Lacks byte xs → Lacks byte ys → xs ++ byte ∷ rest ≡ ys ++ byte ∷ more → (xs ≡ ys) × (rest ≡ more)
parted byte [] [] rest more a b e = (refl, ap (λ (l : List ℕ). drop 1 l) e)
parted byte [] (y ∷ ys) rest more a b e = absurd (b 0 (omega arith) (sym (ap (λ (l : List ℕ). get_or l 0 0) e)))
parted byte (x ∷ xs) [] rest more a b e = absurd (a 0 (omega arith) (ap (λ (l : List ℕ). get_or l 0 0) e))
parted byte (x ∷ xs) (y ∷ ys) rest more a b e =
    let head : x ≡ y = ap (λ (l : List ℕ). get_or l 0 0) e in
    let tail : xs ++ byte ∷ rest ≡ ys ++ byte ∷ more = ap (λ (l : List ℕ). drop 1 l) e in
    let r = parted byte xs ys rest more (λ k l. a (suc k) (omega arith)) (λ k l. b (suc k) (omega arith)) tail in
    (rw (head, r.0) refl, r.1)
