-- Lists of two runs: so many of one value, then so many of another.
use Rattle.std.proofs.Common.{◌≡◌, ℕ, zero, suc, ◌+◌, List, [], ◌∷◌, ◌++◌, replicate, take, set, refl, ap, arith}

module _ {A : Type 0} where
  pub longer_run : (i m : ℕ) (a b : A) → set (replicate i a ++ replicate (suc m) b) i a ≡ replicate (suc i) a ++ replicate m b
  longer_run zero m a b = refl
  longer_run (suc i) m a b = ap (λ xs. a ∷ xs) (longer_run i m a b)

  pub take_run : (o m : ℕ) (b : A) → take o (replicate (o + m) b) ≡ replicate o b
  take_run zero m b = refl
  take_run (suc o) m b = let e : suc o + m ≡ suc (o + m) = omega arith in rw e (ap (λ xs. b ∷ xs) (take_run o m b))

  pub take_runs : (i o m : ℕ) (a b : A) → take (i + o) (replicate i a ++ replicate (o + m) b) ≡ replicate i a ++ replicate o b
  take_runs zero o m a b = let e : 0 + o ≡ o = omega arith in rw e (take_run o m b)
  take_runs (suc i) o m a b = let e : suc i + o ≡ suc (i + o) = omega arith in rw e (ap (λ xs. a ∷ xs) (take_runs i o m a b))

  pub take_set : (n i : ℕ) (xs : List A) (x : A) → take n (set xs i x) ≡ set (take n xs) i x
  take_set zero i xs x = refl
  take_set (suc n) i [] x = refl
  take_set (suc n) zero (y ∷ xs) x = refl
  take_set (suc n) (suc i) (y ∷ xs) x = ap (λ ys. y ∷ ys) (take_set n i xs x)
