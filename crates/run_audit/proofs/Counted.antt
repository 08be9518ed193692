-- The links of a plan are counted.
use Rattle.std.proofs.Common.{◌≡◌, ◌<◌, ◌≤◌, ℕ, arith}

pub before : (l k n m : ℕ) → l < k → k ≡ n → n ≤ m → l < m
before l k n m b e le = omega (arith, b, e, le)
