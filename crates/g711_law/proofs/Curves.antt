-- The two curves: on which line a number stands, and that they rise.
use Rattle.std.proofs.Common.{◌≡◌, ℕ, zero, suc, ◌+◌, ◌-◌, ◌*◌, ◌/◌, ◌^◌, ◌<◌, ◌≤◌, ◌↔◌, max, refl, ap, ◌∙◌, arith}
use Rattle.std.proofs.lemmas.Nat.{shr-shr}
use Rattle.std.proofs.Math.Pow.{pow_pos}
use Rattle.g711_law.specs.Lines.{compressed, expanded}

-- ---- compressed

pub compressed_le : (n q : ℕ) → compressed n q ≤ q
unfolding compressed
compressed_le zero q = omega arith
compressed_le (suc n) q = omega arith

pub compressed_small : (n q : ℕ) → q < 32 → compressed n q ≡ q
unfolding compressed
compressed_small zero q l = refl
compressed_small (suc n) q l = omega (arith, compressed_small n (q / 2) (omega arith))

pub compressed_large : (n q : ℕ) → 32 ≤ q → compressed (suc n) q ≡ 16 + compressed n (q / 2)
unfolding compressed
compressed_large n q l = omega (arith, compressed_le n (q / 2))

pub compressed_rises : (n q r : ℕ) → q ≤ r → compressed n q ≤ compressed n r
unfolding compressed
compressed_rises zero q r l = l
compressed_rises (suc n) q r l = omega (arith, compressed_rises n (q / 2) (r / 2) (omega arith))

-- on the line of the j-th doubling
pub compressed_at : (n j q : ℕ) → j ≤ n → 16 * 2 ^ j ≤ q → q < 32 * 2 ^ j → compressed n q ≡ 16 * j + q / 2 ^ j
compressed_at n zero q j low high = compressed_small n q (omega arith) ∙ omega arith
compressed_at zero (suc j) q i low high = absurd (omega arith)
compressed_at (suc n) (suc j) q i low high =
    let below = compressed_at n j (q / 2) (omega arith) (omega arith) (omega arith) in
    let halved : q / 2 / 2 ^ j ≡ q / 2 ^ suc j = shr-shr q 1 j ∙ ap (λ k. q / 2 ^ k) (omega arith) in
    compressed_large n q (omega arith) ∙ omega (arith, below, halved)

-- ---- the least number whose compressed value is at least h

abbrev pub reach : ℕ → ℕ → ℕ
reach zero h = h
reach (suc n) h = max h (2 * reach n (h - 16))

pub reach_iff : (n h q : ℕ) → (reach n h ≤ q) ↔ (h ≤ compressed n q)
unfolding compressed
reach_iff zero h q = (λ l. l, λ l. l)
reach_iff (suc n) h q =
    let rest = reach_iff n (h - 16) (q / 2) in
    (λ l. omega (arith, rest.0 (omega arith)), λ l. omega (arith, rest.1 (omega arith)))

-- ---- expanded

pub expanded_rises : (n v w : ℕ) → v ≤ w → expanded n v ≤ expanded n w
unfolding expanded
expanded_rises zero v w l = l
expanded_rises (suc n) v w l = omega (arith, expanded_rises n (v - 32) (w - 32) (omega arith))

pub expanded_le : (n w : ℕ) → w ≤ 511 → expanded n w ≤ 511 * 2 ^ n
unfolding expanded
expanded_le zero w l = omega arith
expanded_le (suc n) w l = omega (arith, expanded_le n (w - 32) (omega arith), pow_pos n)
