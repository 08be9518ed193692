use Rattle.std.proofs.Common.{◌≡◌, ℕ, ◌+◌, ◌-◌, ◌*◌, ◌/◌, ◌^◌, ◌<◌, ◌≤◌, sym, ap, ◌∙◌, inl, inr, arith, suc}
use Rattle.std.proofs.lemmas.Bool.{cases_lt}
use Rattle.std.proofs.lemmas.Nat.{leading_length}
use Rattle.std.proofs.Math.Pow.{pow_mono}
use lib.Count.{count_leading_zeros}
use Rattle.g711_law.specs.Lines.{compressed}
use Rattle.g711_law.proofs.Curves.{compressed_at, compressed_small}
use Rattle.g711_law.proofs.curve.compressed.Goals as goal

exponent_le : (m k n : ℕ) → 2 ^ m ≤ n → n < 2 ^ k → m < k
exponent_le m k n low high = elim (cases_lt m k) [ inl l ↦ l | inr g ↦ let p : 2 ^ k ≤ 2 ^ m = pow_mono g in absurd (omega arith) ]

by_length : (q k m : ℕ) → q < 4096 → k ≡ m - 5 → q < 2 ^ m → 2 ^ m ≤ 2 * q + 1 → 16 * k + q / 2 ^ k ≡ compressed 7 q
by_length q k m small is high low = elim (cases_lt q 32) [
  | inl few ↦ let short : m < 6 = exponent_le m 6 (2 * q + 1) low (omega arith) in
      let zero : k ≡ 0 = omega arith in
      ap (λ j. 16 * j + q / 2 ^ j) zero ∙ omega (arith, compressed_small 7 q few)
  | inr many ↦
      let long : 5 < m = exponent_le 5 m q (omega arith) high in
      let short : m < 13 = exponent_le m 13 (2 * q + 1) low (omega arith) in
      let power : 2 ^ m ≡ 32 * 2 ^ k = let e : m ≡ suc (suc (suc (suc (suc k)))) = omega arith in ap (λ j. 2 ^ j) e ∙ omega arith in
      sym (compressed_at 7 k q (omega arith) (omega arith) (omega arith))
]

by_leading_zeros : (q k : ℕ) → q < 4096 → k ≡ 11 - count_leading_zeros 16 q → 16 * k + q / 2 ^ k ≡ compressed 7 q
by_leading_zeros q k small is =
    let long = leading_length 16 q (omega arith) in
    by_length q k long.0 small (omega (arith, long.1)) long.2 long.3

pub returns : goal.returns
returns c = by_leading_zeros _ _ c.requires c.saturating_sub-doublings.ensures
