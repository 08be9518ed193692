-- How many of a law's thresholds aren't above a magnitude, where the thresholds that aren't are the first N.
use Rattle.std.proofs.Common.{◌≡◌, ℕ, zero, suc, ◌+◌, ◌-◌, ◌<◌, ◌≤◌, ◌↔◌, min, cond, leb, map, ap, ◌∙◌, inl, inr, arith}
use Rattle.std.proofs.lemmas.Bool.{cases_lt, le-leb, lt-leb}
use Rattle.std.proofs.lemmas.List.Sums.{sum_by-cons}
use Rattle.std.specs.List.{range_with_len}
use Rattle.g711_law.specs.Steps.{step_number}

one_more : (t m N a k c : ℕ) → (t ≤ m) ↔ (a ≤ N) → c ≡ min (N + 1 - (a + 1)) k → cond (leb t m) 1 0 + c ≡ min (N + 1 - a) (suc k)
one_more t m N a k c iff e = elim (cases_lt N a) [
  | inl above ↦ let no : m < t = elim (cases_lt m t) [ inl l ↦ l | inr g ↦ absurd (omega (arith, iff.0 g)) ] in
      ap (λ b. cond b 1 0 + c) (lt-leb t m no) ∙ omega arith
  | inr within ↦ ap (λ b. cond b 1 0 + c) (le-leb t m (iff.1 within)) ∙ omega arith
]

pub counted : (threshold : ℕ → ℕ) (m N : ℕ) → (a k : ℕ) → ((n : ℕ) → a ≤ n → n < a + k → (threshold n ≤ m) ↔ (n ≤ N))
    → step_number (map threshold (range_with_len a k)) m ≡ min (N + 1 - a) k
unfolding step_number
counted threshold m N a zero first = omega arith
counted threshold m N a (suc k) first =
    sum_by-cons (λ t. cond (leb t m) 1 0) (threshold a) (map threshold (range_with_len (a + 1) k))
    ∙ one_more (threshold a) m N a k _ (first a (omega arith) (omega arith)) (counted threshold m N (a + 1) k (λ n low high. first n (omega arith) (omega arith)))
