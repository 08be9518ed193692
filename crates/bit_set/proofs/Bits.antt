-- The numbers of a set after one comes in, goes out or comes down, and the least of them.
use Rattle.std.proofs.Common.{◌≡◌, suc, ◌<◌, ◌≤◌, ℕ, ◌+◌, ◌-◌, ◌*◌, ◌/◌, ◌%◌, ◌^◌, true, false, Some, not, ◌&&◌, ◌||◌, nat_eq, bit_and, bit_or, w32, inl, inr, refl, sym, ◌∙◌, ap, arith}
use Rattle.std.specs.Int.{bit_at}
use Rattle.std.specs.Int.{trailing_zeros}
use Rattle.std.proofs.Math.Nat.{div-div-eq-div-mul, div-le_self, mul-le-mul_right, mod-eq_of_lt}
use Rattle.std.proofs.lemmas.Bool.{false≢true, and_right, cases_lt, lt-ltb, le-ltb}
use Rattle.std.proofs.lemmas.Nat.{pow-add, pow_below, pow_pos, and_le_l}
use Rattle.std.proofs.lemmas.Nat.Bits.{bit_at-zero, bit_at-lt, bit_at_set_same, bit_at_set_other, bit_at_clear_same, bit_at_clear_other, bit_at_above, bit_at_cat_low, bit_at_cat_high, bit_at-trailing_zeros, same_from_bits}
use Rattle.std.proofs.lemmas.Bool.Decides.{eqb_tells, nat_tests}
use Rattle.bit_set.specs.Members.{has, moved_down, IsNext}

pub has_none : (i : ℕ) → has 0 i ≡ false
unfolding has
has_none i = rw (bit_at-zero i) refl

-- a word whose every bit is clear is 0
clear : (b : ℕ) → b < 2 → nat_eq b 1 ≡ false → b ≡ 0
clear b l e = grind (arith, nat_tests)

pub none_has : (word : ℕ) → ((i : ℕ) → has word i ≡ false) → word ≡ 0
unfolding has
none_has word h = same_from_bits word 0 (λ i. clear (bit_at word i) (bit_at-lt word i) (h i) ∙ sym (bit_at-zero i))

-- a set has no number from 32 on
pub has_above : (word i : ℕ) → word < 2 ^ 32 → 32 ≤ i → has word i ≡ false
unfolding has
has_above word i l b = rw (bit_at_above word 32 i l b) refl

pub has_inserted : (word k : ℕ) → k < 32 → (i : ℕ) → has (bit_or word (1 * 2 ^ k % 2 ^ 32)) i ≡ (nat_eq i k || has word i)
unfolding has
has_inserted word k l i = elim (eqb_tells i k) [
  | inl q ↦ rw (q.0, q.1, bit_at_set_same w32 word k l) refl
  | inr q ↦ rw (q.0, bit_at_set_other w32 word k l i q.1) refl
]

removed_low : (word k : ℕ) → k < 32 → (i : ℕ) → i < 32 → has (bit_and word (2 ^ 32 - 1 - 1 * 2 ^ k % 2 ^ 32)) i ≡ (not (nat_eq i k) && has word i)
unfolding has
removed_low word k l i b = elim (eqb_tells i k) [
  | inl q ↦ rw (q.0, q.1, bit_at_clear_same w32 word k l) refl
  | inr q ↦ rw (q.0, bit_at_clear_other w32 word k l i b q.1) refl
]

pub has_removed : (word k : ℕ) → word < 2 ^ 32 → k < 32 → (i : ℕ) → has (bit_and word (2 ^ 32 - 1 - 1 * 2 ^ k % 2 ^ 32)) i ≡ (not (nat_eq i k) && has word i)
has_removed word k f l i = elim (cases_lt i 32) [
  | inl b ↦ removed_low word k l i b
  | inr b ↦
      let small : bit_and word (2 ^ 32 - 1 - 1 * 2 ^ k % 2 ^ 32) < 2 ^ 32 = omega (arith, and_le_l word (2 ^ 32 - 1 - 1 * 2 ^ k % 2 ^ 32), f) in
      has_above (bit_and word (2 ^ 32 - 1 - 1 * 2 ^ k % 2 ^ 32)) i small b ∙ sym (and_right (not (nat_eq i k)) (has word i) (has_above word i f b))
]

-- ---- shifts

bit_shifted : (n k i : ℕ) → bit_at (n / 2 ^ k) i ≡ bit_at n (k + i)
bit_shifted n k i = ap (λ (x : ℕ). x % 2) (div-div-eq-div-mul n (2 ^ k) (2 ^ i) ∙ ap (λ (y : ℕ). n / y) (sym (pow-add 2 k i)))

pub has_shifted : (n k i : ℕ) → has (n / 2 ^ k) i ≡ has n (k + i)
unfolding has
has_shifted n k i = rw (bit_shifted n k i) refl

-- the lowest bit of a word that isn't 0 is its least number
pub least : (n : ℕ) → 0 < n → n < 2 ^ 32 → (trailing_zeros w32 n < 32) × (has n (trailing_zeros w32 n) ≡ true) × ((i : ℕ) → i < trailing_zeros w32 n → has n i ≡ false)
unfolding has
least n p l =
    let t = bit_at-trailing_zeros w32 n p l in
    (t.0, rw t.1 refl, λ i b. rw (t.2 i b) refl)

-- ---- a number goes out, and the greater ones come down

parted : (word k : ℕ) → word ≡ word / 2 ^ k * 2 ^ k + word % 2 ^ k
parted word k = let p = pow_pos k in omega arith

low_small : (word k : ℕ) → word % 2 ^ k < 2 ^ k
low_small word k = let p = pow_pos k in omega arith

bit_low : (word k i : ℕ) → i < k → bit_at (word % 2 ^ k) i ≡ bit_at word i
bit_low word k i l = sym (ap (λ (n : ℕ). bit_at n i) (parted word k) ∙ bit_at_cat_low (word / 2 ^ k) k (word % 2 ^ k) i l)

pub has_moved : (word k i : ℕ) → has (word / 2 ^ k / 2 * 2 ^ k + word % 2 ^ k) i ≡ has word (moved_down k i)
unfolding has
has_moved word k i = elim (cases_lt i k) [
  | inl l ↦
      let e : bit_at (word / 2 ^ k / 2 * 2 ^ k + word % 2 ^ k) i ≡ bit_at word i = bit_at_cat_low (word / 2 ^ k / 2) k (word % 2 ^ k) i l ∙ bit_low word k i l in
      rw (lt-ltb i k l, e) refl
  | inr l ↦
      let e : bit_at (word / 2 ^ k / 2 * 2 ^ k + word % 2 ^ k) i ≡ bit_at word (suc i) =
      bit_at_cat_high (word / 2 ^ k / 2) k (word % 2 ^ k) i (low_small word k) l
      ∙ (bit_shifted (word / 2 ^ k) 1 (i - k) ∙ (bit_shifted word k (1 + (i - k)) ∙ ap (bit_at word) (omega (arith, l)))) in
      rw (le-ltb i k l, e) refl
]

-- what comes down fits the word
pub moved_fits : (word k : ℕ) → word / 2 ^ k / 2 * 2 ^ k + word % 2 ^ k ≤ word
moved_fits word k =
    let m = mul-le-mul_right (2 ^ k) (div-le_self (word / 2 ^ k) 2) in
    omega (arith, parted word k, m)

small_mod : (a m : ℕ) → a < m → a % m ≡ a
small_mod a m l = mod-eq_of_lt l

-- the same, as a word's shifts compute it
pub moved_word : (word k : ℕ) → word < 2 ^ 32 → k < 32 → word / 2 ^ k / 2 * 2 ^ k % 2 ^ 32 + word % (1 * 2 ^ k % 2 ^ 32) ≡ word / 2 ^ k / 2 * 2 ^ k + word % 2 ^ k
moved_word word k f l =
    let few : word / 2 ^ k / 2 * 2 ^ k < 2 ^ 32 = omega (arith, moved_fits word k, f) in
    let one : 1 * 2 ^ k % 2 ^ 32 ≡ 2 ^ k = omega (arith, pow_below k 32 l) in
    rw (small_mod (word / 2 ^ k / 2 * 2 ^ k) (2 ^ 32) few, one) refl

-- ---- the least number from one on

after : (n k i : ℕ) → k ≤ i → has n i ≡ has (n / 2 ^ k) (i - k)
after n k i l = ap (has n) (omega (arith, l)) ∙ sym (has_shifted n k (i - k))

pub none_from : (word from : ℕ) → word / 2 ^ from ≡ 0 → (i : ℕ) → from ≤ i → has word i ≡ false
none_from word from z i l = after word from i l ∙ (ap (λ (n : ℕ). has n (i - from)) z ∙ has_none (i - from))

shifted_small : (word from : ℕ) → word < 2 ^ 32 → word / 2 ^ from < 2 ^ 32
shifted_small word from l = omega (arith, div-le_self word (2 ^ from), l)

pub next_is : (word from : ℕ) → word < 2 ^ 32 → (word / 2 ^ from ≡ 0 → ⊥) → IsNext word from (Some (from + trailing_zeros w32 (word / 2 ^ from)))
next_is word from l z =
    let n = word / 2 ^ from in
    let some : 0 < n = omega arith in
    let t = least n some (shifted_small word from l) in
    let there : has word (from + trailing_zeros w32 n) ≡ true = sym (has_shifted word from (trailing_zeros w32 n)) ∙ t.1 in (
      omega arith,
      elim (cases_lt (from + trailing_zeros w32 n) 32) [
        | inl b ↦ b
        | inr b ↦ absurd (false≢true (sym (has_above word (from + trailing_zeros w32 n) l b) ∙ there))
      ],
      there,
      λ i a b. after word from i a ∙ t.2 (i - from) (omega (arith, a, b)),
    )
