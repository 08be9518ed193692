-- A-law: the step of a magnitude by the curve, the middle of a step, and the laws of the public functions.
use Rattle.std.proofs.Common.{◌≡◌, ℕ, ◌+◌, ◌-◌, ◌*◌, ◌/◌, ◌%◌, ◌^◌, ◌<◌, ◌≤◌, ◌↔◌, min, Bool, ◌&&◌, cond, eqb, leb, refl, sym, ap, ◌∙◌, inl, inr, arith, subst, eqb→eq, ℤ, pos, ◌≤ℤ◌}
use lib.Ieee.Fits.{and_l, and_r}
use lib.Bits.{bit_xor, bit_and}
use lib.IntN.{negsuc, neg_ℤ}
use Rattle.std.specs.Int.Bits.{xor_assoc, xor_zero_r}
use Rattle.std.specs.Int.{is_negative}
use Rattle.std.proofs.lemmas.Bool.{cases_lt, eq-eqb, ne_eqb}
use lib.Dec.{leb→le}
use Rattle.std.proofs.lemmas.Nat.{xor_of_8, and_mask}
use Rattle.std.proofs.lemmas.Int.{ints}
use Rattle.std.proofs.Common.{FitsSigned, w16}
use Rattle.g711_law.specs.Lines.{compressed, expanded}
use Rattle.g711_law.specs.Steps.{step_number, signed, AreWithin}
use Rattle.g711_law.specs.Alaw.{alaw_threshold, alaw_thresholds, alaw_magnitude, alaw_step, alaw_code, alaw_middle, alaw_value, alaw_half_step}
use Rattle.g711_law.proofs.Tables.{every_below}
use Rattle.g711_law.proofs.Curves.{reach, reach_iff, compressed_rises, expanded_rises}
use Rattle.g711_law.proofs.Counts.{counted}
use Rattle.g711_law.proofs.Signs.{not_negative, neg_is, pos_rises, neg_falls, neg_le_pos, from_pos, from_negsuc, not_pos_le_negsuc, apart_pos, apart_negsuc}

-- the magnitude that a code of step n stands for
abbrev pub level : ℕ → ℕ
level n = cond (eqb (n / 16) 0) (n % 16 * 16 + 8) ((n % 16 * 16 + 264) * 2 ^ (n / 16 - 1))

-- ---- what the checker computes at each step

abbrev threshold_ok : ℕ → Bool
threshold_ok n = eqb (alaw_threshold n) (16 * reach 7 n)

threshold_is : (n : ℕ) → n < 128 → alaw_threshold n ≡ 16 * reach 7 n
unfolding alaw_threshold
threshold_is n l = eqb→eq _ _ (every_below threshold_ok 128 tt n l)

abbrev half : ℕ → ℕ
half n = alaw_half_step (n / 16)

abbrev lower_ok : ℕ → Bool
lower_ok n = eqb (16 * reach 7 n + half n) (level n)

lower_is : (n : ℕ) → n < 128 → 16 * reach 7 n + half n ≡ level n
lower_is n l = eqb→eq _ _ (every_below lower_ok 128 tt n l)

abbrev upper_ok : ℕ → Bool
upper_ok n = eqb (16 * reach 7 (n + 1)) (level n + half n)

upper_is : (n : ℕ) → n < 128 → 16 * reach 7 (n + 1) ≡ level n + half n
upper_is n l = eqb→eq _ _ (every_below upper_ok 128 tt n l)

abbrev level_ok : ℕ → Bool
level_ok n = eqb (level n) (8 * expanded 7 (2 * n + 1))

pub level_is : (n : ℕ) → n < 128 → level n ≡ 8 * expanded 7 (2 * n + 1)
unfolding expanded
level_is n l = eqb→eq _ _ (every_below level_ok 128 tt n l)

-- ---- the step of a magnitude

first_thresholds : (m n : ℕ) → n < 128 → (alaw_threshold n ≤ m) ↔ (n ≤ compressed 7 (m / 16))
first_thresholds m n l =
    let is = threshold_is n l in
    let reached = reach_iff 7 n (m / 16) in
    (λ le. reached.0 (omega arith), λ le. omega (arith, reached.1 le))

step_any : (m : ℕ) → step_number alaw_thresholds m ≡ min (compressed 7 (m / 16)) 127
unfolding alaw_thresholds
step_any m = counted alaw_threshold m (compressed 7 (m / 16)) 1 127 (λ n low high. first_thresholds m n (omega arith)) ∙ omega arith

top : (m : ℕ) → m < 32768 → compressed 7 (m / 16) < 128
top m l = elim (cases_lt (compressed 7 (m / 16)) 128) [ inl below ↦ below | inr high ↦ absurd (omega (arith, (reach_iff 7 128 (m / 16)).1 high)) ]

pub step_is : (m : ℕ) → m < 32768 → step_number alaw_thresholds m ≡ compressed 7 (m / 16)
step_is m l = step_any m ∙ omega (arith, top m l)

pub step_below : (m : ℕ) → step_number alaw_thresholds m < 128
step_below m = omega (arith, step_any m)

step_rises : (m n : ℕ) → m ≤ n → step_number alaw_thresholds m ≤ step_number alaw_thresholds n
step_rises m n l = omega (arith, step_any m, step_any n, compressed_rises 7 (m / 16) (n / 16) (omega arith))

level_rises : (i j : ℕ) → i ≤ j → j < 128 → level i ≤ level j
level_rises i j le l = omega (arith, level_is i (omega arith), level_is j l, expanded_rises 7 (2 * i + 1) (2 * j + 1) (omega arith))

-- the magnitude is in the step's half-open interval round its middle
middle : (m n : ℕ) → m < 32768 → step_number alaw_thresholds m ≡ n → (level n ≤ m + half n) × (m < level n + half n)
middle m n l e =
    let is : compressed 7 (m / 16) ≡ n = sym (step_is m l) ∙ e in
    let small : n < 128 = omega (arith, top m l) in
    let low = (reach_iff 7 n (m / 16)).1 (omega arith) in
    let high : m / 16 < reach 7 (n + 1) = elim (cases_lt (m / 16) (reach 7 (n + 1))) [ inl below ↦ below | inr le ↦ absurd (omega (arith, (reach_iff 7 (n + 1) (m / 16)).0 le)) ] in
    (omega (arith, lower_is n small), omega (arith, upper_is n small))

-- ---- codes

twice : (a : ℕ) → bit_xor (bit_xor a 0x55) 0x55 ≡ a
twice a = xor_assoc a 0x55 0x55 ∙ xor_zero_r a

pub middle_is : (a n : ℕ) → a / 16 % 8 ≡ n / 16 → a % 16 ≡ n % 16 → alaw_middle a ≡ level n
unfolding alaw_middle
middle_is a n q r =
    let by : ℕ → ℕ → ℕ = λ s j. cond (eqb s 0) (j * 16 + 8) ((j * 16 + 264) * 2 ^ (s - 1)) in
    ap (λ s. by s (a % 16)) q ∙ ap (by (n / 16)) r

pub value_by : (a sign : ℕ) → a / 128 % 2 ≡ sign → alaw_value (bit_xor a 0x55) ≡ signed (eqb sign 1) (alaw_middle a)
unfolding alaw_value
value_by a sign p = ap (λ b. signed (eqb (b / 128 % 2) 1) (alaw_middle b)) (twice a) ∙ ap (λ t. signed (eqb t 1) (alaw_middle a)) p

pub value_plus : (n : ℕ) → n < 128 → alaw_value (bit_xor (n + 128) 0x55) ≡ pos (level n)
value_plus n l = value_by (n + 128) 1 (omega arith) ∙ ap pos (middle_is (n + 128) n (omega arith) (omega arith))

pub value_minus : (n : ℕ) → n < 128 → alaw_value (bit_xor n 0x55) ≡ neg_ℤ (pos (level n))
value_minus n l = value_by n 0 (omega arith) ∙ ap (λ m. neg_ℤ (pos m)) (middle_is n n (omega arith) refl)

pub code_pos : (m : ℕ) → alaw_code (pos m) ≡ bit_xor (step_number alaw_thresholds m + 128) 0x55
unfolding alaw_code alaw_step
code_pos m = ap (λ b. bit_xor (step_number alaw_thresholds m + cond b 0 128) 0x55) (not_negative m)

pub code_negsuc : (m : ℕ) → alaw_code (negsuc m) ≡ bit_xor (step_number alaw_thresholds m) 0x55
unfolding alaw_code alaw_step
code_negsuc m = ap (λ n. bit_xor n 0x55) (omega arith)

decoded_pos : (m : ℕ) → alaw_value (alaw_code (pos m)) ≡ pos (level (step_number alaw_thresholds m))
decoded_pos m = ap alaw_value (code_pos m) ∙ value_plus _ (step_below m)

decoded_negsuc : (m : ℕ) → alaw_value (alaw_code (negsuc m)) ≡ neg_ℤ (pos (level (step_number alaw_thresholds m)))
decoded_negsuc m = ap alaw_value (code_negsuc m) ∙ value_minus _ (step_below m)

-- ---- the laws

pub encode_rises : (x y : ℤ) → x ≤ℤ y → alaw_value (alaw_code x) ≤ℤ alaw_value (alaw_code y)
encode_rises (pos a) (pos b) l =
    rw (decoded_pos a, decoded_pos b) (pos_rises _ _ (level_rises _ _ (step_rises a b (from_pos a b l)) (step_below b)))
encode_rises (pos a) (negsuc b) l = absurd (not_pos_le_negsuc a b l)
encode_rises (negsuc a) (pos b) l = rw (decoded_negsuc a, decoded_pos b) (neg_le_pos _ _)
encode_rises (negsuc a) (negsuc b) l =
    rw (decoded_negsuc a, decoded_negsuc b) (neg_falls _ _ (level_rises _ _ (step_rises b a (from_negsuc a b l)) (step_below a)))

pub encode_near : (x : ℤ) → alaw_magnitude x < 32768 → AreWithin (half (alaw_step x)) x (alaw_value (alaw_code x))
unfolding alaw_step
encode_near (pos a) l =
    let within = middle a (step_number alaw_thresholds a) l refl in
    rw (decoded_pos a) (apart_pos a (level (step_number alaw_thresholds a)) (half (step_number alaw_thresholds a)) (omega (arith, within.1)) within.0)
encode_near (negsuc a) l =
    let within = middle a (step_number alaw_thresholds a) l refl in
    rw (decoded_negsuc a) (apart_negsuc a (level (step_number alaw_thresholds a)) (half (step_number alaw_thresholds a)) (omega (arith, within.1)) (omega (arith, within.0)))

abbrev back_ok : ℕ → Bool
back_ok n = eqb (compressed 7 (level n / 16)) n

abbrev before_ok : ℕ → Bool
before_ok n = eqb (compressed 7 ((level n - 1) / 16)) n

abbrev range_ok : ℕ → Bool
range_ok n = leb 8 (level n) && leb (level n) 32767

pub level_range : (n : ℕ) → n < 128 → (8 ≤ level n) × (level n ≤ 32767)
level_range n l =
    let t = every_below range_ok 128 tt n l in
    (leb→le 8 (level n) (and_l _ _ t), leb→le (level n) 32767 (and_r (leb 8 (level n)) _ t))

-- the middle of a step, and the number before it, are in the step
back : (n : ℕ) → n < 128 → (step_number alaw_thresholds (level n) ≡ n) × (step_number alaw_thresholds (level n - 1) ≡ n)
unfolding compressed
back n l =
    let range = level_range n l in
    (step_is (level n) (omega arith) ∙ eqb→eq _ _ (every_below back_ok 128 tt n l), step_is (level n - 1) (omega arith) ∙ eqb→eq _ _ (every_below before_ok 128 tt n l))

decode_encodes_from : (a : ℕ) → a < 256 → alaw_code (alaw_value (bit_xor a 0x55)) ≡ bit_xor a 0x55
decode_encodes_from a l = elim (cases_lt a 128) [
  | inl minus ↦
      let is = back a minus in
      ap alaw_code (value_minus a minus ∙ neg_is (level a) (omega (arith, level_range a minus))) ∙ code_negsuc (level a - 1) ∙ ap (λ n. bit_xor n 0x55) is.1
  | inr plus ↦
      let e : (a - 128) + 128 ≡ a = omega arith in
      let is = back (a - 128) (omega arith) in
      subst (λ b. alaw_code (alaw_value (bit_xor b 0x55)) ≡ bit_xor b 0x55) e
      (ap alaw_code (value_plus (a - 128) (omega arith)) ∙ code_pos (level (a - 128)) ∙ ap (λ n. bit_xor (n + 128) 0x55) is.0)
]

pub decode_encodes : (c : ℕ) → c < 256 → alaw_code (alaw_value c) ≡ c
decode_encodes c l =
    let e = twice c in
    subst (λ d. alaw_code (alaw_value d) ≡ d) e (decode_encodes_from (bit_xor c 0x55) (xor_of_8 c 0x55 l (omega arith)))

-- the middle of any code's step
pub middle_range : (a : ℕ) → a < 256 → (8 ≤ alaw_middle a) × (alaw_middle a ≤ 32767)
middle_range a l =
    let is = middle_is a (a % 128) (omega arith) (omega arith) in
    let range = level_range (a % 128) (omega arith) in
    (omega arith, omega arith)

pub value_low : (c : ℕ) → bit_xor c 0x55 < 128 → alaw_value c ≡ neg_ℤ (pos (alaw_middle (bit_xor c 0x55)))
value_low c l = ap alaw_value (sym (twice c)) ∙ value_by (bit_xor c 0x55) 0 (omega arith)

pub value_high : (c : ℕ) → c < 256 → 128 ≤ bit_xor c 0x55 → alaw_value c ≡ pos (alaw_middle (bit_xor c 0x55))
value_high c small l = ap alaw_value (sym (twice c)) ∙ value_by (bit_xor c 0x55) 1 (omega (arith, xor_of_8 c 0x55 small (omega arith)))

-- ---- the middle by masks and shifts

abbrev by_parts : ℕ → ℕ → ℕ
by_parts s j = cond (eqb s 0) (j * 16 + 8) ((j * 16 + 264) * 2 ^ (s - 1))

parts : (a : ℕ) → by_parts (bit_and (a / 16) 7) (bit_and a 15) ≡ alaw_middle a
unfolding alaw_middle
parts a = ap (λ s. by_parts s (bit_and a 15)) (and_mask (a / 16) 3) ∙ ap (by_parts (a / 16 % 8)) (and_mask a 4)

pub first_segment : (a : ℕ) → bit_and (a / 16) 7 ≡ 0 → bit_and a 15 * 16 + 8 ≡ alaw_middle a
first_segment a e = sym (ap (λ t. cond t (bit_and a 15 * 16 + 8) ((bit_and a 15 * 16 + 264) * 2 ^ (bit_and (a / 16) 7 - 1))) (eq-eqb _ _ e)) ∙ parts a

pub later_segment : (a : ℕ) → a < 256 → ¬ (bit_and (a / 16) 7 ≡ 0) → (bit_and a 15 * 16 + 264) * 2 ^ (bit_and (a / 16) 7 - 1) % 65536 ≡ alaw_middle a
later_segment a l other =
    let whole : (bit_and a 15 * 16 + 264) * 2 ^ (bit_and (a / 16) 7 - 1) ≡ alaw_middle a =
    sym (ap (λ t. cond t (bit_and a 15 * 16 + 8) ((bit_and a 15 * 16 + 264) * 2 ^ (bit_and (a / 16) 7 - 1))) (ne_eqb _ _ other)) ∙ parts a in
    ap (λ n. n % 65536) whole ∙ omega (arith, middle_range a l)

-- ---- the code by a step and a sign

pub small : (m : ℕ) → m < 32768 → compressed 7 (m / 16) < 128
small m l = top m l

pub encoded : (x : ℤ) (r s : ℕ) → alaw_magnitude x < 32768 → r ≡ compressed 7 (alaw_magnitude x / 16) → s ≡ cond (is_negative x) 0 128 → bit_xor (r + s) 0x55 ≡ alaw_code x
unfolding alaw_code alaw_step
encoded x r s l p q =
    let e : r + s ≡ step_number alaw_thresholds (alaw_magnitude x) + cond (is_negative x) 0 128 = omega (arith, step_is (alaw_magnitude x) l) in
    ap (λ n. bit_xor n 0x55) e

pub code_below : (x : ℤ) → alaw_code x < 256
code_below (pos m) = subst (λ c. c < 256) (sym (code_pos m)) (xor_of_8 (step_number alaw_thresholds m + 128) 0x55 (omega (arith, step_below m)) (omega arith))
code_below (negsuc m) = subst (λ c. c < 256) (sym (code_negsuc m)) (xor_of_8 (step_number alaw_thresholds m) 0x55 (omega (arith, step_below m)) (omega arith))

pub value_fits : (c : ℕ) → c < 256 → FitsSigned w16 (alaw_value c)
value_fits c l =
    let range = middle_range (bit_xor c 0x55) (xor_of_8 c 0x55 l (omega arith)) in
    elim (cases_lt (bit_xor c 0x55) 128) [
      | inl low ↦ omega (arith, ints, value_low c low)
      | inr high ↦ omega (arith, ints, value_high c l high)
    ]
