-- mu-law: the step of a magnitude by the curve, the middle of a step, and the laws of the public functions.
use Rattle.std.proofs.Common.{◌≡◌, ℕ, zero, suc, ◌+◌, ◌-◌, ◌*◌, ◌/◌, ◌%◌, ◌^◌, ◌<◌, ◌≤◌, ◌↔◌, min, Bool, cond, eqb, leb, refl, ap, ◌∙◌, inl, inr, arith, subst, eqb→eq, ℤ, pos, ◌≤ℤ◌}
use lib.Bits.{bit_and}
use Rattle.std.proofs.lemmas.Nat.{and_mask}
use Rattle.std.proofs.lemmas.Int.{ints}
use Rattle.std.proofs.Common.{FitsSigned, w16}
use lib.IntN.{negsuc, neg_ℤ}
use lib.Dec.{leb→le}
use Rattle.std.specs.Int.{is_negative}
use Rattle.std.specs.Prelude.{unsigned_abs}
use Rattle.std.proofs.lemmas.Bool.{cases_lt}
use Rattle.g711_law.specs.Lines.{compressed, expanded}
use Rattle.g711_law.specs.Steps.{step_number, signed, AreWithin}
use Rattle.g711_law.specs.Mulaw.{mulaw_threshold, mulaw_thresholds, mulaw_magnitude, mulaw_step, mulaw_code, mulaw_middle, mulaw_value, mulaw_half_step}
use Rattle.g711_law.proofs.Tables.{every_below}
use Rattle.g711_law.proofs.Curves.{reach, reach_iff, compressed_rises, expanded_rises}
use Rattle.g711_law.proofs.Counts.{counted}
use Rattle.g711_law.proofs.Signs.{not_negative, neg_is, pos_rises, neg_falls, neg_le_pos, from_pos, from_negsuc, not_pos_le_negsuc, apart_pos, apart_negsuc}

-- the magnitude that a code of step n stands for
abbrev pub level : ℕ → ℕ
level n = (n % 16 * 8 + 132) * 2 ^ (n / 16) - 132

-- ---- what the checker computes at each step

abbrev threshold_ok : ℕ → Bool
threshold_ok n = eqb (mulaw_threshold (n + 1) + 132) (8 * reach 7 (n + 17))

threshold_before : (n : ℕ) → n < 127 → mulaw_threshold (n + 1) + 132 ≡ 8 * reach 7 (n + 17)
unfolding mulaw_threshold
threshold_before n l = eqb→eq _ _ (every_below threshold_ok 127 tt n l)

threshold_is : (n : ℕ) → 0 < n → n < 128 → mulaw_threshold n + 132 ≡ 8 * reach 7 (n + 16)
threshold_is zero p l = absurd (omega arith)
threshold_is (suc n) p l =
    let e : n + 1 ≡ suc n = omega arith in
    subst (λ k. mulaw_threshold k + 132 ≡ 8 * reach 7 (k + 16)) e (threshold_before n (omega arith) ∙ ap (λ k. 8 * reach 7 k) (omega arith))

abbrev half : ℕ → ℕ
half n = mulaw_half_step (n / 16)

abbrev lower_ok : ℕ → Bool
lower_ok n = eqb (8 * reach 7 (n + 16) + half n) (level n + 132)

lower_is : (n : ℕ) → n < 128 → 8 * reach 7 (n + 16) + half n ≡ level n + 132
lower_is n l = eqb→eq _ _ (every_below lower_ok 128 tt n l)

abbrev upper_ok : ℕ → Bool
upper_ok n = eqb (8 * reach 7 (n + 17)) (level n + 132 + half n)

upper_is : (n : ℕ) → n < 128 → 8 * reach 7 (n + 17) ≡ level n + 132 + half n
upper_is n l = eqb→eq _ _ (every_below upper_ok 128 tt n l)

abbrev level_ok : ℕ → Bool
level_ok n = eqb (level n + 132) (4 * expanded 7 (2 * n + 33))

pub level_is : (n : ℕ) → n < 128 → level n + 132 ≡ 4 * expanded 7 (2 * n + 33)
unfolding expanded
level_is n l = eqb→eq _ _ (every_below level_ok 128 tt n l)

-- ---- the step of a magnitude

first_thresholds : (m n : ℕ) → 0 < n → n < 128 → (mulaw_threshold n ≤ m) ↔ (n ≤ compressed 7 ((m + 132) / 8) - 16)
first_thresholds m n p l =
    let is = threshold_is n p l in
    let reached = reach_iff 7 (n + 16) ((m + 132) / 8) in
    (λ le. omega (arith, reached.0 (omega arith)), λ le. omega (arith, reached.1 (omega arith)))

step_any : (m : ℕ) → step_number mulaw_thresholds m ≡ min (compressed 7 ((m + 132) / 8) - 16) 127
unfolding mulaw_thresholds
step_any m = counted mulaw_threshold m (compressed 7 ((m + 132) / 8) - 16) 1 127 (λ n low high. first_thresholds m n (omega arith) (omega arith)) ∙ omega arith

top : (m : ℕ) → m ≤ 32635 → compressed 7 ((m + 132) / 8) < 144
top m l = elim (cases_lt (compressed 7 ((m + 132) / 8)) 144) [ inl below ↦ below | inr high ↦ absurd (omega (arith, (reach_iff 7 144 ((m + 132) / 8)).1 high)) ]

pub bottom : (m : ℕ) → 16 ≤ compressed 7 ((m + 132) / 8)
bottom m = (reach_iff 7 16 ((m + 132) / 8)).0 (omega arith)

pub step_is : (m : ℕ) → m ≤ 32635 → step_number mulaw_thresholds m ≡ compressed 7 ((m + 132) / 8) - 16
step_is m l = step_any m ∙ omega (arith, top m l)

pub step_below : (m : ℕ) → step_number mulaw_thresholds m < 128
step_below m = omega (arith, step_any m)

step_rises : (m n : ℕ) → m ≤ n → step_number mulaw_thresholds m ≤ step_number mulaw_thresholds n
step_rises m n l = omega (arith, step_any m, step_any n, compressed_rises 7 ((m + 132) / 8) ((n + 132) / 8) (omega arith))

level_rises : (i j : ℕ) → i ≤ j → j < 128 → level i ≤ level j
level_rises i j le l = omega (arith, level_is i (omega arith), level_is j l, expanded_rises 7 (2 * i + 33) (2 * j + 33) (omega arith))

-- the magnitude is in the step's half-open interval round its middle
middle : (m n : ℕ) → m ≤ 32635 → step_number mulaw_thresholds m ≡ n → (level n ≤ m + half n) × (m < level n + half n)
middle m n l e =
    let is : compressed 7 ((m + 132) / 8) ≡ n + 16 = omega (arith, bottom m, step_is m l) in
    let small : n < 128 = omega (arith, top m l) in
    let low = (reach_iff 7 (n + 16) ((m + 132) / 8)).1 (omega arith) in
    let high : (m + 132) / 8 < reach 7 (n + 17) = elim (cases_lt ((m + 132) / 8) (reach 7 (n + 17))) [ inl below ↦ below | inr le ↦ absurd (omega (arith, (reach_iff 7 (n + 17) ((m + 132) / 8)).0 le)) ] in
    (omega (arith, lower_is n small), omega (arith, upper_is n small))

-- ---- codes

pub middle_is : (u n : ℕ) → u / 16 % 8 ≡ n / 16 → u % 16 ≡ n % 16 → mulaw_middle u ≡ level n
unfolding mulaw_middle
middle_is u n q r =
    let by : ℕ → ℕ → ℕ = λ s j. (j * 8 + 132) * 2 ^ s - 132 in
    ap (λ s. by s (u % 16)) q ∙ ap (by (n / 16)) r

pub value_by : (u sign : ℕ) → u < 256 → u / 128 % 2 ≡ sign → mulaw_value (255 - u) ≡ signed (eqb sign 0) (mulaw_middle u)
unfolding mulaw_value
value_by u sign l p =
    let twice : 255 - (255 - u) ≡ u = omega arith in
    ap (λ b. signed (eqb (b / 128 % 2) 0) (mulaw_middle b)) twice ∙ ap (λ t. signed (eqb t 0) (mulaw_middle u)) p

pub value_plus : (n : ℕ) → n < 128 → mulaw_value (255 - n) ≡ pos (level n)
value_plus n l = value_by n 0 (omega arith) (omega arith) ∙ ap pos (middle_is n n (omega arith) refl)

pub value_minus : (n : ℕ) → n < 128 → mulaw_value (255 - (n + 128)) ≡ neg_ℤ (pos (level n))
value_minus n l = value_by (n + 128) 1 (omega arith) (omega arith) ∙ ap (λ m. neg_ℤ (pos m)) (middle_is (n + 128) n (omega arith) (omega arith))

abbrev cut : ℕ → ℕ
cut m = min m 32635

pub code_pos : (m : ℕ) → mulaw_code (pos m) ≡ 255 - step_number mulaw_thresholds (cut m)
unfolding mulaw_code mulaw_step
code_pos m = ap (λ b. 255 - (step_number mulaw_thresholds (cut m) + cond b 128 0)) (not_negative m) ∙ omega arith

pub code_negsuc : (m : ℕ) → mulaw_code (negsuc m) ≡ 255 - (step_number mulaw_thresholds (cut (suc m)) + 128)
unfolding mulaw_code mulaw_step
code_negsuc m = refl

decoded_pos : (m : ℕ) → mulaw_value (mulaw_code (pos m)) ≡ pos (level (step_number mulaw_thresholds (cut m)))
decoded_pos m = ap mulaw_value (code_pos m) ∙ value_plus _ (step_below (cut m))

decoded_negsuc : (m : ℕ) → mulaw_value (mulaw_code (negsuc m)) ≡ neg_ℤ (pos (level (step_number mulaw_thresholds (cut (suc m)))))
decoded_negsuc m = ap mulaw_value (code_negsuc m) ∙ value_minus _ (step_below (cut (suc m)))

-- ---- the laws

pub encode_rises : (x y : ℤ) → x ≤ℤ y → mulaw_value (mulaw_code x) ≤ℤ mulaw_value (mulaw_code y)
encode_rises (pos a) (pos b) l =
    let le = from_pos a b l in
    rw (decoded_pos a, decoded_pos b) (pos_rises _ _ (level_rises _ _ (step_rises (cut a) (cut b) (omega arith)) (step_below (cut b))))
encode_rises (pos a) (negsuc b) l = absurd (not_pos_le_negsuc a b l)
encode_rises (negsuc a) (pos b) l = rw (decoded_negsuc a, decoded_pos b) (neg_le_pos _ _)
encode_rises (negsuc a) (negsuc b) l =
    let le = from_negsuc a b l in
    rw (decoded_negsuc a, decoded_negsuc b) (neg_falls _ _ (level_rises _ _ (step_rises (cut (suc b)) (cut (suc a)) (omega arith)) (step_below (cut (suc a)))))

-- how far a magnitude is from the middle of its step
near_cut : (m n : ℕ) → m ≤ 32636 → step_number mulaw_thresholds (cut m) ≡ n → (m ≤ level n + half n) × (level n ≤ m + half n)
near_cut m n l e = let within = middle (cut m) n (omega arith) e in (omega (arith, within.1), omega (arith, within.0))

pub encode_near : (x : ℤ) → unsigned_abs x ≤ 32636 → AreWithin (half (mulaw_step x)) x (mulaw_value (mulaw_code x))
unfolding mulaw_step
encode_near (pos a) l =
    let n = step_number mulaw_thresholds (cut a) in
    let within = near_cut a n l refl in
    rw (decoded_pos a) (apart_pos a (level n) (half n) within.0 within.1)
encode_near (negsuc a) l =
    let n = step_number mulaw_thresholds (cut (suc a)) in
    let within = near_cut (suc a) n l refl in
    rw (decoded_negsuc a) (apart_negsuc a (level n) (half n) within.0 within.1)

abbrev narrow : ℕ → Bool
narrow n = leb (half n) 512

narrow_is : (n : ℕ) → n < 128 → half n ≤ 512
narrow_is n l = leb→le (half n) 512 (every_below narrow 128 tt n l)

abbrev low_enough : ℕ → Bool
low_enough n = leb (level n) 32124

low_is : (n : ℕ) → n < 128 → level n ≤ 32124
low_is n l = leb→le (level n) 32124 (every_below low_enough 128 tt n l)

far_cut : (m n : ℕ) → m ≤ 32768 → step_number mulaw_thresholds (cut m) ≡ n → (m ≤ level n + 644) × (level n ≤ m + 644)
far_cut m n l e =
    let small : n < 128 = omega (arith, step_below (cut m)) in
    let within = middle (cut m) n (omega arith) e in
    let width = narrow_is n small in
    let low = low_is n small in
    (omega (arith, within.1), omega (arith, within.0))

pub encode_far : (x : ℤ) → unsigned_abs x ≤ 32768 → AreWithin 644 x (mulaw_value (mulaw_code x))
encode_far (pos a) l =
    let n = step_number mulaw_thresholds (cut a) in
    let within = far_cut a n l refl in
    rw (decoded_pos a) (apart_pos a (level n) 644 within.0 within.1)
encode_far (negsuc a) l =
    let n = step_number mulaw_thresholds (cut (suc a)) in
    let within = far_cut (suc a) n l refl in
    rw (decoded_negsuc a) (apart_negsuc a (level n) 644 within.0 within.1)

abbrev back_ok : ℕ → Bool
back_ok n = eqb (compressed 7 ((level n + 132) / 8)) (n + 16)

-- the middle of a step is in the step
back : (n : ℕ) → n < 128 → step_number mulaw_thresholds (cut (level n)) ≡ n
unfolding compressed
back n l =
    let low = low_is n l in
    let whole : cut (level n) ≡ level n = omega arith in
    ap (step_number mulaw_thresholds) whole ∙ step_is (level n) (omega arith) ∙ omega (arith, eqb→eq (compressed 7 ((level n + 132) / 8)) (n + 16) (every_below back_ok 128 tt n l))

abbrev positive : ℕ → Bool
positive n = leb 1 (level (n + 1))

level_above : (n : ℕ) → 0 < n → n < 128 → 0 < level n
level_above zero p l = absurd (omega arith)
level_above (suc n) p l =
    let e : n + 1 ≡ suc n = omega arith in
    subst (λ k. 0 < level k) e (leb→le 1 (level (n + 1)) (every_below positive 127 tt n (omega arith)))

decode_encodes_from : (u : ℕ) → u < 256 → ¬ (u ≡ 128) → mulaw_code (mulaw_value (255 - u)) ≡ 255 - u
decode_encodes_from u l other = elim (cases_lt u 128) [
  | inl plus ↦
      ap mulaw_code (value_plus u plus) ∙ code_pos (level u) ∙ ap (λ n. 255 - n) (back u plus)
  | inr minus ↦
      let n = u - 128 in
      let e : n + 128 ≡ u = omega arith in
      let above = level_above n (omega arith) (omega arith) in
      let one : suc (level n - 1) ≡ level n = omega arith in
      subst (λ b. mulaw_code (mulaw_value (255 - b)) ≡ 255 - b) e
      (ap mulaw_code (value_minus n (omega arith) ∙ neg_is (level n) above) ∙ code_negsuc (level n - 1)
      ∙ ap (λ k. 255 - (step_number mulaw_thresholds (cut k) + 128)) one ∙ ap (λ k. 255 - (k + 128)) (back n (omega arith)))
]

pub decode_encodes : (c : ℕ) → c < 256 → ¬ (c ≡ 127) → mulaw_code (mulaw_value c) ≡ c
decode_encodes c l other =
    let e : 255 - (255 - c) ≡ c = omega arith in
    subst (λ d. mulaw_code (mulaw_value d) ≡ d) e (decode_encodes_from (255 - c) (omega arith) (λ q. other (omega arith)))

pub minus_zero : mulaw_code (mulaw_value 127) ≡ 255
minus_zero = ap mulaw_code (value_minus 0 (omega arith)) ∙ code_pos 0 ∙ ap (λ n. 255 - n) (back 0 (omega arith))

-- the middle of any code's step
pub middle_le : (u : ℕ) → u < 256 → mulaw_middle u ≤ 32124
middle_le u l =
    let is = middle_is u (u % 128) (omega arith) (omega arith) in
    let low = low_is (u % 128) (omega arith) in
    omega arith

pub value_low : (c : ℕ) → c < 256 → 255 - c < 128 → mulaw_value c ≡ pos (mulaw_middle (255 - c))
value_low c small l =
    let e : c ≡ 255 - (255 - c) = omega arith in
    ap mulaw_value e ∙ value_by (255 - c) 0 (omega arith) (omega arith)

pub value_high : (c : ℕ) → c < 256 → 128 ≤ 255 - c → mulaw_value c ≡ neg_ℤ (pos (mulaw_middle (255 - c)))
value_high c small l =
    let e : c ≡ 255 - (255 - c) = omega arith in
    ap mulaw_value e ∙ value_by (255 - c) 1 (omega arith) (omega arith)

-- ---- the middle by masks and shifts

abbrev by_parts : ℕ → ℕ → ℕ
by_parts s j = (j * 8 + 132) * 2 ^ s

parts : (u : ℕ) → by_parts (bit_and (u / 16) 7) (bit_and u 15) - 132 ≡ mulaw_middle u
unfolding mulaw_middle
parts u = ap (λ s. by_parts s (bit_and u 15) - 132) (and_mask (u / 16) 3) ∙ ap (λ j. by_parts (u / 16 % 8) j - 132) (and_mask u 4)

pub by_shift : (u : ℕ) → u < 256 → by_parts (bit_and (u / 16) 7) (bit_and u 15) % 65536 - 132 ≡ mulaw_middle u
by_shift u l = omega (arith, parts u, middle_le u l)

-- ---- the code by a step and a sign

pub small : (m : ℕ) → m ≤ 32635 → compressed 7 ((m + 132) / 8) < 144
small m l = top m l

pub encoded : (x : ℤ) (r s : ℕ) → r ≡ compressed 7 ((mulaw_magnitude x + 132) / 8) → s ≡ cond (is_negative x) 128 0 → 255 - (r - 16 + s) ≡ mulaw_code x
unfolding mulaw_code mulaw_step
encoded x r s p q = omega (arith, step_is (mulaw_magnitude x) (omega arith))

pub code_below : (x : ℤ) → mulaw_code x < 256
unfolding mulaw_code
code_below x = omega arith

pub value_fits : (c : ℕ) → c < 256 → FitsSigned w16 (mulaw_value c)
value_fits c l =
    let most = middle_le (255 - c) (omega arith) in
    elim (cases_lt (255 - c) 128) [
      | inl low ↦ omega (arith, ints, value_low c l low)
      | inr high ↦ omega (arith, ints, value_high c l high)
    ]
