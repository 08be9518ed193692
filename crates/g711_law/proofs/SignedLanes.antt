-- Vectors of samples, which the operations see by their bits.
use Rattle.std.proofs.Common.{◌≡◌, ℕ, zero, suc, ◌+◌, ◌-◌, ◌%◌, ◌^◌, ◌<◌, ◌≤◌, Bool, true, false, cond, List, [], ◌∷◌, map, length, replicate, refl, sym, ap, subst, ◌∙◌, arith, ℤ, pos, to_z, of_z, FitsSigned, w16}
use Rattle.std.proofs.lemmas.Int.{to_z-of_z, to_z_pos}
use Rattle.std.specs.Int.{is_negative}
use lib.IntN.{negsuc, nat_abs, neg_ℤ}
use Rattle.g711_law.proofs.Signs.{neg_is}
use lib.Signed.{lt_z, non_neg}
use lib.Lanes.{zip2, sel_l, top, Each1}
use Rattle.g711_law.specs.Alaw.{alaw_magnitude}
use Rattle.g711_law.proofs.CurveLanes.{ap2}
use Rattle.pcm_ops.proofs.Maps.{each_map}
use mir.Val.{Fits}
use lib.Dec.{T}

-- ---- the bits of a sample

abbrev pub below_mask : ℕ → ℕ → ℕ
below_mask a b = cond (lt_z (to_z w16 a) (to_z w16 b)) 65535 0

pub bits_of_negsuc : (n : ℕ) → n < 32768 → to_z w16 (65535 - n) ≡ negsuc n
bits_of_negsuc n l =
    let e : 65535 - n ≡ 2 ^ 16 - suc n = omega arith in
    let f : FitsSigned w16 (negsuc n) = record { sfits = l } in
    ap (to_z w16) e ∙ to_z-of_z w16 (negsuc n) f

-- ---- one of two numbers by the sign

sign_lane : (t : Bool) (m n : ℕ) → cond (top 15 (cond t 65535 0)) m n ≡ cond t m n
sign_lane true m n = refl
sign_lane false m n = refl

pub by_sign_is : (m n k : ℕ) (x : List ℤ) → length x ≡ k → Each1 (FitsSigned w16) x
    → sel_l (map (top 15) (zip2 below_mask (map (of_z w16) x) (replicate k 0))) (replicate k m) (replicate k n) ≡ map (λ y. cond (is_negative y) m n) x
by_sign_is m n zero [] e h = refl
by_sign_is m n zero (y ∷ ys) e h = absurd (omega arith)
by_sign_is m n (suc k) [] e h = absurd (omega arith)
by_sign_is m n (suc k) (y ∷ ys) e h =
    ap2 (sign_lane (lt_z (to_z w16 (of_z w16 y)) (pos 0)) m n ∙ ap (λ z. cond (is_negative z) m n) (to_z-of_z w16 y h.0)) (by_sign_is m n k ys (omega arith) h.1)

-- ---- A-law's magnitude: the greater of a sample and its bits inverted

abbrev flip : ℕ → ℕ
flip a = 65535 - a

abbrev greater_bits : ℕ → ℕ → ℕ
greater_bits a b = cond (top 15 (below_mask a b)) b a

pub fold_lane : (x : ℤ) → FitsSigned w16 x → (greater_bits (of_z w16 x) (65535 - of_z w16 x) ≡ alaw_magnitude x) × (alaw_magnitude x < 32768)
fold_lane (pos n) h =
    let small : n < 32768 = h.sfits in
    let e : cond (top 15 (cond (lt_z (to_z w16 n) (to_z w16 (65535 - n))) 65535 0)) (65535 - n) n ≡ cond (top 15 (cond (lt_z (pos n) (negsuc n)) 65535 0)) (65535 - n) n =
    ap (λ z. cond (top 15 (cond (lt_z z (to_z w16 (65535 - n))) 65535 0)) (65535 - n) n) (to_z_pos w16 n small)
    ∙ ap (λ z. cond (top 15 (cond (lt_z (pos n) z) 65535 0)) (65535 - n) n) (bits_of_negsuc n small) in
    (e, small)
fold_lane (negsuc n) h =
    let small : n < 32768 = h.sfits in
    let e : 65535 - (2 ^ 16 - suc n) ≡ n = omega arith in
    let here = λ (y z : ℤ) (k m : ℕ). cond (top 15 (cond (lt_z y z) 65535 0)) k m in (
      ap (λ y. here y (to_z w16 (65535 - (2 ^ 16 - suc n))) (65535 - (2 ^ 16 - suc n)) (2 ^ 16 - suc n)) (to_z-of_z w16 (negsuc n) h)
          ∙ ap (λ k. here (negsuc n) (to_z w16 k) k (2 ^ 16 - suc n)) e
          ∙ ap (λ z. here (negsuc n) z n (2 ^ 16 - suc n)) (to_z_pos w16 n small),
      small,
    )

abbrev pub folded : List ℤ → List ℕ
folded x = sel_l (map (top 15) (zip2 below_mask (map (of_z w16) x) (map flip (map (of_z w16) x)))) (map flip (map (of_z w16) x)) (map (of_z w16) x)

pub folded_is : (x : List ℤ) → Each1 (FitsSigned w16) x → folded x ≡ map alaw_magnitude x
folded_is [] h = refl
folded_is (y ∷ ys) h = ap2 (fold_lane y h.0).0 (folded_is ys h.1)

pub folded_small : (x : List ℤ) → Each1 (FitsSigned w16) x → Each1 (λ m. m < 32768) (map alaw_magnitude x)
folded_small x h = each_map (FitsSigned w16) (λ m. m < 32768) alaw_magnitude x h (λ y f. (fold_lane y f).1)

-- a number that fits without a sign bit keeps its value through a cast either way
pub cast_asks : (m : ℕ) → m < 32768 → T (non_neg (to_z w16 m)) × Fits w16 (nat_abs (to_z w16 m))
cast_asks m l =
    let f : Fits w16 m = record { fits = omega arith } in
    subst (λ z. T (non_neg z) × Fits w16 (nat_abs z)) (sym (to_z_pos w16 m l)) (tt, f)

pub cast_is : (m : ℕ) → m < 32768 → nat_abs (to_z w16 m) ≡ m
cast_is m l = ap nat_abs (to_z_pos w16 m l)

-- the bits of 0 less a number
pub negated : (m : ℕ) → 0 < m → m ≤ 32767 → to_z w16 ((0 + (2 ^ 16 - m)) % 2 ^ 16) ≡ neg_ℤ (pos m)
negated m l h =
    let e : (0 + (2 ^ 16 - m)) % 2 ^ 16 ≡ 65535 - (m - 1) = omega arith in
    ap (to_z w16) e ∙ bits_of_negsuc (m - 1) (omega arith) ∙ sym (neg_is m l)

pub negated_any : (m : ℕ) → m ≤ 32767 → to_z w16 ((0 + (2 ^ 16 - m)) % 2 ^ 16) ≡ neg_ℤ (pos m)
negated_any zero h = to_z_pos w16 0 (omega arith)
negated_any (suc m) h = negated (suc m) (omega arith) h
