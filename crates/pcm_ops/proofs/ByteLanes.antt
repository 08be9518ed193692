-- Samples and their bytes, sixteen at a time.
use Rattle.std.proofs.Common.{◌≡◌, ℕ, zero, suc, ◌+◌, ◌*◌, ◌/◌, ◌%◌, ◌<◌, List, [], ◌∷◌, map, length, refl, ap, ◌∙◌, arith, ℤ, to_z, of_z, Fits, FitsSigned, w8, w16}
use Rattle.std.proofs.Math.Facts.{Fits-of_z}
use lib.Lanes.{Each1, number_l, digits_l}
use Rattle.pcm_ops.specs.Samples.{samples, bytes}
use Rattle.pcm_ops.proofs.Maps.{cons_same}
use Rattle.pcm_ops.proofs.ByteOrder.{twice}

-- the number that bytes spell has the samples for its digits of 16 bits
pub sample_digits : (n : ℕ) (bs : List ℕ) → length bs ≡ twice n → Each1 (Fits w8) bs → map (to_z w16) (digits_l 65536 n (number_l 256 bs)) ≡ samples bs
unfolding samples
sample_digits zero [] e h = refl
sample_digits zero (b ∷ bs) e h = absurd (omega arith)
sample_digits (suc n) [] e h = absurd (omega arith)
sample_digits (suc n) (a ∷ []) e h = absurd (omega arith)
sample_digits (suc n) (a ∷ b ∷ bs) e h =
    let small : a < 256 = h.0.fits in
    let small' : b < 256 = h.1.0.fits in
    let rest = number_l 256 bs in
    let low : (a + 256 * (b + 256 * rest)) % 65536 ≡ a + 256 * b = omega arith in
    let high : (a + 256 * (b + 256 * rest)) / 65536 ≡ rest = omega arith in
    cons_same _ _ _ _ (ap (to_z w16) low) (ap (λ x. map (to_z w16) (digits_l 65536 n x)) high ∙ sample_digits n bs (omega arith) h.1.1)

-- and the other way round
pub byte_digits : (n : ℕ) (xs : List ℤ) → length xs ≡ n → Each1 (FitsSigned w16) xs → digits_l 256 (twice n) (number_l 65536 (map (of_z w16) xs)) ≡ bytes xs
unfolding bytes
byte_digits zero [] e h = refl
byte_digits zero (x ∷ xs) e h = absurd (omega arith)
byte_digits (suc n) [] e h = absurd (omega arith)
byte_digits (suc n) (x ∷ xs) e h =
    let y = of_z w16 x in
    let small : y < 65536 = (Fits-of_z {w = w16} {z = x} h.0).fits in
    let rest = number_l 65536 (map (of_z w16) xs) in
    let low : (y + 65536 * rest) % 256 ≡ y % 256 = omega arith in
    let high : (y + 65536 * rest) / 256 % 256 ≡ y / 256 = omega arith in
    let others : (y + 65536 * rest) / 256 / 256 ≡ rest = omega arith in
    cons_same _ _ _ _ low (cons_same _ _ _ _ high (ap (digits_l 256 (twice n)) others ∙ byte_digits n xs (omega arith) h.1))
