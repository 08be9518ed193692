-- What scaling, clamping and mixing make of a number, and in what range.
use Rattle.std.proofs.Common.{◌≡◌, ℕ, ◌*◌, ◌<◌, ◌≤◌, refl, sym, subst, arith, ℤ, pos, ◌*ℤ◌, FitsSigned, w16, w32}
use Rattle.std.proofs.Math.Nat.{mul-le-mul}
use Rattle.std.proofs.lemmas.Int.{ints, clamps, unsigned_abs-mul, fits_signed_from_abs}
use Rattle.std.specs.Int.{int_div_euclid}
use Rattle.std.specs.Prelude.{unsigned_abs}
use lib.IntN.{negsuc}
use lib.Signed.{shr_z}
use Rattle.pcm_ops.specs.Samples.{scaled, clamped}

pub size_of_sample : (x : ℤ) → FitsSigned w16 x → unsigned_abs x ≤ 32768
size_of_sample x f = omega (arith, ints)

pub product_size : (k : ℕ) (x : ℤ) → k < 65536 → FitsSigned w16 x → unsigned_abs (x *ℤ pos k) ≤ 2147450880
product_size k x l f =
    let below : k ≤ 65535 = omega arith in
    let most : unsigned_abs x * k ≤ 32768 * 65535 = mul-le-mul (size_of_sample x f) below in
    subst (λ n. n ≤ 2147450880) (sym (unsigned_abs-mul x (pos k))) most

pub product_fits : (k : ℕ) (x : ℤ) → k < 65536 → FitsSigned w16 x → FitsSigned w32 (x *ℤ pos k)
product_fits k x l f = fits_signed_from_abs w32 (x *ℤ pos k) (omega (arith, product_size k x l f))

-- a shift that copies the sign bit divides and rounds down
pub shift_is : (z : ℤ) → shr_z z 4096 ≡ int_div_euclid z (pos 4096)
shift_is (pos a) = refl
shift_is (negsuc a) = refl

shift_size : (z : ℤ) → unsigned_abs z ≤ 2147450880 → unsigned_abs (shr_z z 4096) ≤ 524280
shift_size (pos a) l = omega arith
shift_size (negsuc a) l = omega arith

pub scaled_is : (k : ℕ) (x : ℤ) → shr_z (x *ℤ pos k) 4096 ≡ scaled k x
unfolding scaled
scaled_is k x = shift_is (x *ℤ pos k)

pub scaled_size : (k : ℕ) (x : ℤ) → k < 65536 → FitsSigned w16 x → unsigned_abs (scaled k x) ≤ 524280
scaled_size k x l f = subst (λ z. unsigned_abs z ≤ 524280) (scaled_is k x) (shift_size (x *ℤ pos k) (product_size k x l f))

pub scaled_fits : (k : ℕ) (x : ℤ) → k < 65536 → FitsSigned w16 x → FitsSigned w32 (scaled k x)
scaled_fits k x l f = fits_signed_from_abs w32 (scaled k x) (omega (arith, scaled_size k x l f))

pub clamped_fits : (x : ℤ) → FitsSigned w16 (clamped x)
unfolding clamped
clamped_fits x = omega (arith, ints, clamps)
