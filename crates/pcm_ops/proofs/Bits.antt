-- The operations on the bits of samples and sums, as one lane or one number has them.
use Rattle.std.proofs.Common.{◌≡◌, ℕ, ◌^◌, ◌<◌, Bool, true, false, cond, List, map, refl, sym, ap, subst, ◌∙◌, arith, ℤ, pos, ◌*ℤ◌, to_z, of_z, FitsSigned, w16, w32}
use Rattle.std.proofs.lemmas.Int.{ints, clamps, to_z-of_z, to_z_pos, fits_signed_from_abs}
use Rattle.std.specs.Int.{int_min, int_max}
use lib.IntN.{negsuc}
use lib.Signed.{shr_z, lt_z}
use lib.Lanes.{top, Each1}
use Rattle.pcm_ops.specs.Samples.{scaled, clamped, gained}
use Rattle.pcm_ops.proofs.Scaling.{size_of_sample, product_fits, scaled_is, scaled_fits, clamped_fits}
use Rattle.pcm_ops.proofs.Maps.{map_again, map_itself, each_map}

pub passed : (x : List ℤ) → Each1 (FitsSigned w16) x → map (to_z w16) (map (of_z w16) x) ≡ x
passed x h = map_again (to_z w16) (of_z w16) x ∙ map_itself (FitsSigned w16) (λ z. to_z w16 (of_z w16 z)) x h (to_z-of_z w16)

pub passed_sums : (x : List ℤ) → Each1 (FitsSigned w32) x → map (to_z w32) (map (of_z w32) x) ≡ x
passed_sums x h = map_again (to_z w32) (of_z w32) x ∙ map_itself (FitsSigned w32) (λ z. to_z w32 (of_z w32 z)) x h (to_z-of_z w32)

pub passed_fit : (x : List ℤ) → Each1 (FitsSigned w16) x → Each1 (FitsSigned w16) (map (to_z w16) (map (of_z w16) x))
passed_fit x h = subst (Each1 (FitsSigned w16)) (sym (passed x h)) h

pub passed_sums_fit : (x : List ℤ) → Each1 (FitsSigned w32) x → Each1 (FitsSigned w32) (map (to_z w32) (map (of_z w32) x))
passed_sums_fit x h = subst (Each1 (FitsSigned w32)) (sym (passed_sums x h)) h

pub wider : (x : ℤ) → FitsSigned w16 x → FitsSigned w32 x
wider x f = fits_signed_from_abs w32 x (omega (arith, size_of_sample x f))

-- ---- scaling

abbrev pub widened : ℕ → ℕ
widened a = of_z w32 (to_z w16 a)

abbrev pub times : ℕ → ℕ → ℕ
times a b = of_z w32 (to_z w32 a *ℤ to_z w32 b)

abbrev pub shifted : ℕ → ℕ → ℕ
shifted a b = of_z w32 (shr_z (to_z w32 a) (2 ^ b))

product_by_bits : (k : ℕ) (x : ℤ) → k < 65536 → FitsSigned w16 x → to_z w32 (widened (of_z w16 x)) *ℤ to_z w32 k ≡ x *ℤ pos k
product_by_bits k x l f =
    ap (λ z. to_z w32 (of_z w32 z) *ℤ to_z w32 k) (to_z-of_z w16 x f)
    ∙ ap (λ z. z *ℤ to_z w32 k) (to_z-of_z w32 x (wider x f))
    ∙ ap (λ z. x *ℤ z) (to_z_pos w32 k (omega arith))

pub product_asks : (k : ℕ) (x : ℤ) → k < 65536 → FitsSigned w16 x → FitsSigned w32 (to_z w32 (widened (of_z w16 x)) *ℤ to_z w32 k)
product_asks k x l f = subst (FitsSigned w32) (sym (product_by_bits k x l f)) (product_fits k x l f)

pub scaled_by_bits : (k : ℕ) (x : ℤ) → k < 65536 → FitsSigned w16 x → to_z w32 (shifted (times (widened (of_z w16 x)) k) 12) ≡ scaled k x
scaled_by_bits k x l f =
    ap (λ z. to_z w32 (of_z w32 (shr_z (to_z w32 (of_z w32 z)) 4096))) (product_by_bits k x l f)
    ∙ ap (λ z. to_z w32 (of_z w32 (shr_z z 4096))) (to_z-of_z w32 (x *ℤ pos k) (product_fits k x l f))
    ∙ ap (λ z. to_z w32 (of_z w32 z)) (scaled_is k x)
    ∙ to_z-of_z w32 (scaled k x) (scaled_fits k x l f)

-- ---- clamping

abbrev pub below_mask : ℕ → ℕ → ℕ
below_mask a b = cond (lt_z (to_z w32 a) (to_z w32 b)) 4294967295 0

abbrev pub greater : ℕ → ℕ → ℕ
greater a b = cond (top 31 (below_mask a b)) b a

abbrev pub lesser : ℕ → ℕ → ℕ
lesser a b = cond (top 31 (below_mask a b)) a b

greater_by : (t : Bool) (x : ℤ) → FitsSigned w32 x → lt_z x (negsuc 32767) ≡ t → to_z w32 (cond (top 31 (cond t 4294967295 0)) 4294934528 (of_z w32 x)) ≡ int_max x (negsuc 32767)
greater_by true x f e = grind (arith, ints, clamps)
greater_by false x f e = to_z-of_z w32 x f ∙ at_least x e
  where
    at_least : (y : ℤ) → lt_z y (negsuc 32767) ≡ false → y ≡ int_max y (negsuc 32767)
    at_least y p = grind (arith, ints, clamps)

pub greater_is : (x : ℤ) → FitsSigned w32 x → to_z w32 (greater (of_z w32 x) 4294934528) ≡ int_max x (negsuc 32767)
greater_is x f =
    ap (λ z. to_z w32 (cond (top 31 (cond (lt_z z (negsuc 32767)) 4294967295 0)) 4294934528 (of_z w32 x))) (to_z-of_z w32 x f)
    ∙ greater_by (lt_z x (negsuc 32767)) x f refl

lesser_by : (t : Bool) (a : ℕ) (y : ℤ) → to_z w32 a ≡ y → lt_z y (pos 32767) ≡ t → to_z w32 (cond (top 31 (cond t 4294967295 0)) a 32767) ≡ int_min y (pos 32767)
lesser_by true a y p e = p ∙ below y e
  where
    below : (z : ℤ) → lt_z z (pos 32767) ≡ true → z ≡ int_min z (pos 32767)
    below z q = grind (arith, ints, clamps)
lesser_by false a y p e = above y e
  where
    above : (z : ℤ) → lt_z z (pos 32767) ≡ false → pos 32767 ≡ int_min z (pos 32767)
    above z q = grind (arith, ints, clamps)

lesser_is : (a : ℕ) (y : ℤ) → to_z w32 a ≡ y → to_z w32 (lesser a 32767) ≡ int_min y (pos 32767)
lesser_is a y p =
    ap (λ z. to_z w32 (cond (top 31 (cond (lt_z z (pos 32767)) 4294967295 0)) a 32767)) p
    ∙ lesser_by (lt_z y (pos 32767)) a y p refl

abbrev pub between : ℕ → ℕ
between a = lesser (greater a 4294934528) 32767

pub between_is : (x : ℤ) → FitsSigned w32 x → to_z w32 (between (of_z w32 x)) ≡ clamped x
unfolding clamped
between_is x f = lesser_is (greater (of_z w32 x) 4294934528) (int_max x (negsuc 32767)) (greater_is x f)

pub clamp_asks : (x : ℤ) → FitsSigned w32 x → FitsSigned w16 (to_z w32 (between (of_z w32 x)))
clamp_asks x f = subst (FitsSigned w16) (sym (between_is x f)) (clamped_fits x)

abbrev pub narrowed : ℕ → ℕ
narrowed a = of_z w16 (to_z w32 a)

pub clamped_by_bits : (x : ℤ) → FitsSigned w32 x → to_z w16 (narrowed (between (of_z w32 x))) ≡ clamped x
clamped_by_bits x f = ap (λ z. to_z w16 (of_z w16 z)) (between_is x f) ∙ to_z-of_z w16 (clamped x) (clamped_fits x)

-- ---- a gain of lanes, and of one sample

pub scaled_passed : (k : ℕ) (x : List ℤ) (s : List ℤ) → k < 65536 → Each1 (FitsSigned w16) x → s ≡ map (scaled k) (map (to_z w16) (map (of_z w16) x))
    → (s ≡ map (scaled k) x) × Each1 (FitsSigned w32) s
scaled_passed k x s l h e =
    let is = e ∙ ap (map (scaled k)) (passed x h) in
    (is, subst (Each1 (FitsSigned w32)) (sym is) (each_map (FitsSigned w16) (FitsSigned w32) (scaled k) x h (λ z f. scaled_fits k z l f)))

pub gained_lanes : (k : ℕ) (x s r : List ℤ) → k < 65536 → Each1 (FitsSigned w16) x → s ≡ map (scaled k) (map (to_z w16) (map (of_z w16) x))
    → r ≡ map clamped (map (to_z w32) (map (of_z w32) s)) → r ≡ map (gained k) x
unfolding gained
gained_lanes k x s r l h p q =
    let is = scaled_passed k x s l h p in
    q ∙ ap (map clamped) (passed_sums s is.1 ∙ is.0) ∙ map_again clamped (scaled k) x

pub gained_item : (k : ℕ) (x s r : ℤ) → k < 65536 → FitsSigned w16 x → s ≡ scaled k (to_z w16 (of_z w16 x)) → r ≡ clamped (to_z w32 (of_z w32 s)) → r ≡ gained k x
unfolding gained
gained_item k x s r l f p q =
    let is = p ∙ ap (scaled k) (to_z-of_z w16 x f) in
    q ∙ ap (λ z. clamped (to_z w32 (of_z w32 z))) is ∙ ap clamped (to_z-of_z w32 (scaled k x) (scaled_fits k x l f))
