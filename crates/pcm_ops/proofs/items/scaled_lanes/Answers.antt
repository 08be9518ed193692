use Rattle.std.proofs.Common.{◌≡◌, ℕ, ◌<◌, ◌≤◌, List, map, length, replicate, ap, ◌∙◌, sym, subst, ℤ, ◌*ℤ◌, FitsSigned, to_z, of_z, w16, w32}
use Rattle.std.proofs.lemmas.List.{length-map}
use Rattle.std.specs.Prelude.{unsigned_abs}
use lib.Lanes.{zip2, Each1, Each2}
use Rattle.pcm_ops.specs.Samples.{scaled}
use Rattle.pcm_ops.proofs.Maps.{map_again, map_where, each_map, zip_splat, each_splat}
use Rattle.pcm_ops.proofs.Scaling.{scaled_size}
use Rattle.pcm_ops.proofs.Bits.{widened, times, shifted, product_asks, scaled_by_bits}
use Rattle.pcm_ops.proofs.items.scaled_lanes.Goals as goal

abbrev asks : ℕ → ℕ → Type 0
asks a b = FitsSigned w32 (to_z w32 a *ℤ to_z w32 b)

pub overflow_mul-result : goal.overflow_mul-result
overflow_mul-result c =
    let x = c.args.x in
    let k = c.args.factor in
    subst (λ l. Each2 asks l (replicate 16 k)) (sym (map_again widened (of_z w16) x))
    (each_splat (FitsSigned w16) asks (λ z. widened (of_z w16 z)) k 16 x c.requires.len c.requires.fits (λ z f. product_asks k z c.ranges.factor.fits f))

module _ (x : List ℤ) (k : ℕ) (small : k < 65536) (len : length x ≡ 16) (fits : Each1 (FitsSigned w16) x) where
  values : map (to_z w32) (zip2 shifted (zip2 times (map widened (map (of_z w16) x)) (replicate 16 k)) (replicate 16 12)) ≡ map (scaled k) x
  values =
      ap (λ l. map (to_z w32) (zip2 shifted (zip2 times l (replicate 16 k)) (replicate 16 12))) (map_again widened (of_z w16) x)
      ∙ ap (λ l. map (to_z w32) (zip2 shifted l (replicate 16 12))) (zip_splat times k 16 (map (λ z. widened (of_z w16 z)) x) (length-map x (λ z. widened (of_z w16 z)) ∙ len) ∙ map_again (λ a. times a k) (λ z. widened (of_z w16 z)) x)
      ∙ ap (map (to_z w32)) (zip_splat shifted 12 16 (map (λ z. times (widened (of_z w16 z)) k) x) (length-map x (λ z. times (widened (of_z w16 z)) k) ∙ len) ∙ map_again (λ a. shifted a 12) (λ z. times (widened (of_z w16 z)) k) x)
      ∙ map_again (to_z w32) (λ z. shifted (times (widened (of_z w16 z)) k) 12) x
      ∙ map_where (FitsSigned w16) (λ z. to_z w32 (shifted (times (widened (of_z w16 z)) k) 12)) (scaled k) x fits (λ z f. scaled_by_bits k z small f)

pub returns-clause-value : goal.returns-clause-value
returns-clause-value c = values c.args.x c.args.factor c.ranges.factor.fits c.requires.len c.requires.fits

pub returns-clause-small : goal.returns-clause-small
returns-clause-small c =
    subst (Each1 (λ z. unsigned_abs z ≤ 524280)) (sym (returns-clause-value c))
    (each_map (FitsSigned w16) (λ z. unsigned_abs z ≤ 524280) (scaled c.args.factor) c.args.x c.requires.fits (λ z f. scaled_size c.args.factor z c.ranges.factor.fits f))
