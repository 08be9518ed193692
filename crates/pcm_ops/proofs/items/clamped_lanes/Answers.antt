use Rattle.std.proofs.Common.{◌≡◌, ℕ, zero, suc, List, [], ◌∷◌, map, length, replicate, ap, ◌∙◌, sym, subst, refl, arith, ℤ, FitsSigned, to_z, of_z, w16, w32}
use lib.Lanes.{zip2, sel_l, top, Each1}
use Rattle.pcm_ops.specs.Samples.{clamped}
use Rattle.pcm_ops.proofs.Maps.{map_again, map_where, each_map, cons_same}
use Rattle.pcm_ops.proofs.Scaling.{clamped_fits}
use Rattle.pcm_ops.proofs.Bits.{below_mask, between, narrowed, clamp_asks, clamped_by_bits}
use Rattle.pcm_ops.proofs.items.clamped_lanes.Goals as goal

abbrev greaters : ℕ → List ℤ → List ℕ
greaters n x = sel_l (map (top 31) (zip2 below_mask (map (of_z w32) x) (replicate n 4294934528))) (replicate n 4294934528) (map (of_z w32) x)

abbrev betweens : ℕ → List ℤ → List ℕ
betweens n x = sel_l (map (top 31) (zip2 below_mask (greaters n x) (replicate n 32767))) (greaters n x) (replicate n 32767)

betweens_is : (n : ℕ) (x : List ℤ) → length x ≡ n → betweens n x ≡ map (λ z. between (of_z w32 z)) x
betweens_is zero [] e = refl
betweens_is zero (z ∷ zs) e = absurd (omega arith)
betweens_is (suc n) [] e = absurd (omega arith)
betweens_is (suc n) (z ∷ zs) e = cons_same _ _ _ _ refl (betweens_is n zs (omega arith))

pub overflow_cast-result : goal.overflow_cast-result
overflow_cast-result c =
    let x = c.args.x in
    subst (Each1 (λ a. FitsSigned w16 (to_z w32 a))) (sym (betweens_is 16 x c.requires.len))
    (each_map (FitsSigned w32) (λ a. FitsSigned w16 (to_z w32 a)) (λ z. between (of_z w32 z)) x c.requires.fits clamp_asks)

pub returns-clause-value : goal.returns-clause-value
returns-clause-value c =
    let x = c.args.x in
    ap (λ l. map (to_z w16) (map narrowed l)) (betweens_is 16 x c.requires.len)
    ∙ ap (map (to_z w16)) (map_again narrowed (λ z. between (of_z w32 z)) x)
    ∙ map_again (to_z w16) (λ z. narrowed (between (of_z w32 z))) x
    ∙ map_where (FitsSigned w32) (λ z. to_z w16 (narrowed (between (of_z w32 z)))) clamped x c.requires.fits clamped_by_bits

pub returns-clause-fits : goal.returns-clause-fits
returns-clause-fits c =
    subst (Each1 (FitsSigned w16)) (sym (returns-clause-value c)) (each_map (FitsSigned w32) (FitsSigned w16) clamped c.args.x c.requires.fits (λ z f. clamped_fits z))
