use Rattle.std.proofs.Common.{◌≡◌, ℕ, min, cond, map, replicate, ap, ◌∙◌, sym, subst, arith, ℤ, pos, FitsSigned, w16}
use Rattle.std.proofs.lemmas.List.{length-map}
use lib.IntN.{negsuc}
use lib.Lanes.{zip2, Each1}
use Rattle.std.specs.Int.{is_negative}
use Rattle.g711_law.specs.Alaw.{alaw_magnitude}
use Rattle.g711_law.specs.Mulaw.{mulaw_magnitude}
use Rattle.g711_law.proofs.Signs.{not_negative}
use Rattle.pcm_ops.proofs.Maps.{map_again, map_where, zip_splat, zip_maps}
use Rattle.pcm_ops.proofs.Bits.{passed}
use Rattle.g711_law.proofs.SignedLanes.{fold_lane}
use Rattle.g711_law.proofs.CurveLanes.{plus}
use Rattle.g711_law.proofs.mulaw.mulaw_magnitudes.Goals as goal

abbrev one : ℤ → ℕ
one y = cond (is_negative y) 1 0

lane : (y : ℤ) → FitsSigned w16 y → min (plus (alaw_magnitude y) (one y)) 32635 ≡ mulaw_magnitude y
lane (pos n) f =
    let l = (fold_lane (pos n) f).1 in
    ap (λ b. min (plus n (cond b 1 0)) 32635) (not_negative n) ∙ omega arith
lane (negsuc n) f = let l = (fold_lane (negsuc n) f).1 in omega arith

pub alaw_magnitudes-requires-clause-fits : goal.alaw_magnitudes-requires-clause-fits
alaw_magnitudes-requires-clause-fits c = subst (Each1 (FitsSigned w16)) (sym (passed c.args.x c.requires.fits)) c.requires.fits

pub by_sign-requires-clause-fits : goal.by_sign-requires-clause-fits
by_sign-requires-clause-fits c = subst (Each1 (FitsSigned w16)) (sym (passed c.args.x c.requires.fits)) c.requires.fits

pub returns : goal.returns
returns c =
    let x = c.args.x in
    let fits = c.requires.fits in
    let m = c.alaw_magnitudes.ensures ∙ ap (map alaw_magnitude) (passed x fits) in
    let g = c.by_sign.ensures ∙ ap (map one) (passed x fits) in
    let sums : zip2 plus c.alaw_magnitudes.result c.by_sign.result ≡ map (λ y. plus (alaw_magnitude y) (one y)) x =
    ap (λ l. zip2 plus l c.by_sign.result) m ∙ ap (zip2 plus (map alaw_magnitude x)) g ∙ zip_maps plus alaw_magnitude one x in
    c.lesser.ensures
    ∙ ap (λ l. zip2 min l (replicate 16 32635)) sums
    ∙ zip_splat min 32635 16 (map (λ y. plus (alaw_magnitude y) (one y)) x) (length-map x (λ y. plus (alaw_magnitude y) (one y)) ∙ c.requires.len)
    ∙ map_again (λ k. min k 32635) (λ y. plus (alaw_magnitude y) (one y)) x
    ∙ map_where (FitsSigned w16) (λ y. min (plus (alaw_magnitude y) (one y)) 32635) mulaw_magnitude x fits lane
