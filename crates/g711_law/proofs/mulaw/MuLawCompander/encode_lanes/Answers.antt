use Rattle.std.proofs.Common.{◌≡◌, ℕ, ◌+◌, ◌-◌, ◌/◌, ◌<◌, cond, map, length, replicate, List, ap, ◌∙◌, sym, subst, arith, refl, ℤ, FitsSigned, to_z, of_z, w8, w16, Fits}
use Rattle.std.proofs.lemmas.List.{length-map}
use lib.Lanes.{zip2, Each1}
use Rattle.std.specs.Int.{is_negative}
use Rattle.g711_law.specs.Mulaw.{mulaw_magnitude, mulaw_code}
use Rattle.g711_law.specs.Lines.{compressed}
use Rattle.g711_law.proofs.MulawLaws.{encoded, small, bottom, code_below}
use Rattle.g711_law.proofs.Signs.{cond_le}
use Rattle.pcm_ops.proofs.Maps.{map_again, map_where, each_map, zip_splat, splat_zip, zip_maps}
use Rattle.pcm_ops.proofs.Bits.{passed}
use Rattle.g711_law.proofs.CurveLanes.{down, plus, less}
use Rattle.g711_law.proofs.mulaw.MuLawCompander.encode_lanes.Goals as goal

abbrev place : ℤ → ℕ
place y = down (plus (mulaw_magnitude y) 132) 3

abbrev step : ℤ → ℕ
step y = less (compressed 7 (place y)) 16

abbrev sign : ℤ → ℕ
sign y = cond (is_negative y) 128 0

place_is : (y : ℤ) → place y ≡ (mulaw_magnitude y + 132) / 8
place_is y = omega arith

lane : (y : ℤ) → less 255 (plus (step y) (sign y)) ≡ mulaw_code y
lane y =
    let q = (mulaw_magnitude y + 132) / 8 in
    let e : step y ≡ compressed 7 q - 16 =
    ap (λ k. less (compressed 7 k) 16) (place_is y) ∙ omega (arith, bottom (mulaw_magnitude y), small (mulaw_magnitude y) (omega arith)) in
    omega (arith, small (mulaw_magnitude y) (omega arith), encoded y (compressed 7 q) (sign y) refl refl, cond_le (is_negative y) 128 0 128 (omega arith) (omega arith))

-- the vectors on the way, each a function of the samples
module _ (x : List ℤ) (len : length x ≡ 16) (fits : Each1 (FitsSigned w16) x) where
  places : (m : List ℕ) → m ≡ map mulaw_magnitude (map (to_z w16) (map (of_z w16) x)) → zip2 down (zip2 plus m (replicate 16 132)) (replicate 16 3) ≡ map place x
  places m e =
      ap (λ l. zip2 down (zip2 plus l (replicate 16 132)) (replicate 16 3)) (e ∙ ap (map mulaw_magnitude) (passed x fits))
      ∙ ap (λ l. zip2 down l (replicate 16 3)) (zip_splat plus 132 16 (map mulaw_magnitude x) (length-map x mulaw_magnitude ∙ len) ∙ map_again (λ k. plus k 132) mulaw_magnitude x)
      ∙ zip_splat down 3 16 (map (λ y. plus (mulaw_magnitude y) 132) x) (length-map x (λ y. plus (mulaw_magnitude y) 132) ∙ len)
      ∙ map_again (λ k. down k 3) (λ y. plus (mulaw_magnitude y) 132) x

  coded : (m s g : List ℕ) → m ≡ map mulaw_magnitude (map (to_z w16) (map (of_z w16) x)) → s ≡ map (compressed 7) (zip2 down (zip2 plus m (replicate 16 132)) (replicate 16 3))
      → g ≡ map sign (map (to_z w16) (map (of_z w16) x)) → zip2 less (replicate 16 255) (zip2 plus (zip2 less s (replicate 16 16)) g) ≡ map mulaw_code x
  coded m s g p q r =
      let is : s ≡ map (λ y. compressed 7 (place y)) x = q ∙ ap (map (compressed 7)) (places m p) ∙ map_again (compressed 7) place x in
      let signs : g ≡ map sign x = r ∙ ap (map sign) (passed x fits) in
      let steps : zip2 less s (replicate 16 16) ≡ map step x =
      ap (λ l. zip2 less l (replicate 16 16)) is
      ∙ zip_splat less 16 16 (map (λ y. compressed 7 (place y)) x) (length-map x (λ y. compressed 7 (place y)) ∙ len)
      ∙ map_again (λ k. less k 16) (λ y. compressed 7 (place y)) x in
      ap (λ l. zip2 less (replicate 16 255) (zip2 plus l g)) steps
      ∙ ap (λ l. zip2 less (replicate 16 255) (zip2 plus (map step x) l)) signs
      ∙ ap (zip2 less (replicate 16 255)) (zip_maps plus step sign x)
      ∙ splat_zip less 255 16 (map (λ y. plus (step y) (sign y)) x) (length-map x (λ y. plus (step y) (sign y)) ∙ len)
      ∙ map_again (less 255) (λ y. plus (step y) (sign y)) x
      ∙ map_where (FitsSigned w16) (λ y. less 255 (plus (step y) (sign y))) mulaw_code x fits (λ y f. lane y)

pub mulaw_magnitudes-requires-clause-fits : goal.mulaw_magnitudes-requires-clause-fits
mulaw_magnitudes-requires-clause-fits c = subst (Each1 (FitsSigned w16)) (sym (passed c.args.x c.requires.fits)) c.requires.fits

pub compressed_lanes-requires-clause-len : goal.compressed_lanes-requires-clause-len
compressed_lanes-requires-clause-len c =
    let x = c.args.x in
    ap length (places x c.requires.len c.requires.fits _ c.mulaw_magnitudes.ensures) ∙ length-map x place ∙ c.requires.len

pub compressed_lanes-requires-clause-small : goal.compressed_lanes-requires-clause-small
compressed_lanes-requires-clause-small c =
    let x = c.args.x in
    subst (Each1 (λ q. q < 4096)) (sym (places x c.requires.len c.requires.fits _ c.mulaw_magnitudes.ensures)) (each_map (FitsSigned w16) (λ q. q < 4096) place x c.requires.fits (λ y f. omega (arith, place_is y)))

pub by_sign-sign-requires-clause-fits : goal.by_sign-sign-requires-clause-fits
by_sign-sign-requires-clause-fits c = subst (Each1 (FitsSigned w16)) (sym (passed c.args.x c.requires.fits)) c.requires.fits

pub overflow_cast-result : goal.overflow_cast-result
overflow_cast-result c =
    let x = c.args.x in
    let e = coded x c.requires.len c.requires.fits _ _ _ c.mulaw_magnitudes.ensures c.compressed_lanes.ensures c.by_sign-sign.ensures in
    subst (Each1 _) (sym e) (each_map (FitsSigned w16) _ mulaw_code x c.requires.fits (λ y f. let b : Fits w8 (mulaw_code y) = record { fits = code_below y } in b))

pub returns : goal.returns
returns c =
    let x = c.args.x in
    let e = coded x c.requires.len c.requires.fits _ _ _ c.mulaw_magnitudes.ensures c.compressed_lanes.ensures c.by_sign-sign.ensures in
    ap (map (λ k. k)) e ∙ map_again (λ k. k) mulaw_code x
