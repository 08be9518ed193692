use Rattle.std.proofs.Common.{◌≡◌, ℕ, ◌+◌, ◌/◌, ◌<◌, cond, map, length, replicate, List, ap, ◌∙◌, sym, subst, arith, refl, ℤ, FitsSigned, to_z, of_z, w8, w16, Fits}
use Rattle.std.proofs.lemmas.List.{length-map}
use lib.Bits.{bit_xor}
use lib.Lanes.{zip2, Each1}
use Rattle.std.specs.Int.{is_negative}
use Rattle.g711_law.specs.Alaw.{alaw_magnitude, alaw_code}
use Rattle.g711_law.specs.Lines.{compressed}
use Rattle.g711_law.proofs.AlawLaws.{encoded, small, code_below}
use Rattle.g711_law.proofs.Signs.{cond_le}
use Rattle.pcm_ops.proofs.Maps.{map_again, map_where, each_map, zip_splat, zip_maps}
use Rattle.pcm_ops.proofs.Bits.{passed}
use Rattle.g711_law.proofs.SignedLanes.{fold_lane}
use Rattle.g711_law.proofs.CurveLanes.{down, plus}
use Rattle.g711_law.proofs.alaw.ALawCompander.encode_lanes.Goals as goal

abbrev step : ℤ → ℕ
step y = compressed 7 (alaw_magnitude y / 16)

abbrev sign : ℤ → ℕ
sign y = cond (is_negative y) 0 128

lane : (y : ℤ) → FitsSigned w16 y → bit_xor (plus (step y) (sign y)) 85 ≡ alaw_code y
lane y f =
    let l = (fold_lane y f).1 in
    let e : plus (step y) (sign y) ≡ step y + sign y = omega (arith, small (alaw_magnitude y) l, cond_le (is_negative y) 0 128 128 (omega arith) (omega arith)) in
    ap (λ n. bit_xor n 85) e ∙ encoded y (step y) (sign y) l refl refl

-- the vectors on the way, each a function of the samples
module _ (x : List ℤ) (len : length x ≡ 16) (fits : Each1 (FitsSigned w16) x) where
  magnitudes : (m : List ℕ) → m ≡ map alaw_magnitude (map (to_z w16) (map (of_z w16) x)) → m ≡ map alaw_magnitude x
  magnitudes m e = e ∙ ap (map alaw_magnitude) (passed x fits)

  quarters : (m : List ℕ) → m ≡ map alaw_magnitude x → zip2 down m (replicate 16 4) ≡ map (λ y. alaw_magnitude y / 16) x
  quarters m e =
      ap (λ l. zip2 down l (replicate 16 4)) e ∙ zip_splat down 4 16 (map alaw_magnitude x) (length-map x alaw_magnitude ∙ len) ∙ map_again (λ m. m / 16) alaw_magnitude x

  codes : (s g : List ℕ) → s ≡ map (λ y. compressed 7 (alaw_magnitude y / 16)) x → g ≡ map (λ y. cond (is_negative y) 0 128) x
      → zip2 bit_xor (zip2 plus s g) (replicate 16 85) ≡ map alaw_code x
  codes s g p q =
      ap (λ l. zip2 bit_xor (zip2 plus l g) (replicate 16 85)) p
      ∙ ap (λ l. zip2 bit_xor (zip2 plus (map step x) l) (replicate 16 85)) q
      ∙ ap (λ l. zip2 bit_xor l (replicate 16 85)) (zip_maps plus step sign x)
      ∙ zip_splat bit_xor 85 16 (map (λ y. plus (step y) (sign y)) x) (length-map x (λ y. plus (step y) (sign y)) ∙ len)
      ∙ map_again (λ n. bit_xor n 85) (λ y. plus (step y) (sign y)) x
      ∙ map_where (FitsSigned w16) (λ y. bit_xor (plus (step y) (sign y)) 85) alaw_code x fits lane

  coded : (m s g : List ℕ) → m ≡ map alaw_magnitude (map (to_z w16) (map (of_z w16) x)) → s ≡ map (compressed 7) (zip2 down m (replicate 16 4))
      → g ≡ map sign (map (to_z w16) (map (of_z w16) x)) → zip2 bit_xor (zip2 plus s g) (replicate 16 85) ≡ map alaw_code x
  coded m s g p q r =
      codes s g (q ∙ ap (map (compressed 7)) (quarters m (magnitudes m p)) ∙ map_again (compressed 7) (λ y. alaw_magnitude y / 16) x) (r ∙ ap (map sign) (passed x fits))

pub alaw_magnitudes-requires-clause-fits : goal.alaw_magnitudes-requires-clause-fits
alaw_magnitudes-requires-clause-fits c = subst (Each1 (FitsSigned w16)) (sym (passed c.args.x c.requires.fits)) c.requires.fits

pub compressed_lanes-step-requires-clause-len : goal.compressed_lanes-step-requires-clause-len
compressed_lanes-step-requires-clause-len c =
    let x = c.args.x in
    let e = quarters x c.requires.len c.requires.fits _ (magnitudes x c.requires.len c.requires.fits _ c.alaw_magnitudes.ensures) in
    ap length e ∙ length-map x (λ y. alaw_magnitude y / 16) ∙ c.requires.len

pub compressed_lanes-step-requires-clause-small : goal.compressed_lanes-step-requires-clause-small
compressed_lanes-step-requires-clause-small c =
    let x = c.args.x in
    let e = quarters x c.requires.len c.requires.fits _ (magnitudes x c.requires.len c.requires.fits _ c.alaw_magnitudes.ensures) in
    subst (Each1 (λ q. q < 4096)) (sym e) (each_map (FitsSigned w16) (λ q. q < 4096) (λ y. alaw_magnitude y / 16) x c.requires.fits (λ y f. omega (arith, (fold_lane y f).1)))

pub by_sign-sign-requires-clause-fits : goal.by_sign-sign-requires-clause-fits
by_sign-sign-requires-clause-fits c = subst (Each1 (FitsSigned w16)) (sym (passed c.args.x c.requires.fits)) c.requires.fits

pub overflow_cast-result : goal.overflow_cast-result
overflow_cast-result c =
    let x = c.args.x in
    let e = coded x c.requires.len c.requires.fits _ _ _ c.alaw_magnitudes.ensures c.compressed_lanes-step.ensures c.by_sign-sign.ensures in
    subst (Each1 _) (sym e) (each_map (FitsSigned w16) _ alaw_code x c.requires.fits (λ y f. let b : Fits w8 (alaw_code y) = record { fits = code_below y } in b))

pub returns : goal.returns
returns c =
    let x = c.args.x in
    let e = coded x c.requires.len c.requires.fits _ _ _ c.alaw_magnitudes.ensures c.compressed_lanes-step.ensures c.by_sign-sign.ensures in
    ap (map _) e ∙ map_again _ alaw_code x ∙ map_where (FitsSigned w16) _ alaw_code x c.requires.fits (λ y f. refl)
