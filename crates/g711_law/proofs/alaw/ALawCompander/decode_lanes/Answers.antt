use Rattle.std.proofs.Common.{◌≡◌, ℕ, ◌<◌, Bool, true, false, cond, ltb, map, length, replicate, List, ap, ◌∙◌, sym, subst, arith, refl, ℤ, pos, FitsSigned, Fits, to_z, of_z, w8, w16}
use Rattle.std.proofs.lemmas.List.{length-map}
use Rattle.std.proofs.lemmas.Nat.{xor_of_8}
use Rattle.std.proofs.lemmas.Int.{to_z_pos}
use Rattle.std.proofs.lemmas.Bool.{ltb-true, ltb-false}
use lib.Bits.{bit_xor}
use lib.Lanes.{zip2, sel_l, top, Each1}
use Rattle.g711_law.specs.Alaw.{alaw_middle, alaw_value}
use Rattle.g711_law.proofs.AlawLaws.{middle_range, value_low, value_high, value_fits}
use Rattle.pcm_ops.proofs.Maps.{map_again, map_where, each_map, zip_splat, splat_zip, select_maps}
use Rattle.g711_law.proofs.CurveLanes.{less, below_mask}
use Rattle.g711_law.proofs.SignedLanes.{negated}
use Rattle.g711_law.proofs.alaw.ALawCompander.decode_lanes.Goals as goal

abbrev inverted : ℕ → ℕ
inverted k = bit_xor k 85

by_bit : (t : Bool) (k : ℕ) → k < 256 → ltb (inverted k) 128 ≡ t → to_z w16 (cond (top 15 (cond t 65535 0)) (less 0 (alaw_middle (inverted k))) (alaw_middle (inverted k))) ≡ alaw_value k
by_bit true k l e =
    let range = middle_range (inverted k) (xor_of_8 k 85 l (omega arith)) in
    negated (alaw_middle (inverted k)) (omega arith) (omega arith) ∙ sym (value_low k (ltb-true _ _ e))
by_bit false k l e =
    let range = middle_range (inverted k) (xor_of_8 k 85 l (omega arith)) in
    to_z_pos w16 (alaw_middle (inverted k)) (omega arith) ∙ sym (value_high k l (ltb-false _ _ e))

abbrev middle : ℕ → ℕ
middle k = alaw_middle (inverted k)

abbrev bits : List ℕ → List ℤ → List ℕ
bits i m = sel_l (map (top 15) (zip2 below_mask i (replicate 16 128))) (zip2 less (replicate 16 0) (map (of_z w16) m)) (map (of_z w16) m)

module _ (c : List ℕ) (len : length c ≡ 16) (fits : Each1 (Fits w8) c) where
  inverts : zip2 bit_xor (map (λ k. k) c) (replicate 16 85) ≡ map inverted c
  inverts = zip_splat bit_xor 85 16 (map (λ k. k) c) (length-map c (λ k. k) ∙ len) ∙ map_again inverted (λ k. k) c

  values : (i : List ℕ) (m : List ℤ) → i ≡ map inverted c → m ≡ map (λ a. pos (alaw_middle a)) i → map (to_z w16) (bits i m) ≡ map alaw_value c
  values i m p q =
      let is : map (of_z w16) m ≡ map middle c = ap (map (of_z w16)) (q ∙ ap (map (λ a. pos (alaw_middle a))) p ∙ map_again (λ a. pos (alaw_middle a)) inverted c) ∙ map_again (of_z w16) (λ k. pos (middle k)) c in
      let masks : map (top 15) (zip2 below_mask i (replicate 16 128)) ≡ map (λ k. top 15 (below_mask (inverted k) 128)) c =
      ap (λ l. map (top 15) (zip2 below_mask l (replicate 16 128))) p
      ∙ ap (map (top 15)) (zip_splat below_mask 128 16 (map inverted c) (length-map c inverted ∙ len) ∙ map_again (λ a. below_mask a 128) inverted c)
      ∙ map_again (top 15) (λ k. below_mask (inverted k) 128) c in
      let minus : zip2 less (replicate 16 0) (map middle c) ≡ map (λ k. less 0 (middle k)) c =
      splat_zip less 0 16 (map middle c) (length-map c middle ∙ len) ∙ map_again (less 0) middle c in
      ap (λ l. map (to_z w16) (sel_l (map (top 15) (zip2 below_mask i (replicate 16 128))) (zip2 less (replicate 16 0) l) l)) is
      ∙ ap (λ l. map (to_z w16) (sel_l l (zip2 less (replicate 16 0) (map middle c)) (map middle c))) masks
      ∙ ap (λ l. map (to_z w16) (sel_l (map (λ k. top 15 (below_mask (inverted k) 128)) c) l (map middle c))) minus
      ∙ ap (map (to_z w16)) (select_maps (λ k. top 15 (below_mask (inverted k) 128)) (λ k. less 0 (middle k)) middle c)
      ∙ map_again (to_z w16) (λ k. cond (top 15 (below_mask (inverted k) 128)) (less 0 (middle k)) (middle k)) c
      ∙ map_where (Fits w8) _ alaw_value c fits (λ k f. by_bit (ltb (inverted k) 128) k f.fits refl)

pub alaw_middles-middle-requires-clause-len : goal.alaw_middles-middle-requires-clause-len
alaw_middles-middle-requires-clause-len c =
    let k = c.args.c in
    ap length (inverts k c.requires.len c.requires.fits) ∙ length-map k inverted ∙ c.requires.len

pub alaw_middles-middle-requires-clause-fits : goal.alaw_middles-middle-requires-clause-fits
alaw_middles-middle-requires-clause-fits c =
    let k = c.args.c in
    subst (Each1 (λ a. a < 256)) (sym (inverts k c.requires.len c.requires.fits)) (each_map (Fits w8) (λ a. a < 256) inverted k c.requires.fits (λ a f. xor_of_8 a 85 f.fits (omega arith)))

pub returns-clause-value : goal.returns-clause-value
returns-clause-value c =
    let k = c.args.c in
    values k c.requires.len c.requires.fits _ _ (inverts k c.requires.len c.requires.fits) c.alaw_middles-middle.ensures

pub returns-clause-fits : goal.returns-clause-fits
returns-clause-fits c =
    subst (Each1 (FitsSigned w16)) (sym (returns-clause-value c)) (each_map (Fits w8) (FitsSigned w16) alaw_value c.args.c c.requires.fits (λ k f. value_fits k f.fits))
