use Rattle.std.proofs.Common.{◌≡◌, ℕ, ◌+◌, ◌*◌, ◌%◌, ◌^◌, ◌<◌, map, length, replicate, List, ap, ◌∙◌, sym, subst, arith, pos, to_z, w16}
use Rattle.std.proofs.lemmas.List.{length-map}
use Rattle.std.proofs.lemmas.Nat.{and_mask}
use Rattle.std.proofs.lemmas.Int.{to_z_pos, ints}
use lib.Bits.{bit_and}
use lib.Lanes.{zip2, Each1}
use Rattle.g711_law.specs.Mulaw.{mulaw_middle}
use Rattle.g711_law.specs.Lines.{expanded}
use Rattle.g711_law.proofs.MulawLaws.{middle_is, middle_le, level_is}
use Rattle.pcm_ops.proofs.Maps.{map_again, map_where, each_map, zip_splat, zip_maps}
use Rattle.g711_law.proofs.CurveLanes.{plus, less}
use Rattle.g711_law.proofs.mulaw.mulaw_middles.Goals as goal

abbrev shifted : ℕ → ℕ → ℕ
shifted a b = (a * 2 ^ b) % 2 ^ 16

abbrev low : ℕ → ℕ
low a = bit_and a 127

-- the height on the curve, in half steps
abbrev height : ℕ → ℕ
height a = plus (plus (low a) (low a)) 33

height_is : (a : ℕ) → height a ≡ 2 * (a % 128) + 33
height_is a = omega (arith, and_mask a 7)

abbrev scaled : ℕ → ℕ
scaled a = shifted (expanded 7 (height a)) 2

middle_by : (a : ℕ) → a < 256 → less (scaled a) 132 ≡ mulaw_middle a
middle_by a l =
    let e : mulaw_middle a + 132 ≡ 4 * expanded 7 (height a) =
    ap (λ m. m + 132) (middle_is a (a % 128) (omega arith) (omega arith)) ∙ level_is (a % 128) (omega arith) ∙ sym (ap (λ w. 4 * expanded 7 w) (height_is a)) in
    omega (arith, middle_le a l)

module _ (v : List ℕ) (len : length v ≡ 16) (fits : Each1 (λ a. a < 256) v) where
  heights : zip2 plus (zip2 plus (zip2 bit_and v (replicate 16 127)) (zip2 bit_and v (replicate 16 127))) (replicate 16 33) ≡ map height v
  heights =
      ap (λ l. zip2 plus (zip2 plus l l) (replicate 16 33)) (zip_splat bit_and 127 16 v len)
      ∙ ap (λ l. zip2 plus l (replicate 16 33)) (zip_maps plus low low v)
      ∙ zip_splat plus 33 16 (map (λ a. plus (low a) (low a)) v) (length-map v (λ a. plus (low a) (low a)) ∙ len)
      ∙ map_again (λ n. plus n 33) (λ a. plus (low a) (low a)) v

  middles : (e : List ℕ)
      → e ≡ map (expanded 7) (zip2 plus (zip2 plus (zip2 bit_and v (replicate 16 127)) (zip2 bit_and v (replicate 16 127))) (replicate 16 33))
      → zip2 less (zip2 shifted e (replicate 16 2)) (replicate 16 132) ≡ map mulaw_middle v
  middles e p =
      let is : e ≡ map (λ a. expanded 7 (height a)) v = p ∙ ap (map (expanded 7)) heights ∙ map_again (expanded 7) height v in
      let scales : zip2 shifted e (replicate 16 2) ≡ map scaled v =
      ap (λ l. zip2 shifted l (replicate 16 2)) is
      ∙ zip_splat shifted 2 16 (map (λ a. expanded 7 (height a)) v) (length-map v (λ a. expanded 7 (height a)) ∙ len)
      ∙ map_again (λ n. shifted n 2) (λ a. expanded 7 (height a)) v in
      ap (λ l. zip2 less l (replicate 16 132)) scales
      ∙ zip_splat less 132 16 (map scaled v) (length-map v scaled ∙ len)
      ∙ map_again (λ n. less n 132) scaled v
      ∙ map_where (λ a. a < 256) (λ a. less (scaled a) 132) mulaw_middle v fits middle_by

pub expanded_lanes-requires-clause-len : goal.expanded_lanes-requires-clause-len
expanded_lanes-requires-clause-len c =
    let v = c.args.inverted in
    ap length (heights v c.requires.len c.requires.fits) ∙ length-map v height ∙ c.requires.len

pub expanded_lanes-requires-clause-small : goal.expanded_lanes-requires-clause-small
expanded_lanes-requires-clause-small c =
    let v = c.args.inverted in
    subst (Each1 (λ x. x < 512)) (sym (heights v c.requires.len c.requires.fits)) (each_map (λ a. a < 256) (λ x. x < 512) height v c.requires.fits (λ a l. omega (arith, height_is a)))

pub overflow_cast-result : goal.overflow_cast-result
overflow_cast-result c =
    let v = c.args.inverted in
    let e = middles v c.requires.len c.requires.fits _ c.expanded_lanes.ensures in
    subst (Each1 _) (sym e) (each_map (λ a. a < 256) _ mulaw_middle v c.requires.fits (λ a l. omega (arith, ints, middle_le a l)))

pub returns : goal.returns
returns c =
    let v = c.args.inverted in
    let e = middles v c.requires.len c.requires.fits _ c.expanded_lanes.ensures in
    ap (λ l. map (to_z w16) (map (λ m. m) l)) e
    ∙ ap (map (to_z w16)) (map_again (λ m. m) mulaw_middle v) ∙ map_again (to_z w16) mulaw_middle v
    ∙ map_where (λ a. a < 256) (λ a. to_z w16 (mulaw_middle a)) (λ a. pos (mulaw_middle a)) v c.requires.fits (λ a l. to_z_pos w16 (mulaw_middle a) (omega (arith, middle_le a l)))
