use Rattle.std.proofs.Common.{◌<◌, map, ap, ◌∙◌, sym, subst}
use lib.Lanes.{Each1}
use Rattle.std.proofs.lemmas.Simd.{Each1-weaker}
use Rattle.g711_law.specs.Alaw.{alaw_magnitude}
use Rattle.pcm_ops.proofs.Maps.{map_itself}
use Rattle.g711_law.proofs.SignedLanes.{folded_is, folded_small, cast_asks, cast_is}
use Rattle.g711_law.proofs.alaw.alaw_magnitudes.Goals as goal

pub overflow_cast-result : goal.overflow_cast-result
overflow_cast-result c =
    let x = c.args.x in
    let h = c.requires.fits in
    subst (Each1 _) (sym (folded_is x h)) (Each1-weaker (λ m. m < 32768) _ cast_asks (map alaw_magnitude x) (folded_small x h))

pub returns : goal.returns
returns c =
    let x = c.args.x in
    let h = c.requires.fits in
    ap (map _) (folded_is x h) ∙ map_itself (λ m. m < 32768) _ (map alaw_magnitude x) (folded_small x h) cast_is
