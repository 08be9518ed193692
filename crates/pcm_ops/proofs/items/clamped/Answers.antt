use Rattle.std.proofs.Common.{ap, ◌∙◌, to_z, of_z, pos, FitsSigned, w16, w32}
use Rattle.std.proofs.lemmas.Int.{to_z-of_z}
use Rattle.std.specs.Int.{int_max, int_min}
use lib.IntN.{negsuc}
use Rattle.pcm_ops.specs.Samples.{clamped}
use Rattle.pcm_ops.proofs.Scaling.{clamped_fits}
use Rattle.pcm_ops.proofs.Bits.{wider}
use Rattle.pcm_ops.proofs.items.clamped.Goals as goal

pub returns : goal.returns
unfolding clamped
returns c =
    let x = c.args.x in
    let most : FitsSigned w32 c.max.result = record { sfits = c.max.type_inv } in
    let above = c.max.ensures.value ∙ ap (λ z. int_max z (negsuc 32767)) (to_z-of_z w32 x c.ranges.x) in
    let is = c.min.ensures.value ∙ ap (λ z. int_min z (pos 32767)) (to_z-of_z w32 c.max.result most ∙ above) in
    ap (λ z. to_z w16 (of_z w16 (to_z w32 (of_z w32 z)))) is
    ∙ ap (λ z. to_z w16 (of_z w16 z)) (to_z-of_z w32 (clamped x) (wider (clamped x) (clamped_fits x)))
    ∙ to_z-of_z w16 (clamped x) (clamped_fits x)
