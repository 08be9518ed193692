use Rattle.std.proofs.Common.{ap, sym, ◌∙◌, arith, to_z, w16, FitsSigned}
use Rattle.std.proofs.lemmas.Int.{to_z-of_z}
use Rattle.pcm_ops.proofs.ByteOrder.{get_or-samples}
use Rattle.pcm_ops.proofs.bytes.sample_at.Goals as goal

pub returns : goal.returns
returns c =
    let f : FitsSigned w16 c.from_le_bytes.result = record { sfits = c.from_le_bytes.type_inv } in
    to_z-of_z w16 c.from_le_bytes.result f ∙ c.from_le_bytes.ensures ∙ ap (to_z w16) (omega arith) ∙ sym (get_or-samples c.args.from.now c.args.i c.requires)
