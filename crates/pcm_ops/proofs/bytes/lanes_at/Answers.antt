use Rattle.std.proofs.Common.{◌*◌, ◌∙◌, w8, Fits}
use Rattle.std.proofs.lemmas.Simd.{length-chunk}
use Rattle.pcm_ops.proofs.Pieces.{each_in_chunk}
use Rattle.pcm_ops.proofs.Bits.{passed, passed_fit}
use Rattle.pcm_ops.proofs.ByteOrder.{samples_in}
use Rattle.pcm_ops.proofs.bytes.lanes_at.Goals as goal

pub samples_of_bytes-requires-clause-len : goal.samples_of_bytes-requires-clause-len
samples_of_bytes-requires-clause-len c = length-chunk (2 * c.args.i) 32 c.args.from.now c.requires

pub samples_of_bytes-requires-clause-fits : goal.samples_of_bytes-requires-clause-fits
samples_of_bytes-requires-clause-fits c = each_in_chunk (Fits w8) 0 c.args.from.now (2 * c.args.i) 32 c.requires (λ k l. c.type_inv.from k)

pub returns-clause-value : goal.returns-clause-value
returns-clause-value c = passed c.samples_of_bytes.result c.samples_of_bytes.ensures.fits ∙ c.samples_of_bytes.ensures.value ∙ samples_in c.args.i 16 c.args.from.now

pub returns-clause-fits : goal.returns-clause-fits
returns-clause-fits c = passed_fit c.samples_of_bytes.result c.samples_of_bytes.ensures.fits
