use Rattle.std.proofs.Common.{◌*◌, ap, ◌∙◌, arith, take, drop}
use lib.Lanes.{put_chunk}
use Rattle.pcm_ops.specs.Samples.{bytes, samples}
use Rattle.pcm_ops.proofs.Bits.{passed, passed_fit}
use Rattle.pcm_ops.proofs.ByteOrder.{put_back}
use Rattle.pcm_ops.proofs.bytes.put_lanes.Goals as goal

pub returns-clause-value : goal.returns-clause-value
returns-clause-value c = ap (put_chunk (2 * c.args.i) c.args.to.now) (c.bytes_of_samples.ensures ∙ ap bytes (passed c.args.x c.requires.fits))

pub returns-clause-back : goal.returns-clause-back
returns-clause-back c =
    ap (λ l. take 16 (drop c.args.i (samples l))) (returns-clause-value c)
    ∙ put_back c.args.i 16 c.args.to.now c.args.x c.requires.len (omega (arith, c.requires.room)) c.requires.fits

pub bytes_of_samples-requires-clause-fits : goal.bytes_of_samples-requires-clause-fits
bytes_of_samples-requires-clause-fits c = passed_fit c.args.x c.requires.fits
