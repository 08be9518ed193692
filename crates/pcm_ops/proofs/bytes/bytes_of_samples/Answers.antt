use Rattle.pcm_ops.proofs.ByteLanes.{byte_digits}
use Rattle.pcm_ops.proofs.bytes.bytes_of_samples.Goals as goal

pub returns : goal.returns
returns c = byte_digits 16 c.args.x c.requires.len c.requires.fits
