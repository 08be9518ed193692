use Rattle.pcm_ops.proofs.ByteLanes.{sample_digits}
use Rattle.pcm_ops.proofs.bytes.samples_of_bytes.Goals as goal

pub returns-clause-value : goal.returns-clause-value
returns-clause-value c = sample_digits 16 c.args.bytes c.requires.len c.requires.fits
