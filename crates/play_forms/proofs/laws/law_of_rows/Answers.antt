use Rattle.std.proofs.Common.{refl}
use Rattle.pcm_ops.specs.Samples.{samples, bytes, scaled, clamped, mixed}
use Rattle.part_forms.specs.Mixing.{longest, sums, mixed_bytes}
use Rattle.play_forms.proofs.laws.law_of_rows.Goals as goal

pub returns-clause-mix : goal.returns-clause-mix
unfolding samples bytes scaled clamped mixed longest sums mixed_bytes
returns-clause-mix c = refl
