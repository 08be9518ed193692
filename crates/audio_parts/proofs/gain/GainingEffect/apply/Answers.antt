use Rattle.part_forms.specs.Effects.{gained_bytes}
use Rattle.audio_parts.proofs.gain.GainingEffect.apply.Goals as goal

pub returns-clause-value : goal.returns-clause-value
unfolding gained_bytes
returns-clause-value c = c.gain_into.ensures
