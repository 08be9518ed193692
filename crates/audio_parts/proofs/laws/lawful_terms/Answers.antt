use Rattle.audio_parts.proofs.Lawful.{new_is_lawful, format_is_lawful, factor_is_lawful, file_is_lawful}
use Rattle.audio_parts.proofs.laws.lawful_terms.Goals as goal

pub returns : goal.returns
returns c = record { new = new_is_lawful; format = format_is_lawful; factor = factor_is_lawful; file = file_is_lawful }
