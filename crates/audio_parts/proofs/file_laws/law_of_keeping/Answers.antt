use Rattle.audio_parts.proofs.WholeReads.{kept_whole}
use Rattle.audio_parts.proofs.file_laws.law_of_keeping.Goals as goal

pub returns : goal.returns
returns c = kept_whole
