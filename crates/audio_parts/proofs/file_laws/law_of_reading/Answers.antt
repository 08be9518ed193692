use Rattle.audio_parts.proofs.WholeReads.{read_joined, read_whole}
use Rattle.audio_parts.proofs.file_laws.law_of_reading.Goals as goal

pub returns : goal.returns
returns c = record { joined = read_joined; whole = read_whole }
