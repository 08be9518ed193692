use Rattle.std.proofs.Common.{refl}
use Rattle.play_stream_laws.proofs.Acts.{world_stays}
use Rattle.play_stream_laws.proofs.Beginning.{begun_streams, opening_has}
use Rattle.play_stream_laws.proofs.streams.law_of_begun_streams.Goals as goal

pub returns : goal.returns
returns c = record {
  opened = opening_has;
  begun = begun_streams;
  read = λ x k recent later p q w W H V e. world_stays x k recent later p q w w W H V e refl;
}
