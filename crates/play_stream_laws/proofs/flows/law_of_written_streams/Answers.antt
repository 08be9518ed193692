use Rattle.play_stream_laws.proofs.PlayEnds.{written_fronts, written_whole}
use Rattle.play_stream_laws.proofs.Failing.{failed_fronts}
use Rattle.play_stream_laws.proofs.StepStill.{finish_new}
use Rattle.play_stream_laws.proofs.flows.law_of_written_streams.Goals as goal

pub returns : goal.returns
returns c = record {
  whole = λ x k recent p w stream W H Q late. written_whole x k recent p w W H stream Q late;
  fronts = λ x k recent p w stream W H Q. written_fronts x k recent p w W H stream Q;
  failed = failed_fronts;
  new = finish_new;
}
