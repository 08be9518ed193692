use Rattle.play_stream_laws.proofs.Headers.{back_streams, over_streams, release_streams, supply_streams}
use Rattle.play_stream_laws.proofs.streams.law_of_link_streams.Goals as goal

pub returns : goal.returns
returns c = record {
  supplied = λ x k recent later p q w v l h r W H V e b N s. supply_streams x k recent later p q w v W H V e l h b r N s;
  released = λ x k recent later p q w v l h r W H V e b N s. release_streams x k recent later p q w v W H V e l h b r N s;
  handed_over = λ x k recent later p q w v l h r W H V e b N s. over_streams x k recent later p q w v W H V e l h b r N s;
  handed_back = λ x k recent later p q w v l h r W H V e b N s. back_streams x k recent later p q w v W H V e l h b r N s;
}
