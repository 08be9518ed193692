use Rattle.play_stream_laws.proofs.Components.{claim_streams, end_streams, run_streams, send_streams, take_streams}
use Rattle.play_stream_laws.proofs.streams.law_of_component_streams.Goals as goal

pub returns : goal.returns
returns c = record {
  sent = λ x k recent later p q w v c h r W H V e b N s. send_streams x k recent later p q w v W H V e c h b N r s;
  ran = λ x k recent later p q w v c h r W H V e b N s. run_streams x k recent later p q w v W H V e c h b N r s;
  told = λ x k recent later p q w v c h r W H V e b N s. take_streams x k recent later p q w v W H V e c h b N r s;
  heard = λ x k recent later p q w v c h W H V e b N s. end_streams x k recent later p q w v W H V e c h b N s;
  claimed = λ x k recent later p q w v c h r W H V e b N s. claim_streams x k recent later p q w v W H V e c h b N r s;
}
