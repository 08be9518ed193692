use Rattle.play_stream_laws.proofs.Changing.{dropped_streams, joined_streams, sent_streams, set_streams}
use Rattle.play_stream_laws.proofs.streams.law_of_changed_streams.Goals as goal

pub returns : goal.returns
returns c = record {
  sent = λ x k recent later p q w v l output disables h r W H V e b N s. sent_streams x k recent later p q w v W H V e l b output disables h r N s;
  dropped = λ x k recent later p q w v l g h r W H V e b M N s. dropped_streams x k recent later p q w v W H V e l b g h M N r s;
  set = λ x k recent later p q w v l output h r W H V e b late N s. set_streams x k recent later p q w v W H V e l b late output h r N s;
  joined = λ x k recent later p q w v l g h r W H V e b M N s. joined_streams x k recent later p q w v W H V e l b g h M N r s;
}
