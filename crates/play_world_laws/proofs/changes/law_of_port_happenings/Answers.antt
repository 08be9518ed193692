use Rattle.play_world_laws.proofs.PortDue.{happens_at_port, port_rests}
use Rattle.play_world_laws.proofs.changes.law_of_port_happenings.Goals as goal

pub returns : goal.returns
returns c = record { one = λ x recent p w v W H. happens_at_port x recent p w W v H; none = λ x recent p w l o W. port_rests x recent p w W l o }
