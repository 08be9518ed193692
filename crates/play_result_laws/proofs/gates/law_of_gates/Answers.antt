use Rattle.play_result_laws.proofs.Claiming.{claims_are, counted_all, gates_tell}
use Rattle.play_result_laws.proofs.gates.law_of_gates.Goals as goal

pub returns : goal.returns
returns g c = record { claims = claims_are; tells = gates_tell; counted = counted_all }
