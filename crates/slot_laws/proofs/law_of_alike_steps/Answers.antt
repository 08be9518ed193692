use Rattle.slot_laws.proofs.Alike.{gets_alike, goes_alike}
use Rattle.slot_laws.proofs.law_of_alike_steps.Goals as goal

pub returns : goal.returns
returns c = record { goes = goes_alike; makes = gets_alike }
