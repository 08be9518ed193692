use Rattle.il_flow.proofs.Sameness.{as_many, known_same}
use Rattle.il_flow.proofs.laws.law_of_sameness.Goals as goal

pub returns : goal.returns
returns c = record { known = known_same; many = as_many }
