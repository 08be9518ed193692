use Rattle.held_things.proofs.Keeping.{stay_held}
use Rattle.held_things.proofs.law_of_holding.Goals as goal

pub returns : goal.returns
returns g c = λ log pass a r tells held own moves. stay_held g.L.Lending.key g.L.Lending.same tells g.L.Lending.gone g.L.Lending.come log pass a r g.L.Lending.out g.L.Lending.out_then g.L.Lending.is g.L.Lending.is_then g.L.Lending.was held own moves
