use Rattle.stock_laws.proofs.Standing.{give_stands, make_stands, unmake_stands}
use Rattle.stock_laws.proofs.Composed.{give_loaded}
use Rattle.stock_laws.proofs.law_of_owners.Goals as goal

pub returns-clause-given : goal.returns-clause-given
returns-clause-given c = give_stands

pub returns-clause-made : goal.returns-clause-made
returns-clause-made c = make_stands

pub returns-clause-unmade : goal.returns-clause-unmade
returns-clause-unmade c = unmake_stands

pub returns-clause-given_loaded : goal.returns-clause-given_loaded
returns-clause-given_loaded c = give_loaded
