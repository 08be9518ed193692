use Rattle.stock_laws.proofs.Standing.{added_stands, removed_stands}
use Rattle.stock_laws.proofs.law_of_ports.Goals as goal

pub returns-clause-added : goal.returns-clause-added
returns-clause-added c = added_stands

pub returns-clause-removed : goal.returns-clause-removed
returns-clause-removed c = removed_stands
