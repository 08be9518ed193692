use Rattle.machine_laws.proofs.Suppliers.{nine_pairs}
use Rattle.machine_laws.proofs.law_of_suppliers.Goals as goal

pub returns : goal.returns
returns c = nine_pairs
