use Rattle.play_world_laws.proofs.SupplyCalls.{supply_can, supply_leads}
use Rattle.play_world_laws.proofs.supplies.law_of_play_supplies.Goals as goal

pub returns : goal.returns
returns c = record { done = supply_leads; can = supply_can }
