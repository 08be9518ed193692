use Rattle.play_turn_laws.proofs.Keeping.{acts_gone, acts_keep, carried_kept, conduct_keeps, lates_kept}
use Rattle.play_turn_laws.proofs.conductors.law_of_play_knowledge.Goals as goal

pub returns : goal.returns
returns c = record { kept = lates_kept; carried = carried_kept; conducted = conduct_keeps; on_link = acts_keep; gone = acts_gone }
