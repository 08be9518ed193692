use Rattle.play_turn_laws.proofs.Ending.{joined_all, links_are}
use Rattle.play_turn_laws.proofs.Planned.{plan_links, plan_over}
use Rattle.play_turn_laws.proofs.plays.law_of_play_ends.Goals as goal

pub returns : goal.returns
returns c = record { links = links_are; joined = joined_all; plan_links = plan_links; plan = plan_over }
