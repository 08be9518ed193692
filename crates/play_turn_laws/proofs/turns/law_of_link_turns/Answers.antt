use Rattle.play_turn_laws.proofs.Coming.{backs_come, overs_come, releases_come, supplies_come}
use Rattle.play_turn_laws.proofs.turns.law_of_link_turns.Goals as goal

pub returns : goal.returns
returns c = record { supplies = supplies_come; releases = releases_come; overs = overs_come; backs = backs_come }
