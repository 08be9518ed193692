use Rattle.play_turn_laws.proofs.Beginning.{play_begins, play_built, begins_playing}
use Rattle.play_turn_laws.proofs.plays.law_of_play_beginnings.Goals as goal

pub returns : goal.returns
returns c = record { begins = play_begins; built = play_built; plays = begins_playing }
