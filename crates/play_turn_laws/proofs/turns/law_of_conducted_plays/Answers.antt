use Rattle.play_turn_laws.proofs.Playing.{change_plays, change_stands, playing_begins, playing_hears, playing_waits, turn_plays, turn_stands}
use Rattle.play_turn_laws.proofs.turns.law_of_conducted_plays.Goals as goal

pub returns : goal.returns
returns c = record { hears = playing_hears; waits = playing_waits; begins = playing_begins; stands = turn_stands; plays = turn_plays; changes = change_stands; changed = change_plays }
