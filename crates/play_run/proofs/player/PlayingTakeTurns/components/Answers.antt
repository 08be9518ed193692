use Rattle.play_run.proofs.Answering.{has_parts}
use Rattle.play_run.proofs.player.PlayingTakeTurns.components.Goals as goal

pub count-requires : goal.count-requires
count-requires g c = has_parts c.args.self.now c.requires
