use Rattle.play_run.proofs.Rounding.{few_links}
use Rattle.play_run.proofs.player.PlayingTakeTurns.links.Goals as goal

pub link_count-requires : goal.link_count-requires
link_count-requires g c = few_links c.args.self.now c.requires
