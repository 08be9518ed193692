use Rattle.play_run.proofs.Ends.{end_there}
use Rattle.play_run.proofs.Recording.{still_there}
use Rattle.play_run.proofs.playing.Playing.port_name.Goals as goal

pub port_at-requires : goal.port_at-requires
port_at-requires g c =
    still_there _ c.args.self.now c.self.view_is c.place_at.result (end_there c.args.self.now.plan c.args.link c.place_at.result c.args.end c.joint-joint.result c.requires.parts.valid c.requires.there c.joint-joint.ensures c.place_at.ensures)
