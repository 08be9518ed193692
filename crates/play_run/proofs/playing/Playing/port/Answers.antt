use Rattle.play_run.proofs.Ends.{end_there}
use Rattle.play_run.proofs.playing.Playing.port.Goals as goal

pub handle-requires-clause-there : goal.handle-requires-clause-there
handle-requires-clause-there g c = end_there c.args.self.now.plan c.args.link c.place_at.result c.args.end c.joint-joint.result c.requires.parts.valid c.requires.there c.joint-joint.ensures c.place_at.ensures
