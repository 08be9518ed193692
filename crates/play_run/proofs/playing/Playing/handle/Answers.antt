use Rattle.play_run.proofs.Naming.{handle_there, made_at}
use Rattle.play_run.proofs.playing.Playing.handle.Goals as goal

pub handle-requires : goal.handle-requires
handle-requires g c = made_at _ c.args.self.now c.self.view_is c.args.place c.requires.there c.requires.parts

pub returns : goal.returns
returns g c = handle_there _ c.args.self.now c.self.view_is c.args.place c.handle.result c.handle.ensures
