use Rattle.std.proofs.Common.{Ok, ◌∙◌, ap}
use Rattle.play_run.proofs.Naming.{is_told, not_none, not_err}
use Rattle.play_run.proofs.playing.Playing.progress.Goals as goal

pub unreachable-requires : goal.unreachable-requires
unreachable-requires g c =
    not_none _ c.args.self.now c.self.view_is c.args.place c.handle-h.result c.progress.result c.requires.there c.requires.parts c.handle-h.ensures c.progress.ensures (c.in-Ok-None.is ∙ ap Ok c.in-Ok-None.field-0-is)

pub unreachable-requires-in-Err : goal.unreachable-requires-in-Err
unreachable-requires-in-Err g c =
    not_err _ c.args.self.now c.self.view_is c.args.place c.handle-h.result c.progress.result c.requires.there c.requires.parts c.handle-h.ensures c.progress.ensures c.in-Err.field-0 c.in-Err.is

pub returns : goal.returns
returns g c = is_told _ c.args.self.now c.self.view_is c.args.place c.handle-h.result c.progress.result c.requires.there c.requires.parts c.handle-h.ensures c.progress.ensures c.law_of_worlds.ensures.sound c.in-Ok-Some.progress (c.in-Ok-Some.is ∙ ap Ok c.in-Ok-Some.field-0-is)
