use Rattle.std.proofs.Common.{subst, sym}
use Rattle.omxrun.specs.Commands.{HasRun}
use Rattle.omxrun.specs.Words.{asked_by}
use Rattle.omxrun.specs.declared.words.Command.{Command}
use Rattle.omxrun.proofs.run.run_command.Goals as goal

pub returns-in-Play-clause-run : goal.returns-in-Play-clause-run
returns-in-Play-clause-run g c =
    subst (λ (command : Command). HasRun (asked_by command) (g.M.Media.outside c.args.media.now) (g.M.Media.outside c.play_with.new.media) (g.O.Sink.told c.args.out.now) (g.O.Sink.told c.play_with.new.out) (g.O.Sink.faults c.args.out.now) (g.O.Sink.faults c.play_with.new.out) c.play_with.result) (sym c.in-Play.is) c.play_with.ensures.played
