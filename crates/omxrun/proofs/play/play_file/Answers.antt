use Rattle.std.proofs.Common.{Err}
use Rattle.omxrun.proofs.Outcomes.{read-outcome, unread-outcome}
use Rattle.omxrun.proofs.play.play_file.Goals as goal

pub returns-in-Ok-clause-played : goal.returns-in-Ok-clause-played
returns-in-Ok-clause-played g c =
    let (outcome, course, told) = c.play_read.ensures.played in
    (outcome, read-outcome c.law_of_names.ensures c.args.name.now c.args.log.now (g.M.Media.outside c.args.media.now) (g.M.Media.outside c.script_of.new.media) (g.M.Media.outside c.play_read.new.media) c.in-Ok.script outcome c.in-Ok.ensures.read course, told)

pub returns-in-Err-clause-played : goal.returns-in-Err-clause-played
returns-in-Err-clause-played g c =
    (Err c.in-Err.fault, unread-outcome c.args.name.now c.args.log.now (g.M.Media.outside c.args.media.now) (g.M.Media.outside c.script_of.new.media) c.in-Err.fault c.script_of.ensures.kept c.in-Err.ensures.reason c.in-Err.ensures.unabsent, c.report.ensures.reported)
