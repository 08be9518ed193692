use Rattle.std.proofs.Common.{Err, refl}
use Rattle.omx_types.specs.declared.fault.Fault.TheVariants.{OutOfMemory}
use Rattle.omxrun.proofs.Outcomes.{unread-outcome}
use Rattle.omxrun.proofs.run.play_with.Goals as goal

pub returns-in-Err-clause-played : goal.returns-in-Err-clause-played
returns-in-Err-clause-played g c =
    let outside = g.M.Media.outside c.args.media.now in
    (Err OutOfMemory, unread-outcome c.args.script.now c.args.log.now outside outside OutOfMemory refl tt (λ _. refl), c.report.ensures.reported)
