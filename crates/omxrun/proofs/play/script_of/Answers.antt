use Rattle.std.proofs.Common.{subst, sym}
use Rattle.omx_types.specs.declared.fault.Fault.{Fault}
use Rattle.omxrun.specs.Plays.{HasPlayReason}
use Rattle.omxrun.proofs.Absences.{script-told}
use Rattle.omxrun.proofs.Outcomes.{unread-play}
use Rattle.omxrun.proofs.play.script_of.Goals as goal

pub returns-in-Err-clause-reason : goal.returns-in-Err-clause-reason
returns-in-Err-clause-reason g c =
    subst (λ (fault : Fault). HasPlayReason c.args.name.now c.args.log.now (g.M.Media.outside c.args.media.now) (g.M.Media.outside c.read_whole.new.media) fault) (sym c.unread_fault.ensures)
    (unread-play c.args.name.now c.args.log.now (g.M.Media.outside c.args.media.now) (g.M.Media.outside c.read_whole.new.media) c.in-Err.unread c.in-Err.ensures.reason c.in-Err.ensures.there
    (λ other. c.in-Err.ensures.read_stays (λ same. other (cc))) c.read_whole.ensures.write_faults)

pub returns-in-Err-clause-unabsent : goal.returns-in-Err-clause-unabsent
returns-in-Err-clause-unabsent g c =
    script-told (g.M.Media.outside c.args.media.now) (g.M.Media.outside c.read_whole.new.media) c.in-Err.unread c.unread_fault.result c.unread_fault.ensures (λ other. c.in-Err.ensures.absences_stay (λ same. other (cc)))
