use Rattle.std.proofs.Common.{Err, ap, subst, sym, ◌∙◌}
use Rattle.omx_types.specs.declared.fault.Fault.{Fault}
use Rattle.omxrun.specs.Opened.{HasOpenReason}
use Rattle.omxrun.proofs.Absences.{input-told, output-told}
use Rattle.omxrun.proofs.Turns.{input-refused}
use Rattle.omxrun.proofs.packets.open_both.Goals as goal

pub returns-in-Err-clause-unabsent : goal.returns-in-Err-clause-unabsent
returns-in-Err-clause-unabsent g c =
    input-told (g.M.Media.outside c.args.media.now) (g.M.Media.outside c.source.new.self) c.in-Err.refused c.input_fault.result c.input_fault.ensures (λ other. c.in-Err.ensures.absences_stay (λ same. other (cc)))

pub returns-in-Err-sink-clause-unabsent : goal.returns-in-Err-sink-clause-unabsent
returns-in-Err-sink-clause-unabsent g c =
    output-told (g.M.Media.outside c.args.media.now) (g.M.Media.outside c.source.new.self) (g.M.Media.outside c.sink.new.self) (g.M.Media.outside c.close_source.new.self) c.in-Err-sink.refused c.output_fault.result c.output_fault.ensures
    (c.in-Ok.ensures.absences_stay (λ same. cc)) (λ other. c.in-Err-sink.ensures.absences_stay (λ same. other (cc))) c.close_source.ensures.absences

pub returns-in-Ok-sink-clause-unabsent : goal.returns-in-Ok-sink-clause-unabsent
returns-in-Ok-sink-clause-unabsent g c = c.in-Ok-sink.ensures.absences_stay (λ same. cc) ∙ c.in-Ok.ensures.absences_stay (λ same. cc)

pub returns-in-Err-clause-reason : goal.returns-in-Err-clause-reason
returns-in-Err-clause-reason g c =
    let old = g.M.Media.outside c.args.media.now in
    let new = g.M.Media.outside c.source.new.self in
    let e = c.in-Err.ensures in
    subst (λ (fault : Fault). HasOpenReason c.args.input.now c.args.output.now old new fault) (sym c.input_fault.ensures)
    (input-refused c.args.input.now c.args.output.now old new c.in-Err.refused (λ is. e.absent (ap Err is)) (λ is. e.absent_name (ap Err is)) (λ is. e.failed (ap Err is)) (λ is. e.failed_name (ap Err is)))

pub returns-in-Ok-sink-clause-none_failed : goal.returns-in-Ok-sink-clause-none_failed
returns-in-Ok-sink-clause-none_failed g c = c.sink.ensures.failed_reads ∙ c.in-Ok.ensures.none_failed (λ same. cc)
