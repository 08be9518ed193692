use Rattle.std.proofs.Common.{◌≡◌, Err, ap, subst, sym, ◌∙◌}
use Rattle.omx_types.specs.declared.fault.Fault.{Fault}
use Rattle.outside_io.specs.declared.media.Refused.TheVariants as Refusals
use Rattle.play_files.specs.Faults.{fault_of_sink}
use Rattle.play_files.specs.Opening.{IsSinkRefused}
use Rattle.play_files.proofs.Refusals.{sink_refused}
use Rattle.play_files.proofs.sinks.open_sink.Goals as goal

pub returns-in-Err-clause-refused : goal.returns-in-Err-clause-refused
returns-in-Err-clause-refused g c =
    let old = g.M.Media.outside c.args.media.now in
    let new = g.M.Media.outside c.sink.new.self in
    let e = c.in-Err.ensures in
    subst (λ (fault : Fault). IsSinkRefused c.args.line c.args.name.now old new fault) (sym c.sink_fault.ensures)
    (sink_refused c.args.line c.args.name.now old new c.in-Err.refused c.sink.ensures.goes_on c.sink.ensures.files
    (λ is. e.absent (ap Err is)) (λ is. e.absent_name (ap Err is)) (λ is. e.failed (ap Err is)) c.sink.ensures.read_faults c.sink.ensures.failed_reads
    (λ other. e.absences_stay (λ same. other (cc))))

pub returns-in-Err-clause-asked : goal.returns-in-Err-clause-asked
returns-in-Err-clause-asked g c =
    λ n. c.in-Err.ensures.asked (λ same. (let is : c.in-Err.refused ≡ Refusals.OutOfMemory = cc in n (ap Err (c.sink_fault.ensures ∙ ap (fault_of_sink c.args.line) is))))

pub returns-in-Ok-clause-asked : goal.returns-in-Ok-clause-asked
returns-in-Ok-clause-asked g c = λ n. c.in-Ok.ensures.asked (λ never. cc)
