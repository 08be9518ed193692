use Rattle.std.proofs.Common.{◌≡◌, Err, ap, subst, sym, ◌∙◌}
use Rattle.omx_types.specs.declared.fault.Fault.{Fault}
use Rattle.outside_io.specs.declared.media.Refused.TheVariants as Refusals
use Rattle.play_files.specs.Faults.{fault_of_source}
use Rattle.audit_files.specs.Left.{IsKnownRefused}
use Rattle.audit_files.proofs.Refusals.{known_refused}
use Rattle.audit_files.proofs.comparing.open_known.Goals as goal

pub returns-in-Err-clause-refused : goal.returns-in-Err-clause-refused
returns-in-Err-clause-refused g c =
    let old = g.M.Media.outside c.args.media.now in
    let new = g.M.Media.outside c.source.new.self in
    let e = c.in-Err.ensures in
    subst (λ (fault : Fault). IsKnownRefused c.args.line c.args.name.now old new fault) (sym c.source_fault.ensures)
    (known_refused c.args.line c.args.name.now old new c.in-Err.refused c.source.ensures.goes_on c.source.ensures.files
    (λ is. e.absent (ap Err is)) (λ is. e.absent_name (ap Err is)) (λ is. e.failed (ap Err is)) (λ is. e.failed_name (ap Err is)) (λ other. e.none_failed (λ same. other (cc))) c.source.ensures.write_faults c.source.ensures.failed_writes
    (λ other. e.absences_stay (λ same. other (cc))))

pub returns-in-Err-clause-asked : goal.returns-in-Err-clause-asked
returns-in-Err-clause-asked g c =
    λ n. c.in-Err.ensures.asked (λ same. (let is : c.in-Err.refused ≡ Refusals.OutOfMemory = cc in n (ap Err (c.source_fault.ensures ∙ ap (fault_of_source c.args.line) is))))

pub returns-in-Ok-clause-asked : goal.returns-in-Ok-clause-asked
returns-in-Ok-clause-asked g c = λ n. c.in-Ok.ensures.asked (λ never. cc)
