use Rattle.std.proofs.Common.{◌≡◌, subst}
use Rattle.outside_io.specs.Causes.{sum_of_counts}
use Rattle.outside_io.specs.Files.{with_name}
use Rattle.play_files.proofs.Closings.{none_closed, source_closed}
use Rattle.audit_files.proofs.closing.close_file.Goals as goal

pub returns-in-None : goal.returns-in-None
returns-in-None g c = rw c.in-None.is (none_closed (g.M.Media.outside c.args.media.now))

pub returns-in-Some-From : goal.returns-in-Some-From
returns-in-Some-From g c =
    rw (c.in-Some-From.is, c.in-Some-From.field-0-is) (source_closed _ _ _ (g.M.Media.outside c.args.media.now) (g.M.Media.outside c.close_source.new.self) c.close_source.ensures.goes_on c.close_source.ensures.files c.close_source.ensures.absences c.close_source.ensures.openings c.close_source.ensures.failed_writes c.close_source.ensures.write_faults c.close_source.ensures.failed_names c.close_source.ensures.added)

pub returns-in-Some-To : goal.returns-in-Some-To
returns-in-Some-To g c =
    let old = g.M.Media.outside c.args.media.now in
    let new = g.M.Media.outside c.close_source-in-Some-To.new.self in
    let e = c.close_source-in-Some-To.ensures in
    rw (c.in-Some-To.is, c.in-Some-To.field-0-is) (source_closed _ _ _ old new e.goes_on e.files e.absences e.openings e.failed_writes e.write_faults
    (subst (λ s. new.failed_reads ≡ with_name (g.M.Src.Source.name s) (g.M.Src.Source.faults s) old.failed_reads) c.into_source.ensures e.failed_names)
    (subst (λ s. new.read_faults ≡ sum_of_counts old.read_faults (g.M.Src.Source.faults s)) c.into_source.ensures e.added))
