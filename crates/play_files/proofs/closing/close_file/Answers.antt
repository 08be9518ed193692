use Rattle.play_files.proofs.Closings.{none_closed, sink_closed, source_closed}
use Rattle.play_files.proofs.closing.close_file.Goals as goal

pub returns-in-None : goal.returns-in-None
returns-in-None g c = rw c.in-None.is (none_closed (g.M.Media.outside c.args.media.now))

pub returns-in-Some-From : goal.returns-in-Some-From
returns-in-Some-From g c =
    rw (c.in-Some-From.is, c.in-Some-From.field-0-is) (source_closed _ _ _ (g.M.Media.outside c.args.media.now) (g.M.Media.outside c.close_source.new.self) c.close_source.ensures.goes_on c.close_source.ensures.files c.close_source.ensures.absences c.close_source.ensures.openings c.close_source.ensures.failed_writes c.close_source.ensures.write_faults c.close_source.ensures.failed_names c.close_source.ensures.added)

pub returns-in-Some-To : goal.returns-in-Some-To
returns-in-Some-To g c =
    let e = c.close_sink.ensures in
    rw (c.in-Some-To.is, c.in-Some-To.field-0-is) (sink_closed _ _ (g.M.Media.outside c.args.media.now) (g.M.Media.outside c.close_sink.new.self) c.close_sink.result e.goes_on e.others e.held e.front e.absences e.openings e.read_faults e.added e.closed e.failed e.failed_reads e.failed_names)
