use Rattle.std.proofs.Common.{◌≡◌}
use Rattle.omx_types.specs.declared.fault.Fault.{Fault}
use Rattle.omx_types.specs.declared.fault.Fault.TheVariants.{WriteFault}
use Rattle.outside_io.specs.Causes.{Rose}
use Rattle.script_lang.specs.declared.script.Script.TheVariants.{Trace}
use Rattle.il_graph.specs.Shown.{look_of}
use Rattle.trace_run.specs.Desks.{on_desk}
use Rattle.trace_run.specs.Traced.{beginning, IsStopped}
use Rattle.trace_run.proofs.Freeing.{all_in}
use Rattle.trace_run.proofs.Written.{err_then, ok_so, got_trace, end_broken, lines_broken}
use Rattle.trace_run.proofs.tracing.trace_lines.Goals as goal

pub returns-in-Ok-written-clause-traced : goal.returns-in-Ok-written-clause-traced
returns-in-Ok-written-clause-traced g c =
    let old = g.O.Sink.told c.args.out.now in
    let mid = g.O.Sink.told c.write_lines-written.new.out in
    let new = g.O.Sink.told c.write.new.out in
    let body = c.in-Ok-written.ensures.whole (beginning (look_of c.in-Ok.desk.graph).key c.args.units) c.in-Ok.ensures in
    ok_so c.write.result c.write.ensures.whole (got_trace (look_of c.in-Ok.desk.graph).key c.args.units c.args.lines.now old mid new body)

pub returns-in-Ok-written-clause-stopped : goal.returns-in-Ok-written-clause-stopped
returns-in-Ok-written-clause-stopped g c =
    let old = g.O.Sink.told c.args.out.now in
    let mid = g.O.Sink.told c.write_lines-written.new.out in
    let new = g.O.Sink.told c.write.new.out in
    let before = g.O.Sink.faults c.args.out.now in
    let between = g.O.Sink.faults c.write_lines-written.new.out in
    let after = g.O.Sink.faults c.write.new.out in
    let body = c.in-Ok-written.ensures.whole (beginning (look_of c.in-Ok.desk.graph).key c.args.units) c.in-Ok.ensures in
    err_then (λ (f : Fault). (f ≡ WriteFault) × Rose between after) (IsStopped (Trace c.args.units c.args.lines.now) old new before after) c.write.result c.write.ensures.fault
    (λ f is. end_broken (look_of c.in-Ok.desk.graph).key c.args.units c.args.lines.now old mid new before between after f body c.write.ensures.front c.write_lines-written.ensures.keeps_sink.later is.1 is.0)

pub returns-in-Err-clause-stopped : goal.returns-in-Err-clause-stopped
returns-in-Err-clause-stopped g c =
    let old = g.O.Sink.told c.args.out.now in
    let new = g.O.Sink.told c.write_lines-written.new.out in
    let before = g.O.Sink.faults c.args.out.now in
    let after = g.O.Sink.faults c.write_lines-written.new.out in
    lines_broken (look_of c.in-Ok.desk.graph).key c.args.units c.args.lines.now (on_desk c.write_lines-written.new.desk) old new before after c.in-Err.fault (c.in-Err.ensures.broken (beginning (look_of c.in-Ok.desk.graph).key c.args.units) c.in-Ok.ensures)

pub close-requires : goal.close-requires
close-requires g c = all_in c.give_back-graph.result c.give_back-graph.ensures c.law_of_worlds.ensures.files
