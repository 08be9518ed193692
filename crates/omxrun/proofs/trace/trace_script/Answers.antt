use Rattle.std.proofs.Common.{sym, subst, ◌∙◌}
use Rattle.omx_types.specs.declared.fault.Fault.{Fault}
use Rattle.trace_run.specs.Traced.{IsStopped}
use Rattle.omxrun.proofs.Causes.{risen}
use Rattle.omxrun.proofs.Traces.{stopped-writing, told-memory, told-risen, told-stopped}
use Rattle.omxrun.proofs.trace.trace_script.Goals as goal

pub returns-then-faults-before-clause-traced : goal.returns-then-faults-before-clause-traced
returns-then-faults-before-clause-traced g c =
    told-risen c.args.script.now (g.O.Sink.told c.args.out.now) (g.O.Sink.told c.trace-outcome.new.out) (g.O.Sink.faults c.args.out.now) (g.O.Sink.faults c.trace-outcome.new.out) c.trace-outcome.result
    c.trace-outcome.ensures.traced c.trace-outcome.ensures.stopped
    (risen (g.O.Sink.faults c.args.out.now) (g.O.Sink.faults c.trace-outcome.new.out) c.trace-outcome.ensures.keeps_sink.later (λ same. c.if-faults-before.true (c.faults.ensures ∙ same ∙ sym c.faults-before.ensures)))

pub returns-in-OutOfMemory-clause-traced : goal.returns-in-OutOfMemory-clause-traced
returns-in-OutOfMemory-clause-traced g c =
    told-memory c.args.script.now (g.O.Sink.told c.args.out.now) (g.O.Sink.told c.trace-outcome.new.out) (g.O.Sink.told c.report.new.out) (g.O.Sink.faults c.args.out.now) (g.O.Sink.faults c.trace-outcome.new.out) (g.O.Sink.faults c.report.new.out) c.report.result
    (subst (λ (fault : Fault). IsStopped c.args.script.now (g.O.Sink.told c.args.out.now) (g.O.Sink.told c.trace-outcome.new.out) (g.O.Sink.faults c.args.out.now) (g.O.Sink.faults c.trace-outcome.new.out) fault) c.in-OutOfMemory.is c.in-Err.ensures.stopped)
    (sym c.faults.ensures ∙ c.if-faults-before.false ∙ c.faults-before.ensures) c.report.ensures.reported

pub returns-in_default : goal.returns-in_default
returns-in_default g c = record {
  later = c.trace-outcome.ensures.keeps_sink.later;
  stopped = stopped-writing c.args.script.now (g.O.Sink.told c.args.out.now) (g.O.Sink.told c.trace-outcome.new.out) (g.O.Sink.faults c.args.out.now) (g.O.Sink.faults c.trace-outcome.new.out) (g.O.Sink.writing c.args.out.now) (g.O.Sink.writing c.trace-outcome.new.out) c.trace-outcome.result c.in-Err.fault c.in-Err.is c.in_default.not-OutOfMemory c.in-Err.ensures.stopped c.trace-outcome.ensures.writing;
  traced = told-stopped c.args.script.now (g.O.Sink.told c.args.out.now) (g.O.Sink.told c.trace-outcome.new.out) (g.O.Sink.faults c.args.out.now) (g.O.Sink.faults c.trace-outcome.new.out) c.in-Err.fault c.in_default.not-OutOfMemory c.in-Err.ensures.stopped;
  one = c.trace-outcome.ensures.one;
}
