use Rattle.std.proofs.Common.{sym, subst, ◌∙◌}
use Rattle.omx_types.specs.declared.fault.Fault.{Fault}
use Rattle.clock_core.specs.Printed.{IsStopped}
use Rattle.omxrun.proofs.Causes.{risen}
use Rattle.omxrun.proofs.Clocks.{clock-whole, clock-risen, clock-failed, clock-told}
use Rattle.omxrun.proofs.clock.clock_script.Goals as goal

pub returns-then-faults-before-clause-clocked : goal.returns-then-faults-before-clause-clocked
returns-then-faults-before-clause-clocked g c =
    clock-risen c.args.bytes.now (g.O.Sink.told c.args.out.now) (g.O.Sink.told c.run_clock-outcome.new.out) (g.O.Sink.faults c.args.out.now) (g.O.Sink.faults c.run_clock-outcome.new.out) c.run_clock-outcome.result
    c.run_clock-outcome.ensures.script c.run_clock-outcome.ensures.whole c.run_clock-outcome.ensures.stopped
    (risen (g.O.Sink.faults c.args.out.now) (g.O.Sink.faults c.run_clock-outcome.new.out) c.run_clock-outcome.ensures.keeps_sink.later (λ same. c.if-faults-before.true (c.faults.ensures ∙ same ∙ sym c.faults-before.ensures)))

pub returns-in-Ok-clause-clocked : goal.returns-in-Ok-clause-clocked
returns-in-Ok-clause-clocked g c =
    clock-whole c.args.bytes.now (g.O.Sink.told c.args.out.now) (g.O.Sink.told c.run_clock-outcome.new.out) (g.O.Sink.faults c.args.out.now) (g.O.Sink.faults c.run_clock-outcome.new.out) c.in-Ok.ensures.script c.in-Ok.ensures.whole
    (sym c.faults.ensures ∙ c.if-faults-before.false ∙ c.faults-before.ensures)

pub returns-in-WriteFault-clause-clocked : goal.returns-in-WriteFault-clause-clocked
returns-in-WriteFault-clause-clocked g c =
    clock-failed c.args.bytes.now (g.O.Sink.told c.args.out.now) (g.O.Sink.told c.run_clock-outcome.new.out) (g.O.Sink.faults c.args.out.now) (g.O.Sink.faults c.run_clock-outcome.new.out)
    (subst (λ (fault : Fault). IsStopped c.args.bytes.now (g.O.Sink.told c.args.out.now) (g.O.Sink.told c.run_clock-outcome.new.out) (g.O.Sink.faults c.args.out.now) (g.O.Sink.faults c.run_clock-outcome.new.out) fault) c.in-WriteFault.is c.in-Err.ensures.stopped)

pub returns-in_default-clause-clocked : goal.returns-in_default-clause-clocked
returns-in_default-clause-clocked g c =
    clock-told c.args.bytes.now (g.O.Sink.told c.args.out.now) (g.O.Sink.told c.run_clock-outcome.new.out) (g.O.Sink.told c.report.new.out) (g.O.Sink.faults c.args.out.now) (g.O.Sink.faults c.run_clock-outcome.new.out) (g.O.Sink.faults c.report.new.out) c.in-Err.fault c.report.result
    c.in_default.not-WriteFault c.in-Err.ensures.stopped (sym c.faults.ensures ∙ c.if-faults-before.false ∙ c.faults-before.ensures) c.report.ensures.reported
