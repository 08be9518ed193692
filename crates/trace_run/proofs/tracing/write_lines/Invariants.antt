use Rattle.std.proofs.Common.{◌≡◌, ◌≤◌, take, Some}
use Rattle.outside_io.specs.declared.writing.Writing.TheVariants.{Going}
use Rattle.trace_run.specs.Desks.{on_desk}
use Rattle.trace_run.specs.Works.{HasDeskMoment}
use Rattle.trace_run.proofs.Written.{Carries}
use Rattle.trace_run.proofs.tracing.write_lines.Given as goal

abbrev pub invariant-loop-place : goal.invariant-loop-place
invariant-loop-place g l =
    let from = on_desk l.initial.desk in
    let now = on_desk l.desk in
    record {
      stood : HasDeskMoment now;
      carries : Carries from now (take l.place l.lines) l.waiting.items (g.O.Sink.told l.initial.out) (g.O.Sink.told l.out);
      later : g.O.Sink.faults l.initial.out ≤ g.O.Sink.faults l.out;
      stays : g.O.Sink.faults l.out ≡ g.O.Sink.faults l.initial.out;
      name : g.O.Sink.name l.out ≡ g.O.Sink.name l.initial.out;
      writing : g.O.Sink.writing l.initial.out ≡ Some Going → g.O.Sink.writing l.out ≡ Some Going;
    }
