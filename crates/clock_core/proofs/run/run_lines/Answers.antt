use Rattle.std.proofs.Common.{◌∙◌, arith}
use Rattle.std.proofs.lemmas.Result.{err_from_is_err_and}
use Rattle.clock_core.specs.Clock.{opening}
use Rattle.clock_core.specs.Printed.{calls_in, printed}
use Rattle.line_text.specs.Lines.{lines_of}
use Rattle.clock_core.proofs.Sent.{Sent-line, failed-end, failed-line}
use Rattle.clock_core.proofs.run.run_lines.Goals as goal

pub loop-line-preserved : goal.loop-line-preserved
loop-line-preserved g c = record {
  sent = Sent-line (g.O.Sink.told c.args.out.now) (g.O.Sink.told c.loop-line.out) (g.O.Sink.told c.run_line.new.out) c.loop-line.number c.in_ok-number.number c.loop-line.clock c.run_line.new.clock
      c.loop-line.rest.now c.in-Some.line.now c.in-Some.behind.now _ c.in-Some.ensures.some c.in_ok-number.ensures.ran c.loop-line.invariant.sent;
  small = omega (arith, c.loop-line.invariant.small, c.in_ok-number.ensures.close, c.in-Some.ensures.shorter);
  later = omega (arith, c.loop-line.invariant.later, c.run_line.ensures.keeps_sink.later);
  stays = c.in_ok-number.ensures.stays ∙ c.loop-line.invariant.stays;
  name = c.run_line.ensures.keeps_sink.name ∙ c.loop-line.invariant.name;
  writing = λ is. c.in_ok-number.ensures.writing (c.loop-line.invariant.writing is);
}

pub returns-in_err-number-clause-failed : goal.returns-in_err-number-clause-failed
returns-in_err-number-clause-failed g c =
    let p = err_from_is_err_and c.from_residual.result c.from_residual.ensures.1 in
    rw (p.1, p.2) (failed-line c.in_err-number.field-0.0 (g.O.Sink.faults c.args.out.now) (g.O.Sink.faults c.loop-line.out) (g.O.Sink.faults c.run_line.new.out)
    (g.O.Sink.told c.args.out.now) (g.O.Sink.told c.loop-line.out) (g.O.Sink.told c.run_line.new.out) c.loop-line.number c.loop-line.clock c.loop-line.rest.now c.in-Some.line.now c.in-Some.behind.now
    (printed 1 opening (calls_in (lines_of c.args.text.now))) c.in-Some.ensures.some c.loop-line.invariant.sent c.loop-line.invariant.later c.in_err-number.ensures.failed)

pub returns-clause-failed : goal.returns-clause-failed
returns-clause-failed g c =
    failed-end c.write.result (g.O.Sink.faults c.args.out.now) (g.O.Sink.faults c.loop-line.out) (g.O.Sink.faults c.write.new.out)
    (g.O.Sink.told c.args.out.now) (g.O.Sink.told c.loop-line.out) (g.O.Sink.told c.write.new.out) c.loop-line.number c.loop-line.clock c.loop-line.rest.now
    (printed 1 opening (calls_in (lines_of c.args.text.now))) c.in_default.ensures.none c.loop-line.invariant.sent c.loop-line.invariant.later c.write.ensures.failed
