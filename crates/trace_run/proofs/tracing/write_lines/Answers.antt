use Rattle.std.proofs.Common.{◌∙◌, arith, rules}
use Rattle.trace_run.specs.Desks.{on_desk}
use Rattle.trace_run.proofs.Written.{all_written, line_broken, line_carried, line_cut, waiting_broken}
use Rattle.trace_run.proofs.tracing.write_lines.Goals as goal

pub returns-in_err-gather-clause-broken : goal.returns-in_err-gather-clause-broken
returns-in_err-gather-clause-broken g c =
    line_broken (on_desk c.args.desk.now) (on_desk c.loop-place.desk) c.args.lines.now c.loop-place.place c.loop-place.waiting.items (g.O.Sink.told c.args.out.now) (g.O.Sink.told c.loop-place.out) (g.O.Sink.told c.gather.new.out) c.loop-place.invariant.carries
    (on_desk c.put_line.new.desk) c.index-lines-place.result (omega arith) c.index-lines-place.is c.clear.new.self.items c.put_line.new.text.items c.clear.ensures.items (search rules)
    (g.O.Sink.faults c.args.out.now) (g.O.Sink.faults c.loop-place.out) (g.O.Sink.faults c.gather.new.out) c.loop-place.invariant.later (search rules) c.from_residual-in_err-gather.result (search rules)

pub loop-place-preserved : goal.loop-place-preserved
loop-place-preserved g c = record {
  stood = c.put_line.ensures.stood;
  carries = line_carried (on_desk c.args.desk.now) (on_desk c.loop-place.desk) c.args.lines.now c.loop-place.place c.loop-place.waiting.items (g.O.Sink.told c.args.out.now) (g.O.Sink.told c.loop-place.out) (g.O.Sink.told c.gather.new.out) c.loop-place.invariant.carries
      (on_desk c.put_line.new.desk) c.index-lines-place.result (omega arith) c.index-lines-place.is c.clear.new.self.items c.put_line.new.text.items c.clear.ensures.items (search rules) c.gather.new.waiting.items (search rules);
  later = omega (arith, c.loop-place.invariant.later, c.in_ok-gather.ensures.keeps_sink.later);
  stays = c.in_ok-gather.ensures.stays ∙ c.loop-place.invariant.stays;
  name = c.in_ok-gather.ensures.keeps_sink.name ∙ c.loop-place.invariant.name;
  writing = λ is. c.in_ok-gather.ensures.writing (c.loop-place.invariant.writing is);
}

pub returns-in_err-write-clause-broken : goal.returns-in_err-write-clause-broken
returns-in_err-write-clause-broken g c =
    waiting_broken (on_desk c.args.desk.now) (on_desk c.loop-place.desk) c.args.lines.now c.loop-place.place c.loop-place.waiting.items (g.O.Sink.told c.args.out.now) (g.O.Sink.told c.loop-place.out) (g.O.Sink.told c.write.new.out) c.loop-place.invariant.carries
    (on_desk c.put_line.new.desk) (g.O.Sink.faults c.args.out.now) (g.O.Sink.faults c.loop-place.out) (g.O.Sink.faults c.write.new.out) c.loop-place.invariant.later (search rules) c.from_residual.result (search rules)

pub returns-then-is_err-clause-broken : goal.returns-then-is_err-clause-broken
returns-then-is_err-clause-broken g c =
    line_cut (on_desk c.args.desk.now) (on_desk c.loop-place.desk) c.args.lines.now c.loop-place.place c.loop-place.waiting.items (g.O.Sink.told c.args.out.now) (g.O.Sink.told c.loop-place.out) (g.O.Sink.told c.write.new.out) c.loop-place.invariant.carries
    (on_desk c.put_line.new.desk) c.index-lines-place.result (omega arith) c.index-lines-place.is (search rules) (search rules) (g.O.Sink.faults c.args.out.now) (g.O.Sink.faults c.write.new.out)

pub returns-clause-whole : goal.returns-clause-whole
returns-clause-whole g c =
    all_written (on_desk c.args.desk.now) (on_desk c.loop-place.desk) c.args.lines.now c.loop-place.place c.loop-place.waiting.items (g.O.Sink.told c.args.out.now) (g.O.Sink.told c.loop-place.out) (g.O.Sink.told c.write-2.new.out) c.loop-place.invariant.carries
    (omega arith) c.write-2.result (search rules)

pub returns-clause-broken : goal.returns-clause-broken
returns-clause-broken g c =
    waiting_broken (on_desk c.args.desk.now) (on_desk c.loop-place.desk) c.args.lines.now c.loop-place.place c.loop-place.waiting.items (g.O.Sink.told c.args.out.now) (g.O.Sink.told c.loop-place.out) (g.O.Sink.told c.write-2.new.out) c.loop-place.invariant.carries
    (on_desk c.loop-place.desk) (g.O.Sink.faults c.args.out.now) (g.O.Sink.faults c.loop-place.out) (g.O.Sink.faults c.write-2.new.out) c.loop-place.invariant.later (search rules) c.write-2.result c.write-2.ensures.fault
