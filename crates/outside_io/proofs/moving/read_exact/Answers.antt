use Rattle.std.proofs.Common.{rules, ◌≡◌, ◌≤◌, ◌<◌, ◌+◌, ◌∙◌, length-drop, arith, Some}
use Rattle.outside_io.proofs.Asked.{asks-more}
use Rattle.outside_io.proofs.Filled.{filled-more, filled-within}
use Rattle.outside_io.proofs.moving.read_exact.Goals as goal

pub returns-in-Ok-eq0-clause-short : goal.returns-in-Ok-eq0-clause-short
returns-in-Ok-eq0-clause-short g c =
    let offset = g.S.Source.offset c.args.source.now in
    let at : c.offset.result ≡ offset + c.loop-done.done =
    omega (arith, c.offset.ensures.value, c.in-Ok-eq0.ensures.offset, c.in-Ok-eq0.field-0-test, c.loop-done.invariant.offset) in
    let below : offset + c.loop-done.done < g.S.Source.size c.args.source.now =
    omega (arith, c.requires, c.loop-done.auto.buf, c.loop-done-test.true) in
    record {
      whole = search rules;
      below = omega (arith, at, below);
      started = omega (arith, at);
      stopped = λ end is.
          let e : g.S.Source.ends c.loop-done.source ≡ Some end = c.loop-done.invariant.ends ∙ is in
          let gives = c.in-Ok-eq0.ensures.gives end e in
          let within = c.loop-done.invariant.within_end end is in
          let reached : end ≤ g.S.Source.offset c.loop-done.source = grind (arith, gives, below, c.in-Ok-eq0.field-0-test, c.loop-done.invariant.offset, c.loop-done.invariant.size) in
          omega (arith, at, reached, within, c.loop-done.invariant.offset);
    }

pub returns-in-Ok-eq0-clause-unfinished : goal.returns-in-Ok-eq0-clause-unfinished
returns-in-Ok-eq0-clause-unfinished g c =
    omega (arith, c.offset.ensures.value, c.in-Ok-eq0.ensures.offset, c.in-Ok-eq0.field-0-test, c.loop-done.invariant.offset, c.loop-done.auto.buf, c.loop-done-test.true)

pub loop-done-preserved : goal.loop-done-preserved
loop-done-preserved g c = record {
  within = filled-within c.loop-done.buf c.read.new.buf _ c.loop-done.done c.in-Ok.count c.loop-done.invariant.within c.in-Ok.ensures.bound.0;
  offset = omega (arith, c.in-Ok.ensures.offset, c.loop-done.invariant.offset);
  told = search rules;
  name = search rules;
  ends = search rules;
  size = search rules;
  read = search rules;
  asks = asks-more _ _ _ _ _ c.loop-done.invariant.asks c.read.ensures.asked (omega (arith, length-drop c.loop-done.done c.loop-done.buf, c.loop-done.invariant.offset, c.loop-done.invariant.within, c.loop-done.auto.buf));
  within_end = λ end is.
      let e : g.S.Source.ends c.loop-done.source ≡ Some end = c.loop-done.invariant.ends ∙ is in
      let s = c.in-Ok.ensures.stops end e in
      omega (arith, s, c.loop-done.invariant.within_end end is);
  filled = λ x is.
      let read = c.in-Ok.ensures.bytes x (c.loop-done.invariant.told ∙ is) in
      filled-more x c.loop-done.buf c.read.new.buf _ _ _ c.loop-done.done c.in-Ok.count c.loop-done.invariant.within c.loop-done.invariant.offset c.in-Ok.ensures.bound.0 (c.loop-done.invariant.filled x is) read;
}
