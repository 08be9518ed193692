use Rattle.std.proofs.Common.{rules, ◌≡◌, ◌≤◌, ◌-◌, drop, ap, ◌∙◌, arith, Some, length, length-drop}
use Rattle.std.proofs.lemmas.List.{take_all}
use Rattle.std.specs.Io.KnownBytes.{append_known}
use Rattle.outside_io.proofs.Moved.{moved-piece, moved-part, moved-so_far}
use Rattle.outside_io.proofs.moving.pump.Goals as goal

pub returns-then-at-size-clause-whole : goal.returns-then-at-size-clause-whole
returns-then-at-size-clause-whole g c = λ x is.
    let start = g.S.Source.offset c.args.source.now in
    let told : g.S.Source.told c.loop-buf.source ≡ Some x = c.loop-buf.invariant.told ∙ is in
    let len = c.size-size.ensures.told x told in
    let all : length (drop start x) ≤ g.S.Source.offset c.loop-buf.source - start = omega (arith, len, length-drop start x) in
    c.loop-buf.invariant.moved x is ∙ ap (append_known (g.K.Sink.told c.args.sink.now)) (take_all _ (drop start x) all)

pub returns-then-at-size-clause-front : goal.returns-then-at-size-clause-front
returns-then-at-size-clause-front g c = λ x is.
    moved-so_far _ _ x _ _ _ c.size-size.ensures.within (c.size-size.ensures.told x (c.loop-buf.invariant.told ∙ is)) (c.loop-buf.invariant.moved x is)

pub returns-in-Err-clause-front : goal.returns-in-Err-clause-front
returns-in-Err-clause-front g c = λ x is.
    moved-so_far _ _ x _ _ _ c.size-size.ensures.within (c.size-size.ensures.told x (c.loop-buf.invariant.told ∙ is)) (c.loop-buf.invariant.moved x is)

pub returns-in-Ok-eq0-clause-front : goal.returns-in-Ok-eq0-clause-front
returns-in-Ok-eq0-clause-front g c = λ x is.
    moved-so_far _ _ x _ _ _ c.size-size.ensures.within (c.size-size.ensures.told x (c.loop-buf.invariant.told ∙ is)) (c.loop-buf.invariant.moved x is)

pub returns-in-Ok-eq0-clause-short : goal.returns-in-Ok-eq0-clause-short
returns-in-Ok-eq0-clause-short g c = record {
  whole = search rules;
  below = omega arith;
  started = search rules;
  stopped = λ end is.
      let e : g.S.Source.ends c.loop-buf.source ≡ Some end = c.loop-buf.invariant.ends ∙ is in
      let gives = c.in-Ok-eq0.ensures.gives end e in
      let within = c.loop-buf.invariant.within_end end is in
      let reached : end ≤ g.S.Source.offset c.loop-buf.source = grind (arith, gives) in
      omega arith;
}

pub returns-in-Err-write_all-clause-front : goal.returns-in-Err-write_all-clause-front
returns-in-Err-write_all-clause-front g c = λ x is.
    let read = c.in-Ok.ensures.bytes x (c.loop-buf.invariant.told ∙ is) in
    let len = c.size-size.ensures.told x (c.loop-buf.invariant.told ∙ is) in
    let within : g.S.Source.offset c.loop-buf.source ≤ length x = omega (arith, len) in
    moved-part _ _ _ x c.read.new.buf _ _ c.in-Ok.count c.loop-buf.invariant.offset within (c.loop-buf.invariant.moved x is) read c.write_all.ensures.front

pub loop-buf-preserved : goal.loop-buf-preserved
loop-buf-preserved g c = record {
  offset = search rules;
  told = search rules;
  source_name = search rules;
  ends = search rules;
  size = search rules;
  read = search rules;
  within_end = λ end is.
      let e : g.S.Source.ends c.loop-buf.source ≡ Some end = c.loop-buf.invariant.ends ∙ is in
      let s = c.in-Ok.ensures.stops end e in
      omega (arith, s, c.loop-buf.invariant.within_end end is);
  name = search rules;
  write = search rules;
  moved = λ x is.
      let read = c.in-Ok.ensures.bytes x (c.loop-buf.invariant.told ∙ is) in
      moved-piece _ _ _ x c.read.new.buf _ _ c.in-Ok.count _ c.loop-buf.invariant.offset c.in-Ok.ensures.offset (c.loop-buf.invariant.moved x is) read c.in-Ok-write_all.ensures.whole;
}
