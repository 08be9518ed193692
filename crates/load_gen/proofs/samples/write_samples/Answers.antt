use Rattle.std.proofs.Common.{rules, ◌≡◌, ◌∙◌, ◌+◌, ◌-◌, ◌≤◌, ℕ, ap, sym, subst, arith}
use Rattle.std.specs.Io.KnownBytes.{append_known}
use Rattle.outside_io.specs.Moves.{AppendsFront}
use Rattle.load_gen.specs.Samples.{after, samples}
use Rattle.load_gen.proofs.Generated.{after-add, written-more, written-front, written_all, piece_filled, piece_after, piece_kept}
use Rattle.load_gen.proofs.samples.write_samples.Goals as goal

pub loop-left-preserved : goal.loop-left-preserved
loop-left-preserved g c =
    let done = c.args.frames - c.loop-left.left in
    let count = c.min-count.result in
    let few : count ≤ 4096 = omega (arith, c.min-count.ensures) in
    let next : done + count ≡ c.args.frames - (c.loop-left.left - count) = omega (arith, c.min-count.ensures, c.loop-left.invariant.within) in
    let piece = piece_filled c.loop-left.piece c.fill-number.new.buf count c.loop-left.number c.loop-left.invariant.room few c.fill-number.ensures.samples
    ∙ ap (samples count) c.loop-left.invariant.number in
    record {
      within = omega (arith, c.loop-left.invariant.within);
      room = piece_kept c.loop-left.piece c.fill-number.new.buf count c.loop-left.number c.loop-left.invariant.room few c.fill-number.ensures.samples;
      number = piece_after c.loop-left.piece count c.loop-left.number c.fill-number.result c.loop-left.invariant.room few c.fill-number.ensures.after
          ∙ ap (after count) c.loop-left.invariant.number ∙ sym (after-add done count c.args.x) ∙ ap (λ (n : ℕ). after n c.args.x) next;
      told = written-more _ _ _ done count c.args.x c.loop-left.invariant.told (c.in_ok-write_all.ensures.whole ∙ ap (append_known (g.K.Sink.told c.loop-left.sink)) piece)
          ∙ ap (λ (n : ℕ). append_known (g.K.Sink.told c.args.sink.now) (samples n c.args.x)) next;
      name = search rules;
      faults = search rules;
    }

pub returns-in_err-write_all-clause-front : goal.returns-in_err-write_all-clause-front
returns-in_err-write_all-clause-front g c =
    let done = c.args.frames - c.loop-left.left in
    let count = c.min-count.result in
    let few : count ≤ 4096 = omega (arith, c.min-count.ensures) in
    let within : done + count ≤ c.args.frames = omega (arith, c.min-count.ensures, c.loop-left.invariant.within) in
    let piece = piece_filled c.loop-left.piece c.fill-number.new.buf count c.loop-left.number c.loop-left.invariant.room few c.fill-number.ensures.samples
    ∙ ap (samples count) c.loop-left.invariant.number in
    written-front _ _ _ c.args.frames done count c.args.x within c.loop-left.invariant.told
    (subst (AppendsFront (g.K.Sink.told c.loop-left.sink) (g.K.Sink.told c.write_all.new.sink)) piece c.write_all.ensures.front)

pub returns-clause-front : goal.returns-clause-front
returns-clause-front g c = written_all _ _ c.args.frames c.loop-left.left c.args.x (omega arith) c.loop-left.invariant.told
