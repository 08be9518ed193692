use Rattle.std.proofs.Common.{rules, ◌≡◌, ℕ, ◌≤◌, ◌+◌, ◌/◌, Some, length, take, drop, ap, subst, ◌∙◌, arith, length-append, length-drop}
use Rattle.std.proofs.lemmas.Result.{err_from_is_err_and}
use Rattle.std.proofs.lemmas.List.{length-take}
use Rattle.outside_io.specs.Moves.{AppendsFront}
use Rattle.std.specs.Io.KnownBytes.{append_known}
use Rattle.rtp_parts.specs.Packing.{packet_count, texts_of}
use Rattle.rtp_parts.proofs.PackAnswers.{stop_later}
use Rattle.rtp_parts.proofs.PackedTexts.{part_read, sent_more, sent_front, front-whole, cut_again}
use Rattle.rtp_parts.proofs.packing.pack_samples.Goals as goal

pub loop-done-preserved : goal.loop-done-preserved
loop-done-preserved g c =
    let count = c.min-count.result in
    let whole = c.loop-done.invariant.cut c.loop-done-test.true in
    let long : length (take count c.loop-done.samples) ≡ count = omega (arith, length-take count c.loop-done.samples, c.loop-done.invariant.samples, c.min-count.ensures) in
    record {
      within = omega (arith, c.min-count.ensures, c.loop-done-test.true);
      cut = cut_again c.loop-done.done c.args.frames count whole c.min-count.ensures;
      samples = omega (arith, long, c.pack_piece.auto.samples, c.loop-done.invariant.samples, length-append c.pack_piece.new.samples (drop count c.loop-done.samples), length-drop count c.loop-done.samples);
      records = search rules;
      offset = omega (arith, c.in_ok-pack_piece.ensures.offset, long, c.loop-done.invariant.offset);
      told = search rules;
      src_name = search rules;
      ends = search rules;
      size = search rules;
      read = search rules;
      within_end = λ end is.
          let e : g.S.Source.ends c.loop-done.src ≡ Some end = c.loop-done.invariant.ends ∙ is in
          let reached = c.in_ok-pack_piece.ensures.reached end e in
          omega (arith, reached, c.loop-done.invariant.within_end end is);
      name = search rules;
      write = search rules;
      sent = λ bytes is.
          let all = take c.args.frames (drop (g.S.Source.offset c.args.src.now) bytes) in
          let piece = part_read bytes (g.S.Source.offset c.args.src.now) c.args.frames c.loop-done.done count _ _ whole c.loop-done-test.true c.min-count.ensures c.loop-done.invariant.offset long in
          sent_more c.args.companding all _ _ _ c.loop-done.done count whole (c.loop-done.invariant.sent bytes is)
          (c.in_ok-pack_piece.ensures.whole bytes (c.loop-done.invariant.told ∙ is) all piece
          ∙ ap (λ (n : ℕ). append_known (g.K.Sink.told c.loop-done.snk) (texts_of c.args.companding all (c.loop-done.done / 160) (packet_count n))) long);
    }

pub returns-in_err-pack_piece-clause-front : goal.returns-in_err-pack_piece-clause-front
returns-in_err-pack_piece-clause-front g c = λ bytes is.
    let count = c.min-count.result in
    let whole = c.loop-done.invariant.cut c.loop-done-test.true in
    let long : length (take count c.loop-done.samples) ≡ count = omega (arith, length-take count c.loop-done.samples, c.loop-done.invariant.samples, c.min-count.ensures) in
    let all = take c.args.frames (drop (g.S.Source.offset c.args.src.now) bytes) in
    let piece = part_read bytes (g.S.Source.offset c.args.src.now) c.args.frames c.loop-done.done count _ _ whole c.loop-done-test.true c.min-count.ensures c.loop-done.invariant.offset long in
    let within : c.loop-done.done + count ≤ c.args.frames = omega (arith, c.min-count.ensures, c.loop-done-test.true) in
    sent_front c.args.companding all _ _ _ c.args.frames c.loop-done.done count whole within (c.loop-done.invariant.sent bytes is)
    (subst (λ (n : ℕ). AppendsFront (g.K.Sink.told c.loop-done.snk) (g.K.Sink.told c.pack_piece.new.snk) (texts_of c.args.companding all (c.loop-done.done / 160) (packet_count n))) long
    (c.pack_piece.ensures.front bytes (c.loop-done.invariant.told ∙ is) all piece))

pub returns-clause-front : goal.returns-clause-front
returns-clause-front g c = λ bytes is.
    let all : c.loop-done.done ≡ c.args.frames = omega (arith, c.loop-done-test.false, c.loop-done.invariant.within) in
    front-whole _ _ _ (c.loop-done.invariant.sent bytes is
    ∙ ap (λ (n : ℕ). append_known (g.K.Sink.told c.args.snk.now) (texts_of c.args.companding (take c.args.frames (drop (g.S.Source.offset c.args.src.now) bytes)) 0 (packet_count n))) all)

pub returns-in_err-pack_piece-clause-stop : goal.returns-in_err-pack_piece-clause-stop
returns-in_err-pack_piece-clause-stop g c =
    let p = err_from_is_err_and c.from_residual.result c.from_residual.ensures.1 in
    let before = c.loop-done.invariant in
    rw (p.1, p.2) (stop_later _ _ _ _ _ _ _ _ _ _ _ _ c.in_err-pack_piece.field-0.0 before.size before.ends (omega (arith, before.offset)) before.within_end before.read before.write c.in_err-pack_piece.ensures.stop)
