use Rattle.std.proofs.Common.{rules, ◌≡◌, take, replicate, ap, ◌∙◌, subst, arith}
use Rattle.std.proofs.lemmas.List.{take-replicate}
use Rattle.std.specs.Io.KnownBytes.{append_known}
use Rattle.outside_io.specs.Moves.{AppendsFront}
use Rattle.rtp_parts.proofs.PiecesSent.{repeated_more, repeated_front}
use Rattle.rtp_parts.proofs.pieces.write_repeated.Goals as goal

pub loop-done-preserved : goal.loop-done-preserved
loop-done-preserved g c =
    let more = c.min-more.result in
    let slice : take more c.args.codes.now ≡ replicate more c.args.code = ap (take more) c.requires.codes ∙ take-replicate more 4096 c.args.code (omega (arith, c.min-more.ensures)) in
    record {
      within = omega (arith, c.min-more.ensures, c.loop-done-test.true);
      told = repeated_more _ _ _ c.args.code c.loop-done.done more c.loop-done.invariant.told (c.in_ok-write_all.ensures.whole ∙ ap (append_known (g.K.Sink.told c.loop-done.snk)) slice);
      name = search rules;
      stays = c.in_ok-write_all.ensures.cause.stays ∙ c.loop-done.invariant.stays;
    }

pub returns-in_err-write_all-clause-front : goal.returns-in_err-write_all-clause-front
returns-in_err-write_all-clause-front g c =
    let more = c.min-more.result in
    let slice : take more c.args.codes.now ≡ replicate more c.args.code = ap (take more) c.requires.codes ∙ take-replicate more 4096 c.args.code (omega (arith, c.min-more.ensures)) in
    repeated_front _ _ _ c.args.code c.loop-done.done more c.args.count c.loop-done.invariant.told (omega (arith, c.min-more.ensures, c.loop-done-test.true))
    (subst (AppendsFront (g.K.Sink.told c.loop-done.snk) (g.K.Sink.told c.write_all.new.sink)) slice c.write_all.ensures.front)
