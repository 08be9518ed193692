use Rattle.std.proofs.Common.{◌++◌}
use Rattle.part_forms.specs.Sinking.{head_due, pad_due}
use Rattle.audio_parts.proofs.Sinking.{front_longer, front_after}
use Rattle.audio_parts.proofs.writes.write_step.Goals as goal

pub returns-in_err-write_piece-clause-front : goal.returns-in_err-write_piece-clause-front
returns-in_err-write_piece-clause-front g c =
    let pad = pad_due c.args.is_last c.args.format c.args.planned in
    front_after _ (g.K.Sink.told c.write_head.new.sink) _ (head_due c.args.is_headed c.args.format c.args.planned) (c.args.piece.now ++ pad)
    c.in_ok-write_head.ensures.whole (front_longer _ _ c.args.piece.now pad c.in_err-write_piece.ensures.front)

pub returns-clause-front : goal.returns-clause-front
returns-clause-front g c =
    let pad = pad_due c.args.is_last c.args.format c.args.planned in
    front_after _ (g.K.Sink.told c.write_head.new.sink) _ (head_due c.args.is_headed c.args.format c.args.planned) (c.args.piece.now ++ pad)
    c.in_ok-write_head.ensures.whole (front_after _ (g.K.Sink.told c.write_piece.new.sink) _ c.args.piece.now pad c.in_ok-write_piece.ensures.whole c.write_pad.ensures.front)
