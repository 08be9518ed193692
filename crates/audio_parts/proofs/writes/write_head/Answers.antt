use Rattle.std.proofs.Common.{◌≡◌, List, ℕ, subst, ◌∙◌, OnOk}
use Rattle.std.specs.Io.KnownBytes.{append_known}
use Rattle.outside_io.specs.Moves.{AppendsFront}
use Rattle.audio_parts.proofs.Sinking.{headed_due, fresh_due}
use Rattle.audio_parts.proofs.writes.write_head.Goals as goal

pub returns-then-is_headed-clause-whole : goal.returns-then-is_headed-clause-whole
returns-then-is_headed-clause-whole g c =
    subst (λ (l : List ℕ). OnOk c.write_piece.result (g.K.Sink.told c.write_piece.new.sink ≡ append_known (g.K.Sink.told c.args.sink.now) l))
    (headed_due c.args.is_headed c.args.format c.args.planned c.if-is_headed.true) c.write_piece.ensures.whole

pub returns-clause-whole : goal.returns-clause-whole
returns-clause-whole g c =
    subst (λ (l : List ℕ). OnOk c.write_piece-2.result (g.K.Sink.told c.write_piece-2.new.sink ≡ append_known (g.K.Sink.told c.args.sink.now) l))
    (c.head_bytes-count.ensures.written ∙ fresh_due c.args.is_headed c.args.format c.args.planned c.if-is_headed.false) c.write_piece-2.ensures.whole

pub returns-clause-front : goal.returns-clause-front
returns-clause-front g c =
    subst (λ (l : List ℕ). AppendsFront (g.K.Sink.told c.args.sink.now) (g.K.Sink.told c.write_piece-2.new.sink) l)
    (c.head_bytes-count.ensures.written ∙ fresh_due c.args.is_headed c.args.format c.args.planned c.if-is_headed.false) c.write_piece-2.ensures.front
