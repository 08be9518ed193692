use Rattle.std.proofs.Common.{◌≡◌, ℕ, replicate, sym, ap, subst, ◌∙◌, arith}
use Rattle.std.specs.Io.KnownBytes.{append_known}
use Rattle.outside_io.proofs.Known.{append_known-nil}
use Rattle.outside_io.specs.Moves.{AppendsFront}
use Rattle.rtp_parts.specs.Packets.{silence_of}
use Rattle.rtp_parts.proofs.PackedTexts.{front-then}
use Rattle.rtp_parts.proofs.pieces.write_piece.Goals as goal
use Rattle.rtp_parts.proofs.pieces.write_piece.Goals.{then-piece-gt0+in_ok-write_silence, else-piece-gt0}

pub returns-clause-front : goal.returns-clause-front
returns-clause-front g c =
    let code = silence_of c.args.companding in
    let count = c.args.piece.now.silence in
    let before = g.K.Sink.told c.args.snk.now in
    let sent : g.K.Sink.told c.if-piece-gt0.snk ≡ append_known before (replicate count code) =
    elim c.if-piece-gt0.branch [
      | then-piece-gt0+in_ok-write_silence w ↦ ap g.K.Sink.told w.snk-is ∙ w.in_ok-write_silence.ensures.whole
      | else-piece-gt0 w ↦
          ap g.K.Sink.told w.snk-is ∙ sym (append_known-nil before)
          ∙ ap (λ (n : ℕ). append_known before (replicate n code)) (let e : 0 ≡ count = omega (arith, w.if-piece-gt0.false) in e)
    ] in
    front-then before (g.K.Sink.told c.if-piece-gt0.snk) (g.K.Sink.told c.write_all.new.sink) (replicate count code) c.args.piece.now.payload.items sent
    (subst (AppendsFront (g.K.Sink.told c.if-piece-gt0.snk) (g.K.Sink.told c.write_all.new.sink)) c.deref.ensures.value c.write_all.ensures.front)
