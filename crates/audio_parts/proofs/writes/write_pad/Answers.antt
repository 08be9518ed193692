use Rattle.std.proofs.Common.{◌≡◌, ◌*◌, ◌%◌, List, [], ◌∷◌, ℕ, ap, sym, subst, ◌∙◌, OnOk, arith}
use Rattle.std.specs.Io.KnownBytes.{append_known}
use Rattle.omx_types.specs.Formats.{frame_bytes_of}
use Rattle.outside_io.specs.Moves.{AppendsFront}
use Rattle.part_forms.specs.Sinking.{pad_due}
use Rattle.audio_parts.proofs.Sinking.{not_last, pad_is}
use Rattle.audio_parts.proofs.writes.write_pad.Goals as goal

pub returns-then-not-is_last-clause-whole : goal.returns-then-not-is_last-clause-whole
returns-then-not-is_last-clause-whole g c =
    subst (λ (l : List ℕ). OnOk c.write_piece.result (g.K.Sink.told c.write_piece.new.sink ≡ append_known (g.K.Sink.told c.args.sink.now) l))
    (not_last c.args.is_last c.args.format c.args.planned c.if-not-is_last.true) c.write_piece.ensures.whole

pub returns-then-odd-eq1-clause-whole : goal.returns-then-odd-eq1-clause-whole
returns-then-odd-eq1-clause-whole g c =
    let odd : 1 ≡ c.args.planned * frame_bytes_of c.args.format % 2 = sym c.if-odd-eq1.true ∙ ap (λ n. c.args.planned * n % 2) (c.from.ensures ∙ c.frame_bytes.ensures) in
    let pad : 0 ∷ [] ≡ pad_due c.args.is_last c.args.format c.args.planned = pad_is c.args.is_last c.args.format c.args.planned 1 c.if-not-is_last.false odd in
    subst (λ (l : List ℕ). OnOk c.write_piece-then-odd-eq1.result (g.K.Sink.told c.write_piece-then-odd-eq1.new.sink ≡ append_known (g.K.Sink.told c.args.sink.now) l))
    pad c.write_piece-then-odd-eq1.ensures.whole

pub returns-then-odd-eq1-clause-front : goal.returns-then-odd-eq1-clause-front
returns-then-odd-eq1-clause-front g c =
    let odd : 1 ≡ c.args.planned * frame_bytes_of c.args.format % 2 = sym c.if-odd-eq1.true ∙ ap (λ n. c.args.planned * n % 2) (c.from.ensures ∙ c.frame_bytes.ensures) in
    let pad : 0 ∷ [] ≡ pad_due c.args.is_last c.args.format c.args.planned = pad_is c.args.is_last c.args.format c.args.planned 1 c.if-not-is_last.false odd in
    subst (λ (l : List ℕ). AppendsFront (g.K.Sink.told c.args.sink.now) (g.K.Sink.told c.write_piece-then-odd-eq1.new.sink) l)
    pad c.write_piece-then-odd-eq1.ensures.front

pub returns-clause-whole : goal.returns-clause-whole
returns-clause-whole g c =
    let even : c.args.planned * c.from.result % 2 ≡ 0 = omega (arith, c.if-odd-eq1.false) in
    let odd : 0 ≡ c.args.planned * frame_bytes_of c.args.format % 2 = sym even ∙ ap (λ n. c.args.planned * n % 2) (c.from.ensures ∙ c.frame_bytes.ensures) in
    let pad : [] ≡ pad_due c.args.is_last c.args.format c.args.planned = pad_is c.args.is_last c.args.format c.args.planned 0 c.if-not-is_last.false odd in
    subst (λ (l : List ℕ). OnOk c.write_piece-2.result (g.K.Sink.told c.write_piece-2.new.sink ≡ append_known (g.K.Sink.told c.args.sink.now) l))
    pad c.write_piece-2.ensures.whole
