use Rattle.std.proofs.Common.{◌≡◌, refl, sym, ◌∙◌, arith}
use Rattle.std.proofs.lemmas.Result.{err_from_is_err_and}
use Rattle.rtp_parts.specs.Answers.{unpacked_counts}
use Rattle.rtp_parts.specs.Unpacking.{unpacked}
use Rattle.rtp_parts.proofs.UnpackAnswers.{magic_failed, found_at, failed_at, front-none, wav_sent, wav_front, ends_later, moving_ends, moving_unless, counts_found}
use Rattle.rtp_parts.proofs.unpacking.unpack.Goals as goal

pub returns-in_err-check_magic-clause-answer : goal.returns-in_err-check_magic-clause-answer
returns-in_err-check_magic-clause-answer g c = λ bytes is.
    let p = err_from_is_err_and c.from_residual.result c.from_residual.ensures.1 in
    rw (p.1, p.2) (magic_failed bytes c.in_err-check_magic.field-0.0 (c.in_err-check_magic.ensures.other bytes is))

pub returns-in_err-check_magic-clause-front : goal.returns-in_err-check_magic-clause-front
returns-in_err-check_magic-clause-front g c = λ bytes is. front-none _ _

pub returns-in_err-check_magic-clause-asks_no_further : goal.returns-in_err-check_magic-clause-asks_no_further
returns-in_err-check_magic-clause-asks_no_further g c = λ bytes is other.
    let p = err_from_is_err_and c.from_residual.result c.from_residual.ensures.1 in
    rw (p.1, p.2) c.in_err-check_magic.ensures.asks_no_further

pub returns-in_err-check_magic-clause-cause : goal.returns-in_err-check_magic-clause-cause
returns-in_err-check_magic-clause-cause g c =
    let p = err_from_is_err_and c.from_residual.result c.from_residual.ensures.1 in
    rw (p.1, p.2) (ends_later _ _ _ _ _ _ _ _ _ c.in_err-check_magic.field-0.0 refl refl refl refl c.in_err-check_magic.ensures.cause)

pub returns-in_default-clause-front : goal.returns-in_default-clause-front
returns-in_default-clause-front g c = λ bytes is. front-none _ _

pub returns-in_err-companding-clause-answer : goal.returns-in_err-companding-clause-answer
returns-in_err-companding-clause-answer g c = λ bytes is.
    let p = err_from_is_err_and c.from_residual-in_err-companding.result c.from_residual-in_err-companding.ensures.1 in
    rw (p.1, p.2) (failed_at bytes c.in_err-companding.field-0.0 _ (c.in_ok-check_magic.ensures.begins bytes is) c.in_ok-check_magic.ensures.offset (c.in_err-companding.ensures.answer bytes (c.in_ok-check_magic.ensures.keeps_source.told ∙ is)))

pub returns-in_err-companding-clause-front : goal.returns-in_err-companding-clause-front
returns-in_err-companding-clause-front g c = λ bytes is. front-none _ _

pub returns-in_err-companding-clause-asks_no_further : goal.returns-in_err-companding-clause-asks_no_further
returns-in_err-companding-clause-asks_no_further g c = λ bytes is other. absurd (other (c.in_ok-check_magic.ensures.begins bytes is).0)

pub returns-in_err-companding-clause-cause : goal.returns-in_err-companding-clause-cause
returns-in_err-companding-clause-cause g c =
    let p = err_from_is_err_and c.from_residual-in_err-companding.result c.from_residual-in_err-companding.ensures.1 in
    rw (p.1, p.2) (ends_later _ _ _ _ _ _ _ _ _ c.in_err-companding.field-0.0 c.in_ok-check_magic.ensures.keeps_source.size c.in_ok-check_magic.ensures.keeps_source.ends c.in_ok-check_magic.ensures.stays refl c.in_err-companding.ensures.cause)

pub returns-in-Err-clause-front : goal.returns-in-Err-clause-front
returns-in-Err-clause-front g c = λ bytes is. front-none _ _

pub write_wav-requires-clause-reached : goal.write_wav-requires-clause-reached
write_wav-requires-clause-reached g c = λ end is.
    let same = c.in-Ok-seek_to.ensures.ends ∙ c.in_ok-companding.ensures.keeps_source.ends ∙ c.in_ok-check_magic.ensures.keeps_source.ends in
    omega (arith, c.in_ok-check_magic.ensures.reached end (sym same ∙ is), c.in-Ok-seek_to.ensures.reached)

pub returns-clause-answer : goal.returns-clause-answer
returns-clause-answer g c = λ bytes is.
    let companding = c.in_ok-companding.companding in
    let counts = c.in_ok-companding.counts in
    let whole = found_at bytes (companding, counts) _ (c.in_ok-check_magic.ensures.begins bytes is) c.in_ok-check_magic.ensures.offset (c.in_ok-companding.ensures.answer bytes (c.in_ok-check_magic.ensures.keeps_source.told ∙ is)) in
    counts_found bytes companding counts whole

pub returns-clause-file : goal.returns-clause-file
returns-clause-file g c = λ bytes is.
    let companding = c.in_ok-companding.companding in
    let counts = c.in_ok-companding.counts in
    let whole = found_at bytes (companding, counts) _ (c.in_ok-check_magic.ensures.begins bytes is) c.in_ok-check_magic.ensures.offset (c.in_ok-companding.ensures.answer bytes (c.in_ok-check_magic.ensures.keeps_source.told ∙ is)) in
    let told = c.in-Ok-seek_to.ensures.told ∙ c.in_ok-companding.ensures.keeps_source.told ∙ c.in_ok-check_magic.ensures.keeps_source.told ∙ is in
    wav_sent bytes companding counts (g.S.Source.offset c.seek_to.new.self) (g.K.Sink.told c.args.snk.now) (g.K.Sink.told c.write_wav.new.snk) whole c.in-Ok-seek_to.ensures.reached (c.in_ok-write_wav.ensures.file bytes told)

pub returns-clause-front : goal.returns-clause-front
returns-clause-front g c = λ bytes is.
    let companding = c.in_ok-companding.companding in
    let counts = c.in_ok-companding.counts in
    let whole = found_at bytes (companding, counts) _ (c.in_ok-check_magic.ensures.begins bytes is) c.in_ok-check_magic.ensures.offset (c.in_ok-companding.ensures.answer bytes (c.in_ok-check_magic.ensures.keeps_source.told ∙ is)) in
    let told = c.in-Ok-seek_to.ensures.told ∙ c.in_ok-companding.ensures.keeps_source.told ∙ c.in_ok-check_magic.ensures.keeps_source.told ∙ is in
    wav_front bytes companding counts (g.S.Source.offset c.seek_to.new.self) (g.K.Sink.told c.args.snk.now) (g.K.Sink.told c.write_wav.new.snk) whole c.in-Ok-seek_to.ensures.reached (c.in_ok-write_wav.ensures.front bytes told)

pub returns-in_err-write_wav-clause-answer : goal.returns-in_err-write_wav-clause-answer
returns-in_err-write_wav-clause-answer g c = λ bytes is.
    let p = err_from_is_err_and c.from_residual-in_err-write_wav.result c.from_residual-in_err-write_wav.ensures.1 in
    rw (p.1, p.2) (moving_unless _ _ _ _ _ _ c.in_err-write_wav.field-0.0 (λ r. r ≡ unpacked_counts (unpacked bytes)) c.in_err-write_wav.ensures.stop)

pub returns-in_err-write_wav-clause-front : goal.returns-in_err-write_wav-clause-front
returns-in_err-write_wav-clause-front g c = λ bytes is.
    let companding = c.in_ok-companding.companding in
    let counts = c.in_ok-companding.counts in
    let whole = found_at bytes (companding, counts) _ (c.in_ok-check_magic.ensures.begins bytes is) c.in_ok-check_magic.ensures.offset (c.in_ok-companding.ensures.answer bytes (c.in_ok-check_magic.ensures.keeps_source.told ∙ is)) in
    let told = c.in-Ok-seek_to.ensures.told ∙ c.in_ok-companding.ensures.keeps_source.told ∙ c.in_ok-check_magic.ensures.keeps_source.told ∙ is in
    wav_front bytes companding counts (g.S.Source.offset c.seek_to.new.self) (g.K.Sink.told c.args.snk.now) (g.K.Sink.told c.write_wav.new.snk) whole c.in-Ok-seek_to.ensures.reached (c.write_wav.ensures.front bytes told)

pub returns-in_err-write_wav-clause-asks_no_further : goal.returns-in_err-write_wav-clause-asks_no_further
returns-in_err-write_wav-clause-asks_no_further g c = λ bytes is other. absurd (other (c.in_ok-check_magic.ensures.begins bytes is).0)

pub returns-in_err-write_wav-clause-cause : goal.returns-in_err-write_wav-clause-cause
returns-in_err-write_wav-clause-cause g c =
    let p = err_from_is_err_and c.from_residual-in_err-write_wav.result c.from_residual-in_err-write_wav.ensures.1 in
    rw (p.1, p.2) (moving_ends _ _ _ _ _ _ _ _ _ c.in_err-write_wav.field-0.0 (c.in-Ok-seek_to.ensures.size ∙ c.in_ok-companding.ensures.keeps_source.size ∙ c.in_ok-check_magic.ensures.keeps_source.size) (c.in-Ok-seek_to.ensures.ends ∙ c.in_ok-companding.ensures.keeps_source.ends ∙ c.in_ok-check_magic.ensures.keeps_source.ends)
    (c.in-Ok-seek_to.ensures.cause.stays ∙ c.in_ok-companding.ensures.stays ∙ c.in_ok-check_magic.ensures.stays) c.in_err-write_wav.ensures.stop)

pub returns-in_err-check_magic-clause-asks_no_packets : goal.returns-in_err-check_magic-clause-asks_no_packets
returns-in_err-check_magic-clause-asks_no_packets g c = λ bytes is other. c.check_magic.ensures.asks

pub returns-in_default-clause-asks_no_packets : goal.returns-in_default-clause-asks_no_packets
returns-in_default-clause-asks_no_packets g c = λ bytes is other. c.check_magic.ensures.asks

pub returns-in_err-companding-clause-asks_no_packets : goal.returns-in_err-companding-clause-asks_no_packets
returns-in_err-companding-clause-asks_no_packets g c = λ bytes is other. absurd (other (c.in_ok-check_magic.ensures.begins bytes is).0)

pub returns-in-Err-clause-asks_no_packets : goal.returns-in-Err-clause-asks_no_packets
returns-in-Err-clause-asks_no_packets g c = λ bytes is other. absurd (other (c.in_ok-check_magic.ensures.begins bytes is).0)

pub returns-clause-asks_no_packets : goal.returns-clause-asks_no_packets
returns-clause-asks_no_packets g c = λ bytes is other. absurd (other (c.in_ok-check_magic.ensures.begins bytes is).0)

pub returns-in_err-write_wav-clause-asks_no_packets : goal.returns-in_err-write_wav-clause-asks_no_packets
returns-in_err-write_wav-clause-asks_no_packets g c = λ bytes is other. absurd (other (c.in_ok-check_magic.ensures.begins bytes is).0)
