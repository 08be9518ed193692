use Rattle.std.proofs.Common.{◌≡◌, ◌∙◌, sym, arith}
use Rattle.std.proofs.lemmas.Result.{err_from_is_err_and}
use Rattle.rtp_parts.specs.Packing.{packet_count}
use Rattle.rtp_parts.proofs.PackAnswers.{asks_none_more, asks_packable, head_fault, head_large, head_stands, wrong_format, counts_are, short_head, short_samples, stop_stands, packed-front_magic, packed-front, packed-whole}
use Rattle.rtp_parts.proofs.packing.pack.Goals as goal

pub returns-in_err-head-clause-answer : goal.returns-in_err-head-clause-answer
returns-in_err-head-clause-answer g c =
    let p = err_from_is_err_and c.from_residual.result c.from_residual.ensures.1 in
    rw (p.1) (λ bytes is head read.
    head_fault bytes c.in_err-head.field-0.0 p.0 head (c.in_err-head.ensures.reads bytes is) read p.2)

pub returns-in_err-head-clause-short : goal.returns-in_err-head-clause-short
returns-in_err-head-clause-short g c =
    let p = err_from_is_err_and c.from_residual.result c.from_residual.ensures.1 in
    rw (p.1) (short_head _ _ _ c.in_err-head.field-0.0 p.0 p.2 c.in_err-head.ensures.short c.in_err-head.ensures.asks_no_further)

pub returns-in_default-clause-answer : goal.returns-in_default-clause-answer
returns-in_default-clause-answer g c = λ bytes is head read.
    wrong_format bytes c.in_ok-head.head head (c.in_ok-head.ensures.reads bytes is) read (sym c.companding_of.ensures ∙ c.in_default.is)

pub returns-in-Err-clause-front : goal.returns-in-Err-clause-front
returns-in-Err-clause-front g c = λ bytes is head read.
    packed-front_magic _ _ bytes c.in_ok-head.head head c.in-Some.companding c.size-size.result (c.in_ok-head.ensures.reads bytes is) read (sym c.companding_of.ensures ∙ c.in-Some.is) (omega (arith, c.if-prove.false)) (c.size-size.ensures.value ∙ c.size-size.ensures.told bytes (c.in_ok-head.ensures.keeps_source.told ∙ is)) c.write_all.ensures.front

pub returns-clause-answer : goal.returns-clause-answer
returns-clause-answer g c = λ bytes is head read.
    let count : c.div_ceil.result ≡ packet_count c.in_ok-head.head.frames = omega (arith, c.div_ceil.ensures) in
    counts_are bytes c.in_ok-head.head head c.in-Some.companding c.size-size.result _ (c.in_ok-head.ensures.reads bytes is) read (sym c.companding_of.ensures ∙ c.in-Some.is) (omega (arith, c.if-prove.false)) (c.size-size.ensures.value ∙ c.size-size.ensures.told bytes (c.in_ok-head.ensures.keeps_source.told ∙ is)) count

pub returns-clause-file : goal.returns-clause-file
returns-clause-file g c = λ bytes is head read.
    packed-whole _ _ _ bytes c.in_ok-head.head head c.in-Some.companding c.size-size.result _ (c.in_ok-head.ensures.reads bytes is) read (sym c.companding_of.ensures ∙ c.in-Some.is) (omega (arith, c.if-prove.false)) (c.size-size.ensures.value ∙ c.size-size.ensures.told bytes (c.in_ok-head.ensures.keeps_source.told ∙ is)) c.in_ok-head.ensures.offset c.in-Ok.ensures.whole (c.in_ok-pack_samples.ensures.whole bytes (c.in_ok-head.ensures.keeps_source.told ∙ is))

pub returns-clause-front : goal.returns-clause-front
returns-clause-front g c = λ bytes is head read.
    packed-front _ _ _ bytes c.in_ok-head.head head c.in-Some.companding c.size-size.result _ (c.in_ok-head.ensures.reads bytes is) read (sym c.companding_of.ensures ∙ c.in-Some.is) (omega (arith, c.if-prove.false)) (c.size-size.ensures.value ∙ c.size-size.ensures.told bytes (c.in_ok-head.ensures.keeps_source.told ∙ is)) c.in_ok-head.ensures.offset c.in-Ok.ensures.whole (c.in_ok-pack_samples.ensures.front bytes (c.in_ok-head.ensures.keeps_source.told ∙ is))

pub returns-in_err-pack_samples-clause-front : goal.returns-in_err-pack_samples-clause-front
returns-in_err-pack_samples-clause-front g c = λ bytes is head read.
    packed-front _ _ _ bytes c.in_ok-head.head head c.in-Some.companding c.size-size.result _ (c.in_ok-head.ensures.reads bytes is) read (sym c.companding_of.ensures ∙ c.in-Some.is) (omega (arith, c.if-prove.false)) (c.size-size.ensures.value ∙ c.size-size.ensures.told bytes (c.in_ok-head.ensures.keeps_source.told ∙ is)) c.in_ok-head.ensures.offset c.in-Ok.ensures.whole (c.pack_samples.ensures.front bytes (c.in_ok-head.ensures.keeps_source.told ∙ is))

pub returns-in_err-pack_samples-clause-short : goal.returns-in_err-pack_samples-clause-short
returns-in_err-pack_samples-clause-short g c =
    let p = err_from_is_err_and c.from_residual-in_err-pack_samples.result c.from_residual-in_err-pack_samples.ensures.1 in
    rw (p.1, p.2) (short_samples _ _ _ _ _ c.in_ok-head.head c.in-Some.companding _ _ _ _ _ c.in_err-pack_samples.field-0.0 (sym c.companding_of.ensures ∙ c.in-Some.is) c.in_ok-head.ensures.keeps_source.size c.in_ok-head.ensures.keeps_source.ends c.in_ok-head.ensures.offset c.in_ok-head.ensures.start c.in_ok-head.ensures.reads c.in_err-pack_samples.ensures.stop)

pub returns-in_err-head-clause-read_stays : goal.returns-in_err-head-clause-read_stays
returns-in_err-head-clause-read_stays g c =
    let p = err_from_is_err_and c.from_residual.result c.from_residual.ensures.1 in
    rw (p.1) (λ other.
    head_stands _ _ c.in_err-head.field-0.0 p.0 p.2 (λ failed. c.in_err-head.ensures.stays (λ same. failed (cc))) (λ same. other (cc)))

pub returns-in_err-pack_samples-clause-read_stays : goal.returns-in_err-pack_samples-clause-read_stays
returns-in_err-pack_samples-clause-read_stays g c =
    let p = err_from_is_err_and c.from_residual-in_err-pack_samples.result c.from_residual-in_err-pack_samples.ensures.1 in
    rw (p.1, p.2) (λ other.
    stop_stands _ _ _ _ _ _ _ c.in_err-pack_samples.field-0.0 c.in_err-pack_samples.ensures.stop (λ same. other (cc)) ∙ c.in_ok-head.ensures.stays (λ same. cc))

pub returns-in_err-head-clause-too_large : goal.returns-in_err-head-clause-too_large
returns-in_err-head-clause-too_large g c =
    let p = err_from_is_err_and c.from_residual.result c.from_residual.ensures.1 in
    rw (p.1) (λ large.
    let read = c.in_err-head.ensures.too_large large in
    let told = head_large (g.S.Source.size c.args.src.now) c.in_err-head.field-0.0 p.0 p.2 (cc) in
    cc)

pub returns-in_err-head-clause-asks_no_samples : goal.returns-in_err-head-clause-asks_no_samples
returns-in_err-head-clause-asks_no_samples g c = λ bytes is head read. asks_none_more bytes head (c.in_err-head.ensures.asks_no_samples bytes is)

pub returns-in_default-clause-asks_no_samples : goal.returns-in_default-clause-asks_no_samples
returns-in_default-clause-asks_no_samples g c = λ bytes is head read. asks_none_more bytes head (c.read_head.ensures.asks_no_samples bytes is)

pub returns-in-Err-clause-asks_no_samples : goal.returns-in-Err-clause-asks_no_samples
returns-in-Err-clause-asks_no_samples g c = λ bytes is head read.
    asks_packable _ bytes c.in_ok-head.head head c.in-Some.companding (c.in_ok-head.ensures.reads bytes is) read (sym c.companding_of.ensures ∙ c.in-Some.is)

pub returns-clause-asks_no_samples : goal.returns-clause-asks_no_samples
returns-clause-asks_no_samples g c = λ bytes is head read.
    asks_packable _ bytes c.in_ok-head.head head c.in-Some.companding (c.in_ok-head.ensures.reads bytes is) read (sym c.companding_of.ensures ∙ c.in-Some.is)

pub returns-in_err-pack_samples-clause-asks_no_samples : goal.returns-in_err-pack_samples-clause-asks_no_samples
returns-in_err-pack_samples-clause-asks_no_samples g c = λ bytes is head read.
    asks_packable _ bytes c.in_ok-head.head head c.in-Some.companding (c.in_ok-head.ensures.reads bytes is) read (sym c.companding_of.ensures ∙ c.in-Some.is)
