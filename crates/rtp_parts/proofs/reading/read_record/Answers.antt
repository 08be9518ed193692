use Rattle.std.proofs.Common.{◌≡◌, ◌-◌, length, take, drop, ap, ◌∙◌, arith, Err}
use Rattle.std.proofs.lemmas.List.{length-take}
use Rattle.std.proofs.lemmas.Result.{err_from_is_err_and}
use Rattle.rtp_parts.proofs.RecordRead.{none_read, one_read, cut_read, whole_read, stop_read}
use Rattle.rtp_parts.proofs.reading.read_record.Goals as goal

pub returns-then-left-eq0-clause-record : goal.returns-then-left-eq0-clause-record
returns-then-left-eq0-clause-record g c = λ x is.
    none_read x (g.S.Source.offset c.args.src.now) (omega (arith, c.size.ensures.value, c.size.ensures.told x is, c.offset.ensures.value, c.if-left-eq0.true))

pub returns-then-left-eq1-clause-record : goal.returns-then-left-eq1-clause-record
returns-then-left-eq1-clause-record g c = λ x is.
    one_read x (g.S.Source.offset c.args.src.now) (omega (arith, c.size.ensures.value, c.size.ensures.told x is, c.offset.ensures.value, c.if-left-eq1.true))

pub returns-then-left-from-clause-record : goal.returns-then-left-from-clause-record
returns-then-left-from-clause-record g c = λ x is.
    let left : c.size.result - c.offset.result ≡ length x - g.S.Source.offset c.args.src.now = omega (arith, c.size.ensures.value, c.size.ensures.told x is, c.offset.ensures.value) in
    cut_read x c.read_exact.new.buf (g.S.Source.offset c.args.src.now) c.read_u16-len.result (c.in_ok-read_exact.ensures.bytes x is) c.read_u16-len.ensures
    (omega (arith, left, c.if-left-eq0.false, c.if-left-eq1.false)) (omega (arith, left, c.if-left-from.true, c.from.ensures))

pub returns-then-left-from-clause-reached : goal.returns-then-left-from-clause-reached
returns-then-left-from-clause-reached g c = λ end is. omega (arith, c.in_ok-read_exact.ensures.reached end is, c.requires.reached end is)

pub returns-clause-record : goal.returns-clause-record
returns-clause-record g c = λ x is.
    let left : c.size.result - c.offset.result ≡ length x - g.S.Source.offset c.args.src.now = omega (arith, c.size.ensures.value, c.size.ensures.told x is, c.offset.ensures.value) in
    let long : length (take c.from-len.result c.args.buffer.now) ≡ c.from-len.result = omega (arith, length-take c.from-len.result c.args.buffer.now, c.requires.room, c.from-len.ensures, c.read_u16-len.type_inv) in
    whole_read x c.read_exact.new.buf c.read_exact-2.new.buf (drop c.from-len.result c.args.buffer.now) (g.S.Source.offset c.args.src.now) (g.S.Source.offset c.read_exact.new.source) (g.S.Source.offset c.read_exact-2.new.source) c.read_u16-len.result c.from-len.result (length (take c.from-len.result c.args.buffer.now))
    (omega (arith, left, c.if-left-eq0.false, c.if-left-eq1.false)) (c.in_ok-read_exact.ensures.bytes x is) c.read_u16-len.ensures c.from-len.ensures long
    (omega (arith, left, c.if-left-from.false, c.from.ensures, c.from-len.ensures)) c.in_ok-read_exact.ensures.offset c.in_ok-read_exact-2.ensures.offset (c.in_ok-read_exact-2.ensures.bytes x (c.in_ok-read_exact.ensures.keeps_source.told ∙ is))

pub returns-clause-reached : goal.returns-clause-reached
returns-clause-reached g c = λ end is.
    omega (arith, c.in_ok-read_exact.ensures.reached end is, c.requires.reached end is, c.in_ok-read_exact-2.ensures.reached end (c.in_ok-read_exact.ensures.keeps_source.ends ∙ is))

pub returns-in_err-read_exact-2-clause-stop : goal.returns-in_err-read_exact-2-clause-stop
returns-in_err-read_exact-2-clause-stop g c =
    let p = err_from_is_err_and c.from_residual-in_err-read_exact-2.result c.from_residual-in_err-read_exact-2.ensures.1 in
    rw (p.1) (stop_read _ _ _ _ (g.S.Source.offset c.read_exact.new.source) _ _ _ c.in_err-read_exact-2.field-0.0 p.0 p.2 c.in_ok-read_exact.ensures.keeps_source.size c.in_ok-read_exact.ensures.keeps_source.ends (c.in_ok-read_exact.ensures.stays (λ e. cc))
    (λ e. c.in_err-read_exact-2.ensures.failed (ap Err e)) (λ other. c.in_err-read_exact-2.ensures.stays (λ e. other cc)) c.in_err-read_exact-2.ensures.short
    (λ end is. omega (arith, c.in_ok-read_exact.ensures.reached end is, c.requires.reached end is)))
