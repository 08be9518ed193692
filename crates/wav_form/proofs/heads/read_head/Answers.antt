use Rattle.std.proofs.Common.{◌∙◌, ◌≤◌, length, arith}
use Rattle.std.proofs.lemmas.Result.{err_from_is_err_and}
use Rattle.wav_form.specs.Reading.{most_bytes}
use Rattle.wav_form.proofs.Read.{UnlessStopped-searched, before_samples, before_chunks, IfShort-riff}
use Rattle.outside_io.proofs.Asked.{asks-none}
use Rattle.wav_form.proofs.AskedFor.{asks_whole, asks_riff, asks_start}
use Rattle.wav_form.proofs.heads.read_head.Goals as goal

pub returns-clause-reads : goal.returns-clause-reads
returns-clause-reads g c = λ x is.
    let small : length x ≤ most_bytes = omega (arith, c.size-size.ensures.told x is, c.size-size.ensures.value, c.if-size-gt-MOST_BYTES.false) in
    UnlessStopped-searched x c.search.result small (c.in_ok-check_riff.ensures.riff x is) (c.search.ensures.answer x (c.in_ok-check_riff.ensures.keeps_source.told ∙ is))

pub returns-clause-asks_no_further : goal.returns-clause-asks_no_further
returns-clause-asks_no_further g c = λ x is head reads.
    let small : length x ≤ most_bytes = omega (arith, c.size-size.ensures.told x is, c.size-size.ensures.value, c.if-size-gt-MOST_BYTES.false) in
    before_samples x c.search.result head small (c.in_ok-check_riff.ensures.riff x is) (c.search.ensures.answer x (c.in_ok-check_riff.ensures.keeps_source.told ∙ is)) reads

pub returns-in_err-check_riff-clause-short : goal.returns-in_err-check_riff-clause-short
returns-in_err-check_riff-clause-short g c =
    let p = err_from_is_err_and c.from_residual.result c.from_residual.ensures.1 in
    rw (p.1, p.2) (IfShort-riff _ _ _ c.in_err-check_riff.field-0.0 c.in_err-check_riff.ensures.fault)

pub returns-in_err-check_riff-clause-asks_no_further : goal.returns-in_err-check_riff-clause-asks_no_further
returns-in_err-check_riff-clause-asks_no_further g c = λ x is head reads.
    let p = err_from_is_err_and c.from_residual.result c.from_residual.ensures.1 in
    let small : length x ≤ most_bytes = omega (arith, c.size-size.ensures.told x is, c.size-size.ensures.value, c.if-size-gt-MOST_BYTES.false) in
    rw (p.1, p.2) (before_chunks _ _ x c.in_err-check_riff.field-0.0 head small c.in_err-check_riff.ensures.fault reads)

pub returns-clause-asks_no_samples : goal.returns-clause-asks_no_samples
returns-clause-asks_no_samples g c = λ x is. asks_whole x _ _ _ c.in_ok-check_riff.ensures.asks (c.search.ensures.asks_no_samples x (c.in_ok-check_riff.ensures.keeps_source.told ∙ is))

pub returns-clause-asks : goal.returns-clause-asks
returns-clause-asks g c = asks_start _ _ _ c.search.result c.in_ok-check_riff.ensures.asks c.search.ensures.asks c.search.ensures.behind

pub returns-in_err-check_riff-clause-asks_no_samples : goal.returns-in_err-check_riff-clause-asks_no_samples
returns-in_err-check_riff-clause-asks_no_samples g c = λ x is. asks_riff x _ _ c.check_riff.ensures.asks

pub returns-then-size-gt-MOST_BYTES-clause-asks_no_samples : goal.returns-then-size-gt-MOST_BYTES-clause-asks_no_samples
returns-then-size-gt-MOST_BYTES-clause-asks_no_samples g c = λ x is. asks_riff x _ _ (asks-none _ 12)
