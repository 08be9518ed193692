use Rattle.std.proofs.Common.{◌≡◌, ℕ, List, refl, Err, bytes_eq, take, drop, length, sym, ap, ◌∙◌, arith}
use Rattle.std.proofs.lemmas.Result.{err_from_is_err_and}
use Rattle.omx_types.specs.declared.fault.WavFault.TheVariants.{TooLarge}
use Rattle.rtp_parts.specs.declared.fault.RtpFault.TheVariants.{Head}
use Rattle.rtp_parts.specs.Packing.{magic}
use Rattle.rtp_parts.proofs.UnpackAnswers.{asks_first, asks_sought, too_large_is, other_is, stopped_before, too_few}
use Rattle.rtp_parts.proofs.unpacking.check_magic.Goals as goal

pub returns-then-size-gt-MOST_BYTES-clause-other : goal.returns-then-size-gt-MOST_BYTES-clause-other
returns-then-size-gt-MOST_BYTES-clause-other g c = λ bytes is.
    let size : length bytes ≡ c.size-size.result = sym (c.size-size.ensures.value ∙ c.size-size.ensures.told bytes is) in
    too_large_is bytes (omega (arith, size, c.if-size-gt-MOST_BYTES.true)) ∙ ap (λ (n : ℕ). Err (Head (TooLarge n))) size

pub returns-then-size-lt-MAGIC-clause-other : goal.returns-then-size-lt-MAGIC-clause-other
returns-then-size-lt-MAGIC-clause-other g c = λ bytes is.
    let size : length bytes ≡ c.size-size.result = sym (c.size-size.ensures.value ∙ c.size-size.ensures.told bytes is) in
    other_is bytes (omega (arith, size, c.if-size-lt-MAGIC.true)) (too_few bytes (omega (arith, size, c.if-size-lt-MAGIC.true)))

pub returns-then-eq-clause-reached : goal.returns-then-eq-clause-reached
returns-then-eq-clause-reached g c = λ end is.
    omega (arith, c.in_ok-read_exact.ensures.reached end (c.in-Ok.ensures.ends ∙ is), c.in_ok-read_exact.ensures.offset, c.in-Ok.ensures.reached)

pub returns-else-eq-clause-other : goal.returns-else-eq-clause-other
returns-else-eq-clause-other g c = λ bytes is.
    let size : length bytes ≡ c.size-size.result = sym (c.size-size.ensures.value ∙ c.size-size.ensures.told bytes is) in
    let read : c.read_exact.new.buf ≡ take 8 bytes =
    c.in_ok-read_exact.ensures.bytes bytes (c.in-Ok.ensures.told ∙ is) ∙ ap (λ (n : ℕ). take 8 (drop n bytes)) c.in-Ok.ensures.reached in
    other_is bytes (omega (arith, size, c.if-size-gt-MOST_BYTES.false))
    (ap (λ (b : List ℕ). bytes_eq b magic) (sym read) ∙ sym c.eq.ensures ∙ c.if-eq.false)

pub returns-in_err-read_exact-clause-asks_no_further : goal.returns-in_err-read_exact-clause-asks_no_further
returns-in_err-read_exact-clause-asks_no_further g c =
    let p = err_from_is_err_and c.from_residual.result c.from_residual.ensures.1 in
    rw (p.1) (stopped_before _ 8 c.in_err-read_exact.field-0.0 p.0 (omega (arith, c.in-Ok.ensures.reached)) p.2 c.in_err-read_exact.ensures.unfinished)

pub returns-then-size-gt-MOST_BYTES-clause-asks : goal.returns-then-size-gt-MOST_BYTES-clause-asks
returns-then-size-gt-MOST_BYTES-clause-asks g c = asks_sought _ _ refl

pub returns-then-size-lt-MAGIC-clause-asks : goal.returns-then-size-lt-MAGIC-clause-asks
returns-then-size-lt-MAGIC-clause-asks g c = asks_sought _ _ refl

pub returns-in-Err-clause-asks : goal.returns-in-Err-clause-asks
returns-in-Err-clause-asks g c = asks_sought _ _ c.seek_to.ensures.asked

pub returns-then-eq-clause-asks : goal.returns-then-eq-clause-asks
returns-then-eq-clause-asks g c = asks_first _ _ _ _ _ c.seek_to.ensures.asked c.in-Ok.ensures.reached refl c.read_exact.ensures.asks

pub returns-else-eq-clause-asks : goal.returns-else-eq-clause-asks
returns-else-eq-clause-asks g c = asks_first _ _ _ _ _ c.seek_to.ensures.asked c.in-Ok.ensures.reached refl c.read_exact.ensures.asks

pub returns-in_err-read_exact-clause-asks : goal.returns-in_err-read_exact-clause-asks
returns-in_err-read_exact-clause-asks g c = asks_first _ _ _ _ _ c.seek_to.ensures.asked c.in-Ok.ensures.reached refl c.read_exact.ensures.asks
