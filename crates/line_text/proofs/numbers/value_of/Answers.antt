use Rattle.std.proofs.Common.{arith, ◌∙◌, ◌<◌, ◌^◌, ℕ, ap, subst}
use Rattle.std.proofs.lemmas.List.{take_all}
use Rattle.std.specs.Str.Parse.{digits_value}
use Rattle.line_text.proofs.Digits.{value-more}
use Rattle.line_text.proofs.numbers.value_of.Goals as goal

pub returns-in-None : goal.returns-in-None
returns-in-None c =
    let i = c.loop-byte.byte-index in
    let more = value-more c.args.word.now i c.loop-byte-test.true (c.requires i c.loop-byte-test.true) in
    let so_far = c.loop-byte.invariant.value in
    λ small. c.in-None.ensures (omega (arith, more.0, more.1, so_far))

pub loop-byte-preserved : goal.loop-byte-preserved
loop-byte-preserved c =
    let i = c.loop-byte.byte-index in
    let more = value-more c.args.word.now i c.loop-byte-test.true (c.requires i c.loop-byte-test.true) in
    let so_far = c.loop-byte.invariant.value in
    let next = c.in-Some.ensures in
    record { value = omega (arith, more.0, so_far, next.1); fits = omega (arith, next.0, next.1) }

pub returns : goal.returns
returns c =
    let whole = c.loop-byte.invariant.value ∙ ap (digits_value 10) (take_all c.loop-byte.byte-index c.args.word.now c.loop-byte-test.false) in
    let fits = c.loop-byte.invariant.fits in
    (subst (λ (v : ℕ). v < 2 ^ 64) whole fits, whole)
