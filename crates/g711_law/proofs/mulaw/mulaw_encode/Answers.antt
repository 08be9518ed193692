use Rattle.std.proofs.Common.{◌≡◌, ◌+◌, ◌/◌, ◌≤◌, ◌≤ℤ◌, min, cond, ap, ◌∙◌, sym, subst, arith, w16}
use Rattle.std.proofs.lemmas.Int.{to_z-of_z}
use Rattle.std.specs.Int.{is_negative}
use Rattle.std.specs.Prelude.{unsigned_abs}
use Rattle.g711_law.specs.Mulaw.{mulaw_code, mulaw_magnitude, mulaw_value, mulaw_step, mulaw_half_step}
use Rattle.g711_law.specs.Steps.{AreWithin}
use Rattle.g711_law.specs.Lines.{compressed}
use Rattle.g711_law.proofs.MulawLaws.{encoded, encode_rises, encode_near, encode_far, small, bottom}
use Rattle.g711_law.proofs.mulaw.mulaw_encode.Goals.{then-x-lt0, else-x-lt0}
use Rattle.g711_law.proofs.mulaw.mulaw_encode.Goals as goal

pub overflow_sub-step : goal.overflow_sub-step
overflow_sub-step c = omega (arith, bottom c.min-magnitude.result)

pub overflow_cast-step : goal.overflow_cast-step
overflow_cast-step c = omega (arith, small c.min-magnitude.result (omega arith))

pub overflow_add-result : goal.overflow_add-result
overflow_add-result c =
    let below = small c.min-magnitude.result (omega arith) in
    elim c.if-x-lt0.branch [ then-x-lt0 w ↦ omega (arith, w.sign-is) | else-x-lt0 w ↦ omega (arith, w.sign-is) ]

pub returns-clause-code : goal.returns-clause-code
returns-clause-code c =
    let x = c.args.x in
    let same = to_z-of_z w16 x c.ranges.x in
    let magnitude : c.min-magnitude.result ≡ mulaw_magnitude x =
    c.min-magnitude.ensures ∙ ap (λ m. min m 32635) (c.unsigned_abs.ensures.value ∙ ap unsigned_abs same) in
    let sign : c.if-x-lt0.sign ≡ cond (is_negative x) 128 0 = elim c.if-x-lt0.branch [
      | then-x-lt0 w ↦ w.sign-is ∙ sym (ap (λ b. cond b 128 0) (sym (ap is_negative same) ∙ w.if-x-lt0.true))
      | else-x-lt0 w ↦ w.sign-is ∙ sym (ap (λ b. cond b 128 0) (sym (ap is_negative same) ∙ w.if-x-lt0.false))
    ] in
    encoded x c.compressed.result c.if-x-lt0.sign (c.compressed.ensures ∙ ap (λ m. compressed 7 ((m + 132) / 8)) magnitude) sign

pub returns-clause-rising : goal.returns-clause-rising
returns-clause-rising c y l = subst (λ r. mulaw_value r ≤ℤ mulaw_value (mulaw_code y)) (sym (returns-clause-code c)) (encode_rises c.args.x y l)

pub returns-clause-near : goal.returns-clause-near
returns-clause-near c l =
    subst (λ r. AreWithin (mulaw_half_step (mulaw_step c.args.x / 16)) c.args.x (mulaw_value r)) (sym (returns-clause-code c)) (encode_near c.args.x l)

pub returns-clause-far : goal.returns-clause-far
returns-clause-far c =
    let size : unsigned_abs c.args.x ≤ 32768 = subst (λ n. n ≤ 32768) (c.unsigned_abs.ensures.value ∙ ap unsigned_abs (to_z-of_z w16 c.args.x c.ranges.x)) c.unsigned_abs.ensures.bound in
    subst (λ r. AreWithin 644 c.args.x (mulaw_value r)) (sym (returns-clause-code c)) (encode_far c.args.x size)
