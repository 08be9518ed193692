use Rattle.std.proofs.Common.{◌≡◌, ◌/◌, ◌<◌, ◌≤ℤ◌, cond, ap, ◌∙◌, sym, subst, arith, w16}
use Rattle.std.proofs.lemmas.Int.{to_z-of_z}
use Rattle.std.specs.Int.{is_negative}
use Rattle.g711_law.specs.Alaw.{alaw_code, alaw_magnitude, alaw_value, alaw_step, alaw_half_step}
use Rattle.g711_law.specs.Steps.{AreWithin}
use Rattle.g711_law.specs.Lines.{compressed}
use Rattle.g711_law.proofs.AlawLaws.{encoded, encode_rises, encode_near, small}
use Rattle.g711_law.proofs.alaw.alaw_encode.Goals.{then-x-lt0, else-x-lt0}
use Rattle.g711_law.proofs.alaw.alaw_encode.Goals as goal

pub overflow_cast-step : goal.overflow_cast-step
overflow_cast-step c = omega (arith, small c.alaw_magnitude.result c.alaw_magnitude.ensures.small)

pub overflow_add-result : goal.overflow_add-result
overflow_add-result c =
    let below = small c.alaw_magnitude.result c.alaw_magnitude.ensures.small in
    elim c.if-x-lt0.branch [ then-x-lt0 w ↦ omega (arith, w.sign-is) | else-x-lt0 w ↦ omega (arith, w.sign-is) ]

pub returns-clause-code : goal.returns-clause-code
returns-clause-code c =
    let x = c.args.x in
    let same = to_z-of_z w16 x c.ranges.x in
    let magnitude : c.alaw_magnitude.result ≡ alaw_magnitude x = c.alaw_magnitude.ensures.value ∙ ap alaw_magnitude same in
    let sign : c.if-x-lt0.sign ≡ cond (is_negative x) 0 128 = elim c.if-x-lt0.branch [
      | then-x-lt0 w ↦ w.sign-is ∙ sym (ap (λ b. cond b 0 128) (sym (ap is_negative same) ∙ w.if-x-lt0.true))
      | else-x-lt0 w ↦ w.sign-is ∙ sym (ap (λ b. cond b 0 128) (sym (ap is_negative same) ∙ w.if-x-lt0.false))
    ] in
    let range : alaw_magnitude x < 32768 = subst (λ m. m < 32768) magnitude c.alaw_magnitude.ensures.small in
    encoded x c.compressed-step.result c.if-x-lt0.sign range (c.compressed-step.ensures ∙ ap (λ m. compressed 7 (m / 16)) magnitude) sign

pub returns-clause-rising : goal.returns-clause-rising
returns-clause-rising c y l = subst (λ r. alaw_value r ≤ℤ alaw_value (alaw_code y)) (sym (returns-clause-code c)) (encode_rises c.args.x y l)

pub returns-clause-near : goal.returns-clause-near
returns-clause-near c =
    let x = c.args.x in
    let magnitude : c.alaw_magnitude.result ≡ alaw_magnitude x = c.alaw_magnitude.ensures.value ∙ ap alaw_magnitude (to_z-of_z w16 x c.ranges.x) in
    let range : alaw_magnitude x < 32768 = subst (λ m. m < 32768) magnitude c.alaw_magnitude.ensures.small in
    subst (λ r. AreWithin (alaw_half_step (alaw_step x / 16)) x (alaw_value r)) (sym (returns-clause-code c)) (encode_near x range)
