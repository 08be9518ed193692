use Rattle.std.proofs.Common.{◌≡◌, ◌+◌, ◌≤◌, ℤ, All, length, drop, sym, subst, arith, unsigned_abs}
use Rattle.std.proofs.lemmas.List.{length-take-le}
use Rattle.audio_parts.proofs.Fronts.{front_append}
use Rattle.audio_parts.proofs.mixer.mix_front.Goals as goal

pub returns-clause-grows : goal.returns-clause-grows
returns-clause-grows c = λ b h.
    let long : length c.mix_into.new.sum ≡ c.args.count = omega (arith, c.mix_into.auto.sum, length-take-le c.args.count c.args.sums.now c.requires.sums) in
    let front = front_append c.args.count c.mix_into.new.sum (drop c.args.count c.args.sums.now) long in
    subst (All (λ (s : ℤ). unsigned_abs s ≤ b + 524280)) (sym front) (c.mix_into.ensures.grows b h)
