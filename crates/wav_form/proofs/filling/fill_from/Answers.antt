use Rattle.std.proofs.Common.{arith, ◌∙◌}
use Rattle.wav_form.proofs.filling.fill_from.Goals as goal

pub returns-in-Ok-clause-reached : goal.returns-in-Ok-clause-reached
returns-in-Ok-clause-reached g c = λ end is some.
    let reached = c.in-Ok.ensures.reached end (c.in_ok-go_to.ensures.keeps_source.ends ∙ is) in
    omega (arith, reached, some, c.in-Ok.ensures.offset, c.in_ok-go_to.ensures.reached)
