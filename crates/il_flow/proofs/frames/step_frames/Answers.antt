use Rattle.std.proofs.Common.{sym, ◌∙◌, ap}
use Rattle.std.specs.Prelude.{unwrap_or}
use Rattle.il_machine.specs.Stepping.{all_frames_at}
use Rattle.il_flow.specs.Places.{carried_from}
use Rattle.il_flow.proofs.Least.{least_from, of_inputs}
use Rattle.il_flow.proofs.frames.step_frames.Goals as goal

pub returns-in-Some : goal.returns-in-Some
returns-in-Some c = λ t layout within.
    rw c.in-Some.is (c.unwrap_or.ensures ∙ ap (λ o. unwrap_or o 0) (c.least_frames.ensures t layout within) ∙ least_from c.in-Some.left (all_frames_at t (carried_from 0 c.args.places.now)))

pub returns-in-None : goal.returns-in-None
returns-in-None c = λ t layout within.
    rw c.in-None.is (c.unwrap_or-in-None.ensures ∙ ap (λ o. unwrap_or o 0) (c.least_frames-in-None.ensures t layout within)
    ∙ of_inputs t (carried_from 0 c.args.places.now) (sym (c.has_input.ensures t layout) ∙ c.if-has_input.true))
