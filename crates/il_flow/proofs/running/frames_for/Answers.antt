use Rattle.std.proofs.Common.{◌≤◌, ◌*◌, arith, ap, sym, subst, ◌∙◌}
use Rattle.std.specs.Prelude.{is_some}
use Rattle.il_flow.specs.Places.{Offer}
use Rattle.il_flow.proofs.Counting.{counted, offers}
use Rattle.il_flow.proofs.running.frames_for.Goals as goal

pub overflow_cast-result : goal.overflow_cast-result
overflow_cast-result g c =
    let t = g.P.Part.terms c.args.part.now in
    let k = ap is_some (c.requires.left ∙ sym c.frames_left.ensures.value) ∙ c.frames_left.ensures.some in
    let few = counted c.args.left t (g.P.Part.shape c.args.part.now) c.args.layout c.args.places.now c.requires.layout c.args.layout.some_input c.args.layout.some_output k c.requires.lawful c.requires.sized c.requires.outputs in
    let most = few.frames_few in
    let value = c.step_frames.ensures t c.requires.layout.terms c.requires.within in
    omega (arith, most, value)

pub returns-clause-few : goal.returns-clause-few
returns-clause-few g c =
    let t = g.P.Part.terms c.args.part.now in
    let k = ap is_some (c.requires.left ∙ sym c.frames_left.ensures.value) ∙ c.frames_left.ensures.some in
    let few = counted c.args.left t (g.P.Part.shape c.args.part.now) c.args.layout c.args.places.now c.requires.layout c.args.layout.some_input c.args.layout.some_output k c.requires.lawful c.requires.sized c.requires.outputs in
    subst (λ n. n * (g.P.Part.shape c.args.part.now).channels ≤ 4096) (sym (c.step_frames.ensures t c.requires.layout.terms c.requires.within)) few.samples

pub returns-clause-enough : goal.returns-clause-enough
returns-clause-enough g c =
    let t = g.P.Part.terms c.args.part.now in
    subst (λ n. Offer t n 0 c.args.places.now) (sym (c.step_frames.ensures t c.requires.layout.terms c.requires.within)) (offers c.args.left t c.args.places.now)
