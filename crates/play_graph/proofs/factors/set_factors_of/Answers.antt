use Rattle.std.proofs.Common.{◌≡◌, ℕ, List, length, sym, ◌∙◌, ap, arith}
use Rattle.play_plan_laws.specs.Assemblies.{factors_in}
use Rattle.play_graph.proofs.Going.{factored_on}
use Rattle.play_graph.proofs.Standing.{read_at}
use Rattle.play_graph.proofs.factors.set_factors_of.Goals as goal

pub returns : goal.returns
returns g c =
    let e = read_at c.args.plan.now.parts c.parts.result.now c.args.place c.index-parts-place.result c.parts.ensures c.requires.there in
    let all : c.loop-input.input ≡ length c.factors_of-factors.result.now = omega arith in
    let many = ap (λ (xs : List ℕ). length xs) (c.factors_of-factors.ensures.factors ∙ sym (ap factors_in e)) in
    factored_on c.args.plan.now c.args.place c.loop-input.input c.args.graph.now c.loop-input.graph (all ∙ many) c.loop-input.invariant
