use Rattle.il_graph.specs.Shown.{look_of}
use Rattle.graph_core.specs.Ending.{IsAllIn}
use Rattle.play_graph.proofs.Going.{on_err}
use Rattle.play_graph.proofs.Standing.{all_in}
use Rattle.play_graph.proofs.components.make_components.Goals as goal

pub returns-in_err-make_component-clause-unmade : goal.returns-in_err-make_component-clause-unmade
returns-in_err-make_component-clause-unmade g c =
    let s = c.requires.stands in
    let now = c.loop-place.invariant s.0 s.1 in
    on_err c.from_residual.result (IsAllIn (look_of c.make_component.new.graph)) (all_in c.args.plan.now s.0 c.loop-place.place c.make_component.new.graph (c.in_err-make_component.ensures.unmade s.0 now))
