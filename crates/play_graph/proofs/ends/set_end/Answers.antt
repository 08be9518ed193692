use Rattle.std.proofs.Common.{refl}
use Rattle.play_build_laws.specs.Stages.{Setting}
use Rattle.play_graph.specs.LinkEnds.{at_input}
use Rattle.play_graph.proofs.Building.{end_by}
use Rattle.play_graph.proofs.Standing.{end_made_by}
use Rattle.play_graph.proofs.ends.set_end.Goals as goal

pub handle-h-requires : goal.handle-h-requires
handle-h-requires g c = end_made_by c.args.plan.now (Setting c.args.link (at_input c.args.end)) c.args.link c.args.end c.joint-joint.result c.place_at.result c.args.graph.now c.requires.there c.joint-joint.ensures c.place_at.ensures (λ files. refl) c.requires.stands

pub returns : goal.returns
returns g c = end_by c.args.plan.now c.args.graph.now c.set_parameter.new.self c.args.link c.args.end c.joint-joint.result c.place_at.result c.index_at.result c.definition.result c.handle-h.result c.set_parameter.result c.requires.there c.joint-joint.ensures c.place_at.ensures c.index_at.ensures c.definition.ensures c.handle-h.ensures c.set_parameter.ensures.step
