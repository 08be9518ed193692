use Rattle.play_graph.proofs.Apart.{giver_by, part_by, taker_by}
use Rattle.play_graph.proofs.parting.part.Goals as goal

pub handle-requires : goal.handle-requires
handle-requires g c = giver_by c.args.plan.now c.args.link c.requires.there c.joint-joint.result c.joint-joint.ensures c.args.graph.now c.requires.stands

pub handle-requires-2 : goal.handle-requires-2
handle-requires-2 g c = taker_by c.args.plan.now c.args.link c.requires.there c.joint-joint.result c.joint-joint.ensures c.args.graph.now c.requires.stands

pub returns-clause-steps : goal.returns-clause-steps
returns-clause-steps g c = part_by c.args.plan.now c.args.link c.requires.there c.joint-joint.result c.joint-joint.ensures c.args.graph.now c.drop_tunnel.new.self c.handle.result c.handle-2.result c.drop_tunnel.result c.requires.links c.handle.ensures c.handle-2.ensures c.drop_tunnel.ensures.step
