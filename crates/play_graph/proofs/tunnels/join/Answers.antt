use Rattle.std.proofs.Common.{refl}
use Rattle.play_build_laws.specs.Stages.{Joining}
use Rattle.play_graph.proofs.Building.{join_by}
use Rattle.play_graph.specs.declared.link_end.End.TheVariants.{Input, Output}
use Rattle.play_graph.proofs.Standing.{end_made_by}
use Rattle.play_graph.proofs.tunnels.join.Goals as goal

pub handle-requires : goal.handle-requires
handle-requires g c = end_made_by c.args.plan.now (Joining c.args.link) c.args.link Output c.joint-joint.result c.joint-joint.result.giver c.args.graph.now c.requires.there c.joint-joint.ensures refl (λ files. refl) c.requires.stands

pub handle-requires-2 : goal.handle-requires-2
handle-requires-2 g c = end_made_by c.args.plan.now (Joining c.args.link) c.args.link Input c.joint-joint.result c.joint-joint.result.taker c.args.graph.now c.requires.there c.joint-joint.ensures refl (λ files. refl) c.requires.stands

pub returns-clause-goes : goal.returns-clause-goes
returns-clause-goes g c = join_by c.args.plan.now c.args.graph.now c.setup_tunnel.new.self c.args.link c.joint-joint.result c.handle.result c.handle-2.result c.setup_tunnel.result c.requires.there c.joint-joint.ensures c.handle.ensures c.handle-2.ensures c.setup_tunnel.ensures.step
