use Rattle.std.proofs.Common.{◌∙◌, sym, false}
use Rattle.play_plan_laws.specs.Endings.{ends_of}
use Rattle.play_graph.specs.Stops.{HasCleared}
use Rattle.play_graph.proofs.Cleared.{back_tries, giver_made, tried_acts, tried_fewer, tried_none, tried_steps}
use Rattle.play_graph.proofs.stopping.clearing.hand_back.Goals as goal

pub handle-h-requires : goal.handle-h-requires
handle-h-requires g c = giver_made c.args.plan.now c.args.link c.requires.there c.joint-joint.result c.joint-joint.ensures c.args.graph.now c.requires.stands

pub acted-requires : goal.acted-requires
acted-requires g c = tried_acts (HasCleared c.args.plan.now c.args.link) (ends_of c.args.plan.now false c.args.link) c.args.graph.now c.hand_back.new.self c.hand_back.result (back_tries c.args.plan.now c.args.link c.requires.there c.joint-joint.result c.joint-joint.ensures c.args.graph.now c.hand_back.new.self c.handle-h.result c.hand_back.result c.requires.links c.handle-h.ensures c.hand_back.ensures.step) c.requires.stands

pub returns-clause-steps : goal.returns-clause-steps
returns-clause-steps g c = tried_steps (HasCleared c.args.plan.now c.args.link) (ends_of c.args.plan.now false c.args.link) c.args.graph.now c.hand_back.new.self c.hand_back.result (back_tries c.args.plan.now c.args.link c.requires.there c.joint-joint.result c.joint-joint.ensures c.args.graph.now c.hand_back.new.self c.handle-h.result c.hand_back.result c.requires.links c.handle-h.ensures c.hand_back.ensures.step)

pub returns-clause-fewer : goal.returns-clause-fewer
returns-clause-fewer g c = λ t. tried_fewer (HasCleared c.args.plan.now c.args.link) (ends_of c.args.plan.now false c.args.link) c.args.graph.now c.hand_back.new.self c.hand_back.result (back_tries c.args.plan.now c.args.link c.requires.there c.joint-joint.result c.joint-joint.ensures c.args.graph.now c.hand_back.new.self c.handle-h.result c.hand_back.result c.requires.links c.handle-h.ensures c.hand_back.ensures.step) c.requires.stands (sym c.acted.ensures ∙ t)

pub returns-clause-none : goal.returns-clause-none
returns-clause-none g c = λ f. tried_none (HasCleared c.args.plan.now c.args.link) (ends_of c.args.plan.now false c.args.link) c.args.graph.now c.hand_back.new.self c.hand_back.result (back_tries c.args.plan.now c.args.link c.requires.there c.joint-joint.result c.joint-joint.ensures c.args.graph.now c.hand_back.new.self c.handle-h.result c.hand_back.result c.requires.links c.handle-h.ensures c.hand_back.ensures.step) c.requires.stands (sym c.acted.ensures ∙ f)
