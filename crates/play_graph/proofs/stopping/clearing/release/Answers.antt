use Rattle.std.proofs.Common.{◌∙◌, sym, true}
use Rattle.play_plan_laws.specs.Endings.{ends_of}
use Rattle.play_graph.specs.Stops.{HasBrought}
use Rattle.play_graph.proofs.Cleared.{release_tries, taker_made, tried_acts, tried_fewer, tried_none, tried_steps}
use Rattle.play_graph.proofs.stopping.clearing.release.Goals as goal

pub handle-h-requires : goal.handle-h-requires
handle-h-requires g c = taker_made c.args.plan.now c.args.link c.requires.there c.joint-joint.result c.joint-joint.ensures c.args.graph.now c.requires.stands

pub acted-requires : goal.acted-requires
acted-requires g c = tried_acts (HasBrought c.args.plan.now c.args.link) (ends_of c.args.plan.now true c.args.link) c.args.graph.now c.release.new.self c.release.result (release_tries c.args.plan.now c.args.link c.requires.there c.joint-joint.result c.joint-joint.ensures c.args.graph.now c.release.new.self c.handle-h.result c.release.result c.handle-h.ensures c.release.ensures.step) c.requires.stands

pub returns-clause-steps : goal.returns-clause-steps
returns-clause-steps g c = tried_steps (HasBrought c.args.plan.now c.args.link) (ends_of c.args.plan.now true c.args.link) c.args.graph.now c.release.new.self c.release.result (release_tries c.args.plan.now c.args.link c.requires.there c.joint-joint.result c.joint-joint.ensures c.args.graph.now c.release.new.self c.handle-h.result c.release.result c.handle-h.ensures c.release.ensures.step)

pub returns-clause-fewer : goal.returns-clause-fewer
returns-clause-fewer g c = λ t. tried_fewer (HasBrought c.args.plan.now c.args.link) (ends_of c.args.plan.now true c.args.link) c.args.graph.now c.release.new.self c.release.result (release_tries c.args.plan.now c.args.link c.requires.there c.joint-joint.result c.joint-joint.ensures c.args.graph.now c.release.new.self c.handle-h.result c.release.result c.handle-h.ensures c.release.ensures.step) c.requires.stands (sym c.acted.ensures ∙ t)

pub returns-clause-none : goal.returns-clause-none
returns-clause-none g c = λ f. tried_none (HasBrought c.args.plan.now c.args.link) (ends_of c.args.plan.now true c.args.link) c.args.graph.now c.release.new.self c.release.result (release_tries c.args.plan.now c.args.link c.requires.there c.joint-joint.result c.joint-joint.ensures c.args.graph.now c.release.new.self c.handle-h.result c.release.result c.handle-h.ensures c.release.ensures.step) c.requires.stands (sym c.acted.ensures ∙ f)
