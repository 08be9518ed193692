use Rattle.std.proofs.Common.{◌∙◌}
use Rattle.play_build_laws.specs.Halting.{KeepsFiles}
use Rattle.play_graph.specs.Stops.{HasCleared}
use Rattle.play_graph.proofs.Cleared.{all_brought}
use Rattle.play_graph.proofs.Joining.{files_then, stands_then, steps_then}
use Rattle.play_graph.proofs.stopping.clearing.bring_back.Goals as goal

pub hand_back-requires-clause-stands : goal.hand_back-requires-clause-stands
hand_back-requires-clause-stands g c = stands_then KeepsFiles (HasCleared c.args.plan.now c.args.link) (HasCleared c.args.plan.now c.args.link) c.args.graph.now c.loop.graph c.requires.stands c.loop.invariant.steps

pub loop-preserved : goal.loop-preserved
loop-preserved g c =
    record {
      steps = steps_then KeepsFiles (HasCleared c.args.plan.now c.args.link) (HasCleared c.args.plan.now c.args.link) (HasCleared c.args.plan.now c.args.link) files_then c.args.graph.now c.loop.graph c.hand_back.new.graph c.loop.invariant.steps c.hand_back.ensures.steps;
      files = λ number. c.hand_back.ensures.files number ∙ c.loop.invariant.files number;
    }

pub returns-clause-steps : goal.returns-clause-steps
returns-clause-steps g c =
    all_brought c.args.plan.now c.args.link c.args.graph.now c.hand_back.new.graph
    (steps_then KeepsFiles (HasCleared c.args.plan.now c.args.link) (HasCleared c.args.plan.now c.args.link) (HasCleared c.args.plan.now c.args.link) files_then c.args.graph.now c.loop.graph c.hand_back.new.graph c.loop.invariant.steps c.hand_back.ensures.steps)
    (c.hand_back.ensures.none c.loop-test.false)

pub returns-clause-files : goal.returns-clause-files
returns-clause-files g c = λ number. c.hand_back.ensures.files number ∙ c.loop.invariant.files number
