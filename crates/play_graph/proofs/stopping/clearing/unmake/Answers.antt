use Rattle.std.proofs.Common.{◌∙◌}
use Rattle.play_build_laws.specs.Halting.{KeepsFiles}
use Rattle.play_graph.specs.Stops.{HasBrought}
use Rattle.play_graph.proofs.Cleared.{all_unmade}
use Rattle.play_graph.proofs.Joining.{files_then, stands_then, steps_then}
use Rattle.play_graph.proofs.stopping.clearing.unmake.Goals as goal

pub release-requires-clause-stands : goal.release-requires-clause-stands
release-requires-clause-stands g c = stands_then KeepsFiles (HasBrought c.args.plan.now c.args.link) (HasBrought c.args.plan.now c.args.link) c.args.graph.now c.loop.graph c.requires.stands c.loop.invariant.steps

pub loop-preserved : goal.loop-preserved
loop-preserved g c =
    record {
      steps = steps_then KeepsFiles (HasBrought c.args.plan.now c.args.link) (HasBrought c.args.plan.now c.args.link) (HasBrought c.args.plan.now c.args.link) files_then c.args.graph.now c.loop.graph c.release.new.graph c.loop.invariant.steps c.release.ensures.steps;
      files = λ number. c.release.ensures.files number ∙ c.loop.invariant.files number;
    }

pub returns-clause-steps : goal.returns-clause-steps
returns-clause-steps g c =
    all_unmade c.args.plan.now c.args.link c.args.graph.now c.release.new.graph
    (steps_then KeepsFiles (HasBrought c.args.plan.now c.args.link) (HasBrought c.args.plan.now c.args.link) (HasBrought c.args.plan.now c.args.link) files_then c.args.graph.now c.loop.graph c.release.new.graph c.loop.invariant.steps c.release.ensures.steps)
    (c.release.ensures.none c.loop-test.false)

pub returns-clause-files : goal.returns-clause-files
returns-clause-files g c = λ number. c.release.ensures.files number ∙ c.loop.invariant.files number
