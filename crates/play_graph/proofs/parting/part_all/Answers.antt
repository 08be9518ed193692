use Rattle.std.proofs.Common.{◌∙◌}
use Rattle.play_graph.proofs.Apart.{parted_next}
use Rattle.play_graph.proofs.parting.part_all.Goals as goal

pub loop-link-preserved : goal.loop-link-preserved
loop-link-preserved g c = record {
  steps = parted_next c.args.plan.now c.loop-link.link c.args.graph.now c.loop-link.graph c.part.new.graph c.loop-link.invariant.steps c.part.ensures.steps;
  files = λ number. c.part.ensures.files number ∙ c.loop-link.invariant.files number;
}
