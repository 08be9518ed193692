use Rattle.std.proofs.Common.{length, Some, ◌∙◌, ap}
use Rattle.play_build_laws.specs.Dismantling.{IsUnjoined}
use Rattle.play_graph.specs.Ending.{AreBack}
use Rattle.play_graph.proofs.Apart.{back_at_end, is_all_in, stands_then, unjoined_then}
use Rattle.play_graph.proofs.ending.end_graph.Goals as goal

pub free_all-requires-clause-stands : goal.free_all-requires-clause-stands
free_all-requires-clause-stands g c = unjoined_then c.args.plan.now c.args.graph c.part_all.new.graph c.requires.ended c.part_all.ensures.steps

pub close-requires : goal.close-requires
close-requires g c =
    is_all_in c.free_all.new.graph (stands_then (IsUnjoined (length c.args.plan.now.parts)) (IsUnjoined 0) (λ w v. AreBack w c.free_all.new.files) c.part_all.new.graph c.free_all.new.graph
    (unjoined_then c.args.plan.now c.args.graph c.part_all.new.graph c.requires.ended c.part_all.ensures.steps) c.free_all.ensures.steps)

pub returns-clause-back : goal.returns-clause-back
returns-clause-back g c = back_at_end c.args.plan.now c.args.graph c.part_all.new.graph c.free_all.new.graph c.free_all.new.files c.part_all.ensures.steps c.free_all.ensures.steps

pub returns-clause-files : goal.returns-clause-files
returns-clause-files g c = λ place b. c.free_all.ensures.files place b ∙ ap (λ o. Some o) (c.part_all.ensures.files place)
