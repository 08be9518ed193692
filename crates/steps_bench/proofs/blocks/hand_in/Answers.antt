use Rattle.il_graph.specs.Shown.{look_of}
use Rattle.steps_bench.proofs.blocks.hand_in.Goals as goal

pub empty_this_buffer-answer-requires : goal.empty_this_buffer-answer-requires
empty_this_buffer-answer-requires g c = record { handed = c.full.ensures (look_of c.args.graph.now) c.requires }
