use Rattle.play_graph.proofs.Standing.{givers_there}
use Rattle.play_graph.proofs.ends.opening_format.Goals as goal

pub is_late_at-late-requires : goal.is_late_at-late-requires
is_late_at-late-requires c = givers_there c.args.plan.now c.args.link c.joint.result c.requires.valid c.requires.there c.joint.ensures
