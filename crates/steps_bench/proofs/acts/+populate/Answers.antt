use Rattle.steps_bench.proofs.acts.+populate.Goals as goal

pub hand_in-requires : goal.hand_in-requires
hand_in-requires g t c = c.populate-others.ensures c.in_ok-header.header c.in_ok-header.ensures.handed.handed
