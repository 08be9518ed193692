use Rattle.steps_bench.proofs.acts.+populate.Given as goal

abbrev pub decreases-populate : goal.decreases-populate
decreases-populate g l = l.count
