use Rattle.il_graph.proofs.graph.Graph.law_of_machine_runs.Goals as goal

pub returns-clause-trails : goal.returns-clause-trails
returns-clause-trails g c v stands key units xs ms = c.law_of_trails.ensures.runs key units xs ms v

pub returns-clause-due : goal.returns-clause-due
returns-clause-due g c v stands key units xs number x = c.law_of_queues.ensures.whole key units xs v number x

pub returns-clause-returned : goal.returns-clause-returned
returns-clause-returned g c v stands key units xs ms p m = c.law_of_settled.ensures.ports v ms p (c.law_of_trails.ensures.runs key units xs ms v m)
