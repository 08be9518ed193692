use Rattle.graph_core.proofs.ending.end_notes.Goals as goal

pub loop-init : goal.loop-init
loop-init g c = record { client = c.requires.client; others = λ rest held. held }

pub end_next-requires-clause-client : goal.end_next-requires-clause-client
end_next-requires-clause-client g c = c.loop.invariant.client

pub end_next-requires-clause-held : goal.end_next-requires-clause-held
end_next-requires-clause-held g c = let held = c.requires.held in (held.0, c.loop.invariant.others held.0 held.1)

pub loop-preserved : goal.loop-preserved
loop-preserved g c = record { client = c.end_next.ensures.client; others = λ rest held. c.end_next.ensures.others rest (c.loop.invariant.others rest held) }

pub returns-clause-others : goal.returns-clause-others
returns-clause-others g c = λ rest held. c.end_next.ensures.others rest (c.loop.invariant.others rest held)
