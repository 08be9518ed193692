use Rattle.std.proofs.Common.{length, subst}
use Rattle.graph_acts.specs.Plain.{sight_of}
use Rattle.play_workers.specs.Wholes.{Leaves, Played}
use Rattle.play_workers.proofs.whole.play_by_workers.Goals as goal

pub returns-in-Ok-clause-played : goal.returns-in-Ok-clause-played
returns-in-Ok-clause-played g c =
    subst (λ z. (P : Played (sight_of g.C.Client g.S.Source g.K.Sink) g.C.Client.HEADERS c.args.seats.now (length c.args.gates.items) z c.play_on.result.graph) × Leaves g.G.Gate.counts (sight_of g.C.Client g.S.Source g.K.Sink) c.args.plan.now c.args.seats.now P.closed.log c.play_on.result)
    c.in-Ok.ensures.ok.1 c.play_on.ensures.played
