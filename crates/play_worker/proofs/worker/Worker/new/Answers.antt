use Rattle.std.proofs.Common.{refl}
use Rattle.graph_acts.specs.Plain.{sight_of}
use Rattle.play_worker.proofs.Keeping.{worker_begins}
use Rattle.play_worker.proofs.worker.Worker.new.Goals as goal

pub returns-clause-worker : goal.returns-clause-worker
returns-clause-worker g c = λ b seats is none zeros one eight.
    worker_begins g.G.Gate.counts (sight_of g.C.Client g.S.Source g.K.Sink) b seats _ is none zeros refl one eight
