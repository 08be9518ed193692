use Rattle.std.proofs.Common.{refl}
use Rattle.graph_acts.specs.Plain.{sight_of}
use Rattle.play_worker.proofs.Keeping.{worker_moves}
use Rattle.play_worker.proofs.worker.Worker.attend.Goals as goal

pub step-stepped-requires-clause-worker : goal.step-stepped-requires-clause-worker
step-stepped-requires-clause-worker g c =
    worker_moves g.G.Gate.counts (sight_of g.C.Client g.S.Source g.K.Sink) c.args.board.now c.args.seats.now c.args.self.now _ c.requires.worker c.tend-tended.ensures refl refl
