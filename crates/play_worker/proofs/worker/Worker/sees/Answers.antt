use Rattle.std.proofs.Common.{refl}
use Rattle.graph_acts.specs.Plain.{sight_of}
use Rattle.play_worker.proofs.Keeping.{worker_moves}
use Rattle.play_worker.proofs.worker.Worker.sees.Goals as goal

pub returns-clause-worker : goal.returns-clause-worker
returns-clause-worker g c =
    worker_moves g.G.Gate.counts (sight_of g.C.Client g.S.Source g.K.Sink) c.args.board.now c.args.seats.now c.args.self.now _ c.requires.worker c.progress.ensures.moves refl refl

pub returns-clause-looked : goal.returns-clause-looked
returns-clause-looked g c = (c.progress.result, c.progress.ensures.made, c.seen_in.ensures)
