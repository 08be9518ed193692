use Rattle.std.proofs.Common.{◌≡◌}
use Rattle.graph_acts.specs.Plain.{sight_of}
use Rattle.play_worker.specs.Workers.{IsWorker}
use Rattle.play_worker.proofs.worker.Worker.round.Given as goal

abbrev pub invariant-loop-step : goal.invariant-loop-step
invariant-loop-step g l = IsWorker g.G.Gate.counts (sight_of g.C.Client g.S.Source g.K.Sink) l.board l.seats l.self × (l.self.book.number ≡ l.fn.self.book.number)
