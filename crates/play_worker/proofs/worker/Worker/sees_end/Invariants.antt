use Rattle.std.proofs.Common.{◌≡◌, true, take}
use Rattle.graph_acts.specs.Plain.{sight_of}
use Rattle.play_worker.specs.Ending.{AllLoaded}
use Rattle.play_worker.specs.Workers.{IsWorker}
use Rattle.play_worker.proofs.worker.Worker.sees_end.Given as goal

abbrev pub invariant-loop-place : goal.invariant-loop-place
invariant-loop-place g l =
    IsWorker g.G.Gate.counts (sight_of g.C.Client g.S.Source g.K.Sink) l.board l.seats l.self × (l.self.book.number ≡ l.fn.self.book.number) × (l.all_loaded ≡ true → AllLoaded (take l.place l.seats) l.self.book)
