use Rattle.play_worker.proofs.Keeping.{numbered_at}
use Rattle.play_worker.proofs.worker.Worker.visit.Goals as goal

pub attend-did-requires-clause-seat : goal.attend-did-requires-clause-seat
attend-did-requires-clause-seat g c = numbered_at c.args.seats.now c.args.place _ c.requires.seats c.requires.there c.index-seats-place.is
