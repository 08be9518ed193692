use Rattle.std.proofs.Common.{length, ap}
use Rattle.worker_course.proofs.Placed.{seated_front}
use Rattle.worker_course.proofs.seating.seats_in.Goals as goal

pub returns-in-Ok : goal.returns-in-Ok
returns-in-Ok g c = seated_front c.args.graph.now c.args.plan.now c.handles_in-handles.result (length c.parts-places.result.now) c.in-Ok.seats.items (ap length c.parts-places.ensures) c.handles_in-handles.ensures c.in-Ok.ensures
