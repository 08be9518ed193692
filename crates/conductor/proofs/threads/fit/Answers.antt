use denote.Param.Send.{sendable}
use Rattle.conductor.proofs.conductor.Conductor.TheSendSync as conductor
use Rattle.conductor.proofs.threads.fit.Goals as goal

pub may_move-requires-after_bounds : goal.may_move-requires-after_bounds
may_move-requires-after_bounds c κs = search (sendable, conductor.the_send)

pub may_be_shared-requires-after_bounds : goal.may_be_shared-requires-after_bounds
may_be_shared-requires-after_bounds c κs = search (sendable, conductor.the_sync)
