use denote.Param.Send.{sendable}
use Rattle.stream_plan.proofs.plan.Plan.TheSendSync as plan
use Rattle.stream_plan.proofs.threads.fit.Goals as goal

pub may_move-requires-after_bounds : goal.may_move-requires-after_bounds
may_move-requires-after_bounds c κs = search (sendable, plan.the_send)

pub may_be_shared-requires-after_bounds : goal.may_be_shared-requires-after_bounds
may_be_shared-requires-after_bounds c κs = search (sendable, plan.the_sync)
