use denote.Param.Send.{sendable}
use Rattle.block_region.proofs.block.Block.TheSendSync as block
use Rattle.block_region.proofs.region.Region.TheSendSync as region
use Rattle.block_region.proofs.threads.fit.Goals as goal

pub may_move-requires-after_bounds : goal.may_move-requires-after_bounds
may_move-requires-after_bounds c κs = search (sendable, region.the_send)

pub may_move-requires-2-after_bounds : goal.may_move-requires-2-after_bounds
may_move-requires-2-after_bounds c κs = search (sendable, block.the_send)
