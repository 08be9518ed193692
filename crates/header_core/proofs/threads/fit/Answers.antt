use denote.Param.Send.{sendable}
use Rattle.header_core.proofs.header.Header.TheSendSync as header
use Rattle.header_core.proofs.memory.Store.TheSendSync as store
use Rattle.header_core.proofs.threads.fit.Goals as goal

pub may_move-requires-after_bounds : goal.may_move-requires-after_bounds
may_move-requires-after_bounds c κs = search (sendable, header.the_send)

pub may_move-requires-2-after_bounds : goal.may_move-requires-2-after_bounds
may_move-requires-2-after_bounds c κs = search (sendable, store.the_send)
