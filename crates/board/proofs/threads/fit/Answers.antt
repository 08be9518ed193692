use denote.Param.Send.{sendable}
use Rattle.graph_acts.proofs.act.Act.TheSendSync as asks
use Rattle.graph_acts.proofs.act.Reply.TheSendSync as replies
use Rattle.board.proofs.pass.BoardPass.TheSendSync as pass
use Rattle.board.proofs.boards.Board.TheSendSync as shared_board
use Rattle.board.proofs.threads.fit.Goals as goal

pub may_move-requires-after_bounds : goal.may_move-requires-after_bounds
may_move-requires-after_bounds g c κs within = search (sendable, asks.the_send)

pub may_move-requires-2-after_bounds : goal.may_move-requires-2-after_bounds
may_move-requires-2-after_bounds g c κs within = search (sendable, replies.the_send)

pub may_move-requires-3-after_bounds : goal.may_move-requires-3-after_bounds
may_move-requires-3-after_bounds g c κs within = search (sendable, pass.the_send)

pub may_move-requires-4-after_bounds : goal.may_move-requires-4-after_bounds
may_move-requires-4-after_bounds g c κs within = search (sendable, shared_board.the_send)

pub may_be_shared-requires-after_bounds : goal.may_be_shared-requires-after_bounds
may_be_shared-requires-after_bounds g c κs within = search (sendable, shared_board.the_sync)
