use denote.Param.Send.{sendable}
use Rattle.turnstile.proofs.turnstile.Pass.TheSendSync as pass
use Rattle.turnstile.proofs.turnstile.Turnstile.TheSendSync as stile
use Rattle.turnstile.proofs.threads.fit.Goals as goal

pub may_move-requires-after_bounds : goal.may_move-requires-after_bounds
may_move-requires-after_bounds g c κs within = search (sendable, pass.the_send)

pub may_move-requires-2-after_bounds : goal.may_move-requires-2-after_bounds
may_move-requires-2-after_bounds g c κs within = search (sendable, stile.the_send)

pub may_be_shared-requires-after_bounds : goal.may_be_shared-requires-after_bounds
may_be_shared-requires-after_bounds g c κs within = search (sendable, stile.the_sync)
