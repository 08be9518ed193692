use denote.Param.Send.{sendable}
use Rattle.audio_parts.proofs.any_part.AnyPart.TheSendSync as any
use Rattle.audio_parts.proofs.threads.fit.Goals as goal

pub may_move-requires-after_bounds : goal.may_move-requires-after_bounds
may_move-requires-after_bounds g c κs within = search (sendable, any.the_send)
