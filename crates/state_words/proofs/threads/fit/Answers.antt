use denote.Param.Send.{sendable}
use Rattle.state_words.proofs.words.StateWords.TheSendSync as state_words
use Rattle.state_words.proofs.words.Shower.TheSendSync as shower
use Rattle.state_words.proofs.words.Reader.TheSendSync as reader
use Rattle.state_words.proofs.threads.fit.Goals as goal

pub may_move-requires-after_bounds : goal.may_move-requires-after_bounds
may_move-requires-after_bounds c κs = search (sendable, state_words.the_send)

pub may_be_shared-requires-after_bounds : goal.may_be_shared-requires-after_bounds
may_be_shared-requires-after_bounds c κs = search (sendable, state_words.the_sync)

pub may_move-requires-2-after_bounds : goal.may_move-requires-2-after_bounds
may_move-requires-2-after_bounds c κs = search (sendable, shower.the_send)

pub may_move-requires-3-after_bounds : goal.may_move-requires-3-after_bounds
may_move-requires-3-after_bounds c κs = search (sendable, reader.the_send)
