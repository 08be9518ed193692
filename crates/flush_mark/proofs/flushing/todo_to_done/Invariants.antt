use Rattle.std.proofs.Common.{true, length}
use Rattle.il_machine.specs.declared.header.Spot.TheVariants.{DoneBack}
use Rattle.il_machine.specs.Headers.{put_all, input_reset}
use Rattle.port_stock.specs.Kept.{stocked}
use Rattle.flush_mark.proofs.ResetSteps.{Begun}
use Rattle.flush_mark.proofs.flushing.todo_to_done.Given as goal

abbrev pub invariant-loop-header : goal.invariant-loop-header
invariant-loop-header l = Begun (input_reset l.key) (put_all l.key DoneBack ((stocked l.stock).headers.todo l.key)) (stocked l.fn.stock) (stocked l.stock)

abbrev pub decreases-loop-header : goal.decreases-loop-header
decreases-loop-header l = length ((stocked l.stock).headers.todo l.key)
