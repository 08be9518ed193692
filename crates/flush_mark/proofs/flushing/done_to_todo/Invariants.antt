use Rattle.std.proofs.Common.{false, length}
use Rattle.il_machine.specs.declared.header.Spot.TheVariants.{TodoBack}
use Rattle.il_machine.specs.Headers.{put_all, output_reset}
use Rattle.port_stock.specs.Kept.{stocked}
use Rattle.flush_mark.proofs.ResetSteps.{Begun}
use Rattle.flush_mark.proofs.flushing.done_to_todo.Given as goal

abbrev pub invariant-loop-sent : goal.invariant-loop-sent
invariant-loop-sent l = Begun (output_reset l.key) (put_all l.key TodoBack ((stocked l.stock).headers.done l.key)) (stocked l.fn.stock) (stocked l.stock)

abbrev pub decreases-loop-sent : goal.decreases-loop-sent
decreases-loop-sent l = length ((stocked l.stock).headers.done l.key)
