use Rattle.play_forms.specs.Placing.{ArePlaced}
use Rattle.stream_plan.proofs.Lefts.{left_of}
use Rattle.stream_plan.proofs.placing.order_of.Given as goal

abbrev pub invariant-loop-place : goal.invariant-loop-place
invariant-loop-place l = ArePlaced l.joints l.count l.order.items

abbrev pub decreases-loop-place : goal.decreases-loop-place
decreases-loop-place l = left_of l.count l.order.items
