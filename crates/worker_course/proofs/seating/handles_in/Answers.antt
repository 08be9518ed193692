use Rattle.std.proofs.Common.{arith, ◌∙◌}
use Rattle.std.proofs.Math.ListN.{length-set}
use Rattle.worker_course.proofs.Placed.{named_more}
use Rattle.worker_course.proofs.seating.handles_in.Goals as goal

pub loop-place-preserved : goal.loop-place-preserved
loop-place-preserved g c =
    let n = c.loop-place.invariant.0 in
    let few = c.requires.few in
    let below = c.loop-place-test.true in (
      length-set c.loop-place.handles c.loop-place.place c.handle.result ∙ n,
      named_more c.args.graph.now c.loop-place.handles c.loop-place.place c.handle.result (omega arith) c.loop-place.invariant.1 c.handle.ensures,
    )

pub returns : goal.returns
returns g c = λ place b. c.loop-place.invariant.1 place (omega arith)
