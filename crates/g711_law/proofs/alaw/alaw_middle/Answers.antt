use Rattle.std.proofs.Common.{arith}
use Rattle.std.proofs.lemmas.Int.{ints}
use Rattle.g711_law.proofs.AlawLaws.{first_segment, later_segment, middle_range}
use Rattle.g711_law.proofs.alaw.alaw_middle.Goals.{then-segment-eq0, else-segment-eq0}
use Rattle.g711_law.proofs.alaw.alaw_middle.Goals as goal

pub overflow_cast-result : goal.overflow_cast-result
overflow_cast-result c =
    let a = c.args.inverted in
    let l = c.ranges.inverted.fits in
    let range = middle_range a l in
    elim c.if-segment-eq0.branch [
      | then-segment-eq0 w ↦ omega (arith, ints, w.middle-is, first_segment a w.if-segment-eq0.true)
      | else-segment-eq0 w ↦ omega (arith, ints, w.middle-is, later_segment a l w.if-segment-eq0.false)
    ]

pub returns : goal.returns
returns c =
    let a = c.args.inverted in
    let l = c.ranges.inverted.fits in
    let range = middle_range a l in
    elim c.if-segment-eq0.branch [
      | then-segment-eq0 w ↦ omega (arith, ints, w.middle-is, first_segment a w.if-segment-eq0.true)
      | else-segment-eq0 w ↦ omega (arith, ints, w.middle-is, later_segment a l w.if-segment-eq0.false)
    ]
