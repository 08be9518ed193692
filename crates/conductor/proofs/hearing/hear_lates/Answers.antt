use Rattle.std.proofs.Common.{◌≡◌, ◌+◌, ◌<◌, length, take, drop, get_or, sym, subst, arith}
use Rattle.std.proofs.Math.ListN.{set}
use Rattle.conductor.specs.Hearing.{heard_late, heard_lates}
use Rattle.stream_plan.proofs.Lists.{there_at}
use Rattle.conductor.proofs.Defaults.{no_late}
use Rattle.conductor.proofs.Hearings.{mapped_front, mapped_rest}
use Rattle.conductor.proofs.hearing.hear_lates.Goals as goal

pub loop-late-preserved : goal.loop-late-preserved
loop-late-preserved c =
    let told = c.args.told.now in
    let before = c.args.lates.now in
    let lates = c.loop-late.lates in
    let k = c.loop-late.late-index in
    let inside : k < length lates = omega arith in
    let there = there_at lates k no_late inside in
    record {
      front = subst (λ late. take (k + 1) (set lates k late) ≡ heard_lates told (take (k + 1) before)) (sym c.heard_late.ensures)
          (mapped_front (heard_late told) before lates k (get_or lates k no_late) there c.loop-late.invariant.front c.loop-late.invariant.rest);
      rest = subst (λ late. drop (k + 1) (set lates k late) ≡ drop (k + 1) before) (sym c.heard_late.ensures)
          (mapped_rest (heard_late told) before lates k (get_or lates k no_late) there c.loop-late.invariant.front c.loop-late.invariant.rest);
    }
