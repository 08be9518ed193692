use Rattle.std.proofs.Common.{rules}
use Rattle.outside_io.proofs.Known.{append_known-goes_on}
use Rattle.outside_io.proofs.moving.write_all.Goals as goal

pub loop-done-preserved : goal.loop-done-preserved
loop-done-preserved g c = record {
  within = search rules;
  told = append_known-goes_on _ _ _ c.args.piece.now c.loop-done.done c.in_ok-count.count c.loop-done.invariant.told c.in_ok-count.ensures.taken;
  name = search rules;
  faults = search rules;
  writing = search rules;
}
