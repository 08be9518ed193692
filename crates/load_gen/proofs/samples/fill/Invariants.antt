use Rattle.std.proofs.Common.{◌≡◌, ◌*◌, take}
use Rattle.load_gen.specs.Samples.{after, samples}
use Rattle.load_gen.proofs.samples.fill.Given as goal

abbrev pub invariant-loop-i : goal.invariant-loop-i
invariant-loop-i l = record {
  filled : take (2 * l.i) l.buf ≡ samples l.i l.x;
  number : l.number ≡ after l.i l.x;
}
