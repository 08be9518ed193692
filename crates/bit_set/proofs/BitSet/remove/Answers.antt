use Rattle.bit_set.proofs.Bits.{has_removed}
use Rattle.bit_set.proofs.BitSet.remove.Goals as goal

pub returns : goal.returns
returns c = rw (← c.self.view_is) (has_removed c.self.inside.word c.args.number c.self.invariant c.requires)
