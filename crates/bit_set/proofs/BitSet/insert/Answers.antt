use Rattle.bit_set.proofs.Bits.{has_inserted}
use Rattle.bit_set.proofs.BitSet.insert.Goals as goal

pub returns : goal.returns
returns c = rw (← c.self.view_is) (has_inserted c.self.inside.word c.args.number c.requires)
