use Rattle.bit_set.proofs.Bits.{has_none}
use Rattle.bit_set.proofs.BitSet.empty.Goals as goal

pub returns : goal.returns
returns c = has_none
