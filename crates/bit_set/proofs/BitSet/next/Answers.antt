use Rattle.std.proofs.Common.{arith}
use Rattle.bit_set.proofs.Bits.{has_above, none_from, next_is}
use Rattle.bit_set.proofs.BitSet.next.Goals as goal

pub returns-then-from-ge32 : goal.returns-then-from-ge32
returns-then-from-ge32 c = λ i l. rw (← c.self.view_is) (has_above c.self.inside.word i c.self.invariant (omega arith))

pub returns-then-rest-eq0 : goal.returns-then-rest-eq0
returns-then-rest-eq0 c = rw (← c.self.view_is) (none_from c.self.inside.word c.args.from c.if-rest-eq0.true)

pub returns : goal.returns
returns c = rw (← c.self.view_is) (next_is c.self.inside.word c.args.from c.self.invariant c.if-rest-eq0.false)
