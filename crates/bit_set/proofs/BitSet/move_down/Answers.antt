use Rattle.std.proofs.Common.{arith}
use Rattle.bit_set.proofs.Bits.{has_moved, moved_fits, moved_word}
use Rattle.bit_set.proofs.BitSet.move_down.Goals as goal

pub overflow_add-self : goal.overflow_add-self
overflow_add-self c =
    let word = c.self.inside.word in
    omega (arith, moved_word word c.args.number c.self.invariant c.requires, moved_fits word c.args.number, c.self.invariant)

pub invariant_of-self : goal.invariant_of-self
invariant_of-self c =
    let word = c.self.inside.word in
    omega (arith, moved_word word c.args.number c.self.invariant c.requires, moved_fits word c.args.number, c.self.invariant)

pub returns : goal.returns
returns c =
    let word = c.self.inside.word in
    λ i. rw (← c.self.view_is, moved_word word c.args.number c.self.invariant c.requires) (has_moved word c.args.number i)
