use Rattle.std.proofs.Common.{arith, ◌≡◌}
use Rattle.std.proofs.lemmas.Bool.Decides.{nat_tests}
use Rattle.bit_set.proofs.Bits.{has_none, none_has}
use Rattle.bit_set.proofs.BitSet.is_empty.Goals as goal

pub returns : goal.returns
returns c =
    let word = c.self.inside.word in
    rw (← c.self.view_is) (
      (λ t. let z : word ≡ 0 = grind (arith, nat_tests) in λ i. rw z (has_none i)),
      (λ h. let z : word ≡ 0 = none_has word h in grind (arith, nat_tests)),
    )
