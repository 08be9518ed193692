use Rattle.std.proofs.Common.{ℕ, ◌-◌, ap, arith}
use Rattle.port_stock.specs.Blocks.{blocks_out, key_of}
use Rattle.port_stock.proofs.Adding.{begun, begun_is}
use Rattle.port_stock.proofs.stock.Stock.new.Goals as goal

pub invariant_of-result : goal.invariant_of-result
invariant_of-result c =
    let r = c.in_ok-new.field-0 in
    let F = c.in_ok-new.ensures in
    let free = F.all_home in
    rw (c.new-2.ensures.items, c.new-4.ensures.items) (begun (key_of r) (blocks_out r) _ (ap (λ (n : ℕ). 1024 - n) free), record { blocks = F.all_blocks; size = F.size_of_each; free = omega arith })

pub returns : goal.returns
returns c = rw (c.new-2.ensures.items, c.new-4.ensures.items) (begun_is (key_of c.in_ok-new.field-0))
