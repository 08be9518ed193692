use Rattle.il_machine.specs.declared.header.HeaderState.{HeaderState}
use Rattle.port_stock.specs.Blocks.{key_of}
use Rattle.port_stock.specs.Kept.{is_waiting}
use Rattle.port_stock.proofs.Ending.{tested}
use Rattle.port_stock.proofs.stock.Stock.all_wait.Goals as goal

pub returns : goal.returns
returns c =
    let i = c.self.inside in
    rw (← c.self.view_is) (tested (λ (h : HeaderState). is_waiting h.queue) (key_of i.region) i.ports.items i.entries.items i.next c.all_wait.result (rw c.deref.ensures.value at c.all_wait.ensures) c.self.invariant.0.once)
