use Rattle.std.proofs.Common.{arith}
use Rattle.port_stock.proofs.Ending.{ended, ending_fewer, ending_last}
use Rattle.port_stock.proofs.stock.end_all.Goals as goal

pub end_entry-requires : goal.end_entry-requires
end_entry-requires c = ending_last c.loop-entry.region c.pop.new.self.items c.in-Some.entry (rw c.in-Some.ensures.items at c.loop-entry.invariant)

pub loop-entry-preserved : goal.loop-entry-preserved
loop-entry-preserved c =
    ending_fewer c.loop-entry.region c.end_entry.new.region c.pop.new.self.items c.in-Some.entry (rw c.in-Some.ensures.items at c.loop-entry.invariant) c.end_entry.ensures.same c.end_entry.ensures.free

pub close-requires : goal.close-requires
close-requires c =
    let l = c.loop-entry.entries.ok.0 in
    ended c.loop-entry.region c.loop-entry.entries.items (omega (arith, c.in_default.ensures)) c.loop-entry.invariant
