use Rattle.std.proofs.Common.{◌≡◌, ◌≤◌, ◌+◌, ◌-◌, List, ℕ, length, take, drop, ap, arith, length-take}
use Rattle.header_core.specs.BufferHeader.{BufferHeader, bytes_of, own_memory}
use Rattle.header_core.proofs.Ranges.{drop-range}
use Rattle.header_core.proofs.header.Header.advance.Goals as goal

pub returns : goal.returns
returns c =
    let i = c.self.inside in
    let n = c.args.bytes in
    let same : length (take (i.used - i.start) (drop i.start (bytes_of i.store))) ≡ length c.args.self.now.held.content =
    ap (λ (h : BufferHeader). length h.held.content) c.self.view_is in
    let some : n ≤ i.used - i.start = omega (arith, c.requires, same, length-take (i.used - i.start) (drop i.start (bytes_of i.store))) in
    let within : i.start + n ≤ i.used = omega (arith, c.self.invariant.3) in
    let with : List ℕ → BufferHeader = λ bytes. record {
      key = i.key;
      held = record { number = i.number; size = i.size; content = bytes; flags = i.flags; mark = i.mark; memory = own_memory i.store };
      store = i.store;
    } in
    rw (← c.self.view_is) (ap with (drop-range (bytes_of i.store) i.start n i.used within))
