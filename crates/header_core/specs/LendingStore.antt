-- What a header's memory ends as, where a `&mut` to its bytes is returned.
use Rattle.std.specs.Prelude.{ℕ, List}
use Rattle.std.specs.Borrow.{Lends, Array, Fml, MutBor, u8}
use Rattle.header_core.specs.declared.memory.Store.{Store}
use Rattle.header_core.specs.contracts.memory.Store.{the_row}
use Rattle.header_core.specs.BufferHeader.{bytes_of, with_bytes}
use Rattle.header_core.specs.Rewriting.{rewritten}

-- once the borrow r ends, the bytes are what was written through r
abbrev pub lends_store : MutBor Store → MutBor (List ℕ) → Fml
lends_store store r = Lends the_row (Array u8 0) store r (λ written. with_bytes (rewritten (bytes_of store.now) written) store.now)
