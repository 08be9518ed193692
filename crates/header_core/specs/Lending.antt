-- What a memory ends as, where a `&mut` to its bytes is returned.
use Rattle.std.specs.Prelude.{ℕ, List}
use Rattle.std.specs.Borrow.{Lends, Array, Fml, MutBor, u8}
use Rattle.header_core.specs.contracts.memory.Memory.{the_row}
use Rattle.header_core.specs.Rewriting.{rewritten}

-- once the borrow r ends, the memory's bytes are what was written through r
abbrev pub lends_memory : MutBor (List ℕ) → MutBor (List ℕ) → Fml
lends_memory memory r = Lends the_row (Array u8 0) memory r (rewritten memory.now)
