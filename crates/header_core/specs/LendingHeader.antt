-- What a header ends as, where a `&mut` to its content is returned.
use Rattle.std.specs.Prelude.{ℕ, List}
use Rattle.std.specs.Borrow.{Lends, Array, Fml, MutBor, u8}
use Rattle.header_core.specs.contracts.header.Header.{the_row}
use Rattle.header_core.specs.BufferHeader.{BufferHeader, refilled}

-- once the borrow r ends, the content is the front of what was written through r
abbrev pub lends_content : MutBor BufferHeader → ℕ → ℕ → MutBor (List ℕ) → Fml
lends_content header bytes flags r = Lends the_row (Array u8 0) header r (λ written. refilled bytes flags written header.now)
