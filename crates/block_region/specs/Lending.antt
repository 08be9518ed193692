-- What a block ends as, where a `&mut` to its bytes is returned.
use Rattle.std.specs.Prelude.{ℕ, List}
use Rattle.std.specs.Borrow.{Lends, Array, Fml, MutBor, u8}
use Rattle.block_region.specs.Regions.{RegionBlock, rewritten}
use Rattle.block_region.specs.contracts.block.Block.{the_row}

-- once the borrow r ends, the block's bytes are what was written through r, and its key is as before
abbrev pub lends_bytes : MutBor RegionBlock → MutBor (List ℕ) → Fml
lends_bytes block r = Lends the_row (Array u8 0) block r (rewritten block.now)
