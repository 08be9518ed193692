-- A block of a region, as its bytes are written, and a region as its blocks come and go.
use Rattle.std.specs.Prelude.{◌≡◌, ℕ, List}
use Rattle.il_machine.specs.Lists.{overwritten}
use Rattle.block_region.specs.Regions.{BlockRegion, RegionBlock}

-- the bytes stand at the front of the block's
abbrev pub block_over : List ℕ → RegionBlock → RegionBlock
block_over front b = record b { bytes = overwritten front b.bytes }

-- the same region: which blocks are at home may differ
abbrev pub IsSameRegion : BlockRegion → BlockRegion → Type 0
IsSameRegion old new = (new.key ≡ old.key) × (new.blocks ≡ old.blocks)
