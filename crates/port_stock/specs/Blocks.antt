-- The region of a graph's blocks.
use Rattle.std.specs.Prelude.{◌≡◌, ℕ, ◌-◌, ◌≤◌}
use Rattle.block_region.specs.Regions.{BlockRegion}
use Rattle.header_core.specs.Keys.{key_number}

-- what the headers have for a key
abbrev pub key_of : BlockRegion → ℕ
key_of r = key_number r.key

-- how many blocks headers have
abbrev pub blocks_out : BlockRegion → ℕ
blocks_out r = 1024 - r.free

-- 1,024 blocks of 4,096 bytes
pub record HasBlocks (r : BlockRegion) : Type 0 where
  pub blocks : r.blocks ≡ 1024
  pub size : r.key.size ≡ 4096
  pub free : r.free ≤ 1024
