-- Entries whose headers all wait in lists, and what of the region is with them.
use Rattle.std.specs.Prelude.{◌≡◌, ℕ, ◌+◌, true, List}
use Rattle.il_machine.specs.Buffers.{is_block}
use Rattle.il_machine.specs.Headers.{count_headers}
use Rattle.block_region.specs.Regions.{BlockRegion}
use Rattle.port_stock.specs.declared.entry.Entry.{Entry}
use Rattle.port_stock.specs.Blocks.{key_of}
use Rattle.port_stock.specs.Kept.{is_waiting}
use Rattle.port_stock.specs.Entries.{Each, HasKey, IsKept, headers_of}

-- the header of the entry waits in a list, and has the key
pub record IsEnding (key : ℕ) (e : Entry) : Type 0 where
  pub kept : IsKept e
  pub of_key : HasKey key e
  pub waits : is_waiting e.state.queue ≡ true

-- all blocks that aren't free are with the headers of the entries
pub record AreEnding (r : BlockRegion) (entries : List Entry) : Type 0 where
  pub each : Each (IsEnding (key_of r)) entries
  pub blocks : r.free + count_headers is_block (headers_of entries) ≡ r.blocks
