-- The region of a stock's blocks, as headers are made and unmade.
use Rattle.std.proofs.Common.{◌≡◌, ℕ, ◌+◌, ◌<◌, ◌≤◌, List, sym, ◌∙◌, ap, arith, subst}
use Rattle.block_region.specs.Regions.{BlockRegion, RegionKey}
use Rattle.il_machine.specs.Stock.{Stocked}
use Rattle.header_core.specs.Blocks.{IsSameRegion}
use Rattle.header_core.specs.Keys.{key_number}
use Rattle.port_stock.specs.declared.entry.Entry.{Entry}
use Rattle.port_stock.specs.declared.port.Port.{Port}
use Rattle.port_stock.specs.Blocks.{HasBlocks, blocks_out, key_of}
use Rattle.port_stock.proofs.Turning.{Turns}

pub same_key : (r t : BlockRegion) → IsSameRegion r t → key_of t ≡ key_of r
same_key r t same = ap key_number same.0

pub blocks_kept : (r t : BlockRegion) → IsSameRegion r t → t.free ≤ 1024 → HasBlocks r → HasBlocks t
blocks_kept r t same free B = record { blocks = same.1 ∙ B.blocks; size = ap (λ (k : RegionKey). k.size) same.0 ∙ B.size; free = free }

pub turned_key : (r t : BlockRegion) (ps : List Port) (es : List Entry) (blocks next places : ℕ) (s : Stocked) → IsSameRegion r t → Turns (key_of r) ps es blocks next places s → Turns (key_of t) ps es blocks next places s
turned_key r t ps es blocks next places s same T = subst (λ (key : ℕ). Turns key ps es blocks next places s) (sym (same_key r t same)) T

pub some_free : (r : BlockRegion) (count : ℕ) → blocks_out r ≡ count → count < 1024 → 0 < r.free
some_free r count is few = omega arith

pub taken_out : (r t : BlockRegion) (w : ℕ) → r.free ≤ 1024 → t.free + w ≡ r.free → blocks_out t ≡ blocks_out r + w
taken_out r t w few e = omega arith

pub back_home : (r t : BlockRegion) (w : ℕ) → t.free ≡ r.free + w → w ≤ blocks_out r → blocks_out t + w ≡ blocks_out r
back_home r t w e there = omega arith
