use Rattle.std.proofs.Common.{◌≡◌, ◌≤◌, ◌-◌, ◌++◌, length, take, drop, map}
use Rattle.rtp_parts.specs.Sorting.{Numbered, placed}
use Rattle.rtp_parts.specs.Steps.{numbered_of}
use Rattle.rtp_parts.proofs.window.Window.place_of.Given as goal

abbrev pub invariant-loop-place : goal.invariant-loop-place
invariant-loop-place l = record {
  within : l.place ≤ length l.self.held.items;
  passed : (a : Numbered) → a.number ≡ l.number → placed a (map numbered_of l.self.held.items) ≡ map numbered_of (take l.place l.self.held.items) ++ placed a (map numbered_of (drop l.place l.self.held.items));
}

abbrev pub decreases-loop-place : goal.decreases-loop-place
decreases-loop-place l = length l.self.held.items - l.place
