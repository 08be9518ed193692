-- Counts that rose.
use Rattle.std.proofs.Common.{◌≡◌, ℕ, ◌≤◌, Result, Ok, Err, OnOk, ◌∙◌, arith}
use Rattle.outside_io.specs.Causes.{Rose}
use Rattle.outside_io.specs.Files.{CountsStand, Outside}

-- a count that rose later rose
pub later : (old mid new : ℕ) → old ≤ mid → Rose mid new → Rose old new
later old mid new le rose = grind arith

-- a count that isn't what it was rose
pub risen : (before now : ℕ) → before ≤ now → (now ≡ before → ⊥) → Rose before now
risen before now later other = grind arith

pub CountsStand-then : (old mid new : Outside) → CountsStand old mid → CountsStand mid new → CountsStand old new
CountsStand-then old mid new one more = record { reads = more.reads ∙ one.reads; writes = more.writes ∙ one.writes }

pub on_ok : {A E : Type 0} (result : Result A E) (P : Type 0) → P → OnOk result P
on_ok (Ok a) P p = p
on_ok (Err e) P p = tt
