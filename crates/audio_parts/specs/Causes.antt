-- The causes of a part's faults.
use Rattle.std.specs.Prelude.{ℕ, Option, None, Some}
use Rattle.omx_types.specs.declared.fault.PartFault.{PartFault}
use Rattle.omx_types.specs.declared.fault.PartFault.TheVariants.{Read, Write, Short}
use Rattle.outside_io.specs.Causes.{Rose}
use Rattle.outside_io.specs.Stops.{GaveNothing}

-- of a source of that size and told end, read from `start` on: by its count before and now
abbrev pub HasReadCause : ℕ → Option ℕ → ℕ → ℕ → ℕ → PartFault → Type 0
HasReadCause size ends start before now Read = Rose before now
HasReadCause size ends start before now Write = ⊥
HasReadCause size ends start before now (Short at told_size) = GaveNothing size ends start at told_size

-- of a sink: by its count before and now
abbrev pub HasWriteCause : ℕ → ℕ → PartFault → Type 0
HasWriteCause before now Read = ⊥
HasWriteCause before now Write = Rose before now
HasWriteCause before now (Short at told_size) = ⊥

-- between two states of the file of a source, if there is one: its size, its told end, its offset and its count are given
abbrev pub ReadCause : {F : Type 0} → (F → ℕ) → (F → Option ℕ) → (F → ℕ) → (F → ℕ) → Option F → Option F → PartFault → Type 0
ReadCause size ends next faults None now fault = ⊥
ReadCause size ends next faults (Some before) None fault = ⊥
ReadCause size ends next faults (Some before) (Some now) fault = HasReadCause (size before) (ends before) (next before) (faults before) (faults now) fault

-- between two states of the file of a sink
abbrev pub WriteCause : {F : Type 0} → (F → ℕ) → Option F → Option F → PartFault → Type 0
WriteCause faults None now fault = ⊥
WriteCause faults (Some before) None fault = ⊥
WriteCause faults (Some before) (Some now) fault = HasWriteCause (faults before) (faults now) fault
