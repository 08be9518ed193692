-- The header of a name, in the client's hand or not.
use Rattle.std.specs.Prelude.{◌≡◌, ℕ, List, [], position, slice_get, slice_set, Option, Some, None}
use Rattle.header_core.specs.BufferHeader.{BufferHeader}
use Rattle.trace_run.specs.declared.slots.Slot.{Slot}
use Rattle.trace_run.specs.Naming.{in_hand}
use Rattle.trace_run.specs.Standing.{holding, names_in, slot_named}

-- the first slot of the name is at the place, and that was taken out of its hand
pub record IsTakenOut (slots : List Slot) (name : List ℕ) (place : ℕ) (hand : Option BufferHeader) (without : List Slot) : Type 0 where
  pub slot : Slot
  pub first : position (slot_named name) slots ≡ Some place
  pub there : slice_get slots place ≡ Some slot
  pub hand_is : slot.hand ≡ hand
  pub taken : without ≡ slice_set slots place (holding None slot)

-- no header of the name is in hand
abbrev pub HasNone : List Slot → List ℕ → Type 0
HasNone slots name = in_hand (names_in [] slots) name ≡ None
