-- What an error of planning says: the fault of that step, or want of memory.
use Rattle.std.specs.Prelude.{◌≡◌, ℕ, ◌<◌, true, false, List}
use Rattle.part_forms.specs.Kinds.{ports_in}
use Rattle.script_lang.specs.declared.play_line.PartLine.{PartLine}
use Rattle.play_forms.specs.declared.joint.Joint.{Joint}
use Rattle.play_forms.specs.declared.plan_fault.PlanFault.{PlanFault}
use Rattle.play_forms.specs.declared.plan_fault.PlanFault.TheVariants.{Cycle, OpenPort, PortTwice, TooMany, OutOfMemory}
use Rattle.play_forms.specs.Joints.{IsOpen, IsTooMany, IsTwice, is_linked}
use Rattle.play_forms.specs.Parts.{kind_of}
use Rattle.play_forms.specs.Placing.{IsCycle, can_place, has_place}

abbrev pub ForTwice : List PartLine → List Joint → PlanFault → Type 0
ForTwice parts joints (PortTwice line) = IsTwice parts joints line
ForTwice parts joints OutOfMemory = Unit {0}
ForTwice parts joints other = ⊥

abbrev pub ForOpen : List PartLine → List Joint → PlanFault → Type 0
ForOpen parts joints (OpenPort line port) = IsOpen parts joints line port
ForOpen parts joints other = ⊥

abbrev pub ForTooMany : List Joint → PlanFault → Type 0
ForTooMany joints (TooMany line) = IsTooMany joints line
ForTooMany joints other = ⊥

abbrev pub ForCycle : List PartLine → List Joint → PlanFault → Type 0
ForCycle parts joints (Cycle line) = IsCycle parts joints line
ForCycle parts joints OutOfMemory = Unit {0}
ForCycle parts joints other = ⊥

-- the least port of the component that isn't linked
pub record IsFirstOpen (joints : List Joint) (place : ℕ) (part : PartLine) (port : ℕ) : Type 0 where
  pub there : port < ports_in (kind_of part.form)
  pub open_there : is_linked joints place port ≡ false
  pub least : (other : ℕ) → other < port → is_linked joints place other ≡ true

-- no component can be placed
abbrev pub IsStuck : List Joint → ℕ → List ℕ → Type 0
IsStuck joints count placed = (place : ℕ) → place < count → can_place joints placed place ≡ false

abbrev pub ArePlacedAll : ℕ → List ℕ → Type 0
ArePlacedAll count placed = (place : ℕ) → place < count → has_place placed place ≡ true

-- the first that isn't placed
pub record IsFirstLeft (count : ℕ) (placed : List ℕ) (place : ℕ) : Type 0 where
  pub there : place < count
  pub left : has_place placed place ≡ false
  pub first : (before : ℕ) → before < place → has_place placed before ≡ true
