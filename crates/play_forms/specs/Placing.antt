-- The order of placing, and the component that can't be placed.
use Rattle.std.specs.Prelude.{◌≡◌, ℕ, ◌<◌, Bool, true, false, not, ◌==◌, ◌&&◌, ◌||◌, List, length, take, slice_get, Some}
use Rattle.std.specs.List.{list_any, list_all}
use Rattle.script_lang.specs.declared.play_line.PartLine.{PartLine}
use Rattle.play_forms.specs.declared.joint.Joint.{Joint}

abbrev pub has_place : List ℕ → ℕ → Bool
has_place placed place = list_any (λ other. other == place) placed

-- all its inputs come from placed components
abbrev pub is_fed : List Joint → List ℕ → ℕ → Bool
is_fed joints placed place = list_all (λ (joint : Joint). not (joint.taker == place) || has_place placed joint.giver) joints

abbrev pub can_place : List Joint → List ℕ → ℕ → Bool
can_place joints placed place = not (has_place placed place) && is_fed joints placed place

-- of so many components, the first in script order that can be placed
pub record IsNext (joints : List Joint) (count : ℕ) (placed : List ℕ) (place : ℕ) : Type 0 where
  pub there : place < count
  pub can : can_place joints placed place ≡ true
  pub first : (before : ℕ) → before < place → can_place joints placed before ≡ false

-- each place is the next one after those before it
abbrev pub ArePlaced : List Joint → ℕ → List ℕ → Type 0
ArePlaced joints count placed = (k place : ℕ) → slice_get placed k ≡ Some place → IsNext joints count (take k placed) place

-- and every component is placed
pub record IsOrder (joints : List Joint) (count : ℕ) (order : List ℕ) : Type 0 where
  pub placed : ArePlaced joints count order
  pub all : (place : ℕ) → place < count → has_place order place ≡ true

-- Cycle: no more can be placed, and it is the first that isn't
pub record IsCycle (parts : List PartLine) (joints : List Joint) (line : ℕ) : Type 0 where
  pub placed : List ℕ
  pub are_placed : ArePlaced joints (length parts) placed
  pub no_more : (place : ℕ) → place < length parts → can_place joints placed place ≡ false
  pub place : ℕ
  pub part : PartLine
  pub there : slice_get parts place ≡ Some part
  pub its_line : line ≡ part.line
  pub left : has_place placed place ≡ false
  pub first : (before : ℕ) → before < place → has_place placed before ≡ true
