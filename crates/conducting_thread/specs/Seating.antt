-- The seats of a plan's components.
use Rattle.std.specs.Prelude.{◌≡◌, ℕ, nat_lt, List, length, slice_get, Some}
use Rattle.part_forms.specs.Kinds.{is_input}
use Rattle.script_lang.specs.declared.play_line.PartLine.{PartLine}
use Rattle.play_forms.specs.Parts.{kind_of}
use Rattle.play_forms.specs.Plans.{PlanValue}
use Rattle.work_signs.specs.declared.seat.Seat.{Seat}

-- one for each component, in the order of the script, by which its number is its place; and its inputs are those of its kind
pub record AreSeatsFor (plan : PlanValue) (seats : List Seat) : Type 0 where
  pub many : length seats ≡ length plan.parts
  pub numbered : (place : ℕ) (seat : Seat) → slice_get seats place ≡ Some seat → (seat.handle).generation ≡ place
  pub inputs : (place : ℕ) (part : PartLine) (seat : Seat) (port : ℕ) → slice_get plan.parts place ≡ Some part → slice_get seats place ≡ Some seat → nat_lt port seat.inputs ≡ is_input (kind_of part.form) port
