-- What the seats of a plan are.
use Rattle.std.specs.Prelude.{◌≡◌, ◌-◌, ◌^◌, ℕ, List, map, min}
use Rattle.omx_types.specs.declared.handle.Handle.{Handle}
use Rattle.part_forms.specs.Kinds.{inputs_of, ports_in}
use Rattle.play_forms.specs.Parts.{kind_of}
use Rattle.play_forms.specs.Plans.{PlanValue}
use Rattle.script_lang.specs.declared.play_line.PartLine.{PartLine}
use Rattle.work_signs.specs.declared.seat.Seat.{Seat}

abbrev pub inputs_by : PartLine → ℕ
inputs_by part = inputs_of (kind_of part.form)

-- as many as the number of a port can tell
abbrev pub ports_by : PartLine → ℕ
ports_by part = min (ports_in (kind_of part.form)) (2 ^ 32 - 1)

-- the handles of the components that are seated
abbrev pub handles_of : List Seat → List Handle
handles_of seats = map (λ (seat : Seat). seat.handle) seats

-- there is a seat for each of these components, in their order, with its handle, its name and its ports
pub record AreSeatsOf (parts : List PartLine) (handles : List Handle) (seats : List Seat) : Type 0 where
  pub seated : handles_of seats ≡ handles
  pub names : map (λ (seat : Seat). seat.name) seats ≡ map (λ (part : PartLine). part.name) parts
  pub inputs : map (λ (seat : Seat). seat.inputs) seats ≡ map inputs_by parts
  pub ports : map (λ (seat : Seat). seat.ports) seats ≡ map ports_by parts
