-- The seats of the components of a graph.
use Rattle.std.specs.Prelude.{◌≡◌, ℕ, ◌<◌, List, length, slice_get, Some}
use Rattle.omx_types.specs.declared.handle.Handle.{Handle}
use Rattle.il_machine.specs.declared.answer.Progress.{Progress}
use Rattle.il_graph.specs.Shown.{Shown}
use Rattle.play_forms.specs.Plans.{PlanValue}
use Rattle.play_graph.specs.Graphs.{IsHandleAt}
use Rattle.work_signs.specs.declared.seat.Seat.{Seat}
use Rattle.work_signs.specs.Seats.{AreSeatsOf}

module _ {S K : Type 0} where
  -- the handles of its components, by their places
  abbrev pub AreHandles : Shown S K Progress → ℕ → List Handle → Type 0
  AreHandles graph places handles = (place : ℕ) → place < places → (h : Handle) × (slice_get handles place ≡ Some h) × IsHandleAt graph place h

  -- there is a seat for each of the plan's components, with the handle that it has in the graph
  pub record AreSeated (plan : PlanValue) (graph : Shown S K Progress) (seats : List Seat) : Type 0 where
    pub handles : List Handle
    pub many : length handles ≡ length plan.parts
    pub named : AreHandles graph (length plan.parts) handles
    pub seats_are : AreSeatsOf plan.parts handles seats
