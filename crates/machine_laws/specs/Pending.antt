-- How much is pending.
use Rattle.std.specs.Prelude.{ℕ, ◌+◌, List, sum_by, Option, Some, None}
use Rattle.omx_types.specs.declared.state.State.{State}
use Rattle.omx_types.specs.declared.state.State.TheVariants.{Idle}
use Rattle.il_machine.specs.declared.answer.Pending.{Pending}
use Rattle.il_machine.specs.World.{Component}
use Rattle.il_machine.specs.Room.{port_reserve}

abbrev pub target_weight : State → ℕ
target_weight Idle = 2
target_weight _ = 1

-- a pending Idle counts twice, since Loaded may be pending after it
abbrev pub pending_weight : Option Pending → ℕ
pending_weight None = 0
pending_weight (Some p) = target_weight p.target

abbrev pub left_in : Component → ℕ
left_in c = pending_weight c.pending + sum_by port_reserve c.ports

-- how much is pending at these components
abbrev pub pending_in : List Component → ℕ
pending_in cs = sum_by left_in cs
