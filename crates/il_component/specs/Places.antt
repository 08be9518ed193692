-- The places for events that a component reserves beside the costs of its commands.
use Rattle.std.specs.Prelude.{ℕ, ◌+◌, Bool, true, false, not, ◌&&◌, ◌||◌, List, sum_by, Option, None, if◌then◌else◌}
use Rattle.omx_types.specs.declared.state.State.{State}
use Rattle.omx_types.specs.declared.state.State.TheVariants.{Idle}
use Rattle.il_machine.specs.declared.answer.Pending.{Pending}
use Rattle.il_machine.specs.declared.port.PortState.{PortState}
use Rattle.il_machine.specs.States.{same_state, is_down}
use Rattle.il_machine.specs.Lists.{holds_at}
use Rattle.il_machine.specs.World.{Component, Work}
use Rattle.il_machine.specs.Due.{completed, lost, restarted, with_part}
use Rattle.il_machine.specs.Headers.{weight}
use Rattle.il_machine.specs.Room.{is_by_client, port_reserve, work_reserve}

-- a transition to Idle is pending by loss, or with the loss mark
abbrev pub loses : Option Pending → Bool → Bool
loses pending loss_mark = holds_at pending (λ p. same_state p.target Idle) && (loss_mark || holds_at pending (λ p. not (is_by_client p.cause)))

abbrev pub reserve_of : Option Pending → Bool → List PortState → Option Work → ℕ
reserve_of pending loss_mark ports work = weight (holds_at pending (λ p. is_by_client p.cause)) + sum_by port_reserve ports + work_reserve work + weight (loses pending loss_mark)

-- the state is told where the test is true
abbrev pub completed_if : Bool → State → Component → Component
completed_if true target c = completed target c
completed_if false target c = c

-- Idle is reached: from below it is told; a component that worked begins anew, and what it lost is told too.
abbrev pub idle_reached : Bool → Component → Component
idle_reached by_client c =
    let idle = record c { state = Idle; pending = None } in
    if is_down c.state then completed Idle idle
    else (let again = with_part (restarted c) idle in
    if c.loss_mark || not by_client then lost (completed_if by_client Idle again) else completed_if by_client Idle again)
