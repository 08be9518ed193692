-- The terms of ports: populated, settled, accepting, returning, leaving.
use Rattle.std.specs.Prelude.{◌≡◌, None, All, Bool, true, false, not, ◌&&◌, ◌||◌, nat_eq, is_some, is_none, if◌then◌else◌}
use Rattle.omx_types.specs.declared.state.State.{State}
use Rattle.omx_types.specs.declared.state.State.TheVariants as states
use Rattle.omx_types.specs.declared.param.Supplier.{Supplier}
use Rattle.omx_types.specs.declared.param.Supplier.TheVariants as suppliers
use Rattle.omx_types.specs.declared.handle.PortId.{PortId}
use Rattle.il_machine.specs.declared.port.Mode.{Mode}
use Rattle.il_machine.specs.declared.port.Mode.TheVariants.{Steady, Disabling}
use Rattle.il_machine.specs.declared.port.Link.{Link}
use Rattle.il_machine.specs.declared.port.Port.{Port}
use Rattle.il_machine.specs.declared.port.PortState.{PortState}
use Rattle.il_machine.specs.States.{same_state, is_invalid, is_down, is_up, is_running}
use Rattle.il_machine.specs.Lists.{holds_at}
use Rattle.il_machine.specs.World.{Component}
use Rattle.il_machine.specs.Headers.{Seen, is_for, is_away, none_is}

abbrev pub is_input_port : Port → Bool
is_input_port p = p.setting.definition.input

abbrev pub is_steady : Mode → Bool
is_steady Steady = true
is_steady _ = false

abbrev pub is_disabling : Mode → Bool
is_disabling Disabling = true
is_disabling _ = false

-- a transition to the state is pending
abbrev pub is_going_to : State → Component → Bool
is_going_to target c = holds_at c.pending (λ p. same_state p.target target)

-- no transition is pending
abbrev pub is_at_rest : Component → Bool
is_at_rest c = is_none c.pending

-- as many headers are made for the port as its count
abbrev pub is_populated : Seen → Port → Bool
is_populated headers p = nat_eq (headers.count (is_for p.key)) p.setting.definition.count

-- no header is made for the port
abbrev pub has_no_header : Seen → Port → Bool
has_no_header headers p = none_is headers (is_for p.key)

-- every header made for the port is at home or in a notice
abbrev pub settled : Seen → Port → Bool
settled headers p = none_is headers (λ r. is_for p.key r && is_away r)

-- The port is enabled and not populated. Its component is down on its way to Idle, or is up with nothing pending.
abbrev pub accepting : Seen → Component → Port → Bool
accepting headers c p = p.state.enabled && not (is_populated headers p)
    && ((is_down c.state && is_going_to states.Idle c) || (is_up c.state && is_at_rest c))

-- The port flushes or is Disabling. Or its component is Invalid, or is Executing or Pause on its way to Idle.
abbrev pub returning : Component → Port → Bool
returning c p = p.state.flushing || is_disabling p.state.mode || is_invalid c.state || (is_running c.state && is_going_to states.Idle c)

-- The port is Disabling. Or its component is Invalid, or is on its way to Loaded.
abbrev pub leaving : Component → Port → Bool
leaving c p = is_disabling p.state.mode || is_invalid c.state || is_going_to states.Loaded c

-- enabled, steady and not flushing
abbrev pub is_open : Port → Bool
is_open p = p.state.enabled && is_steady p.state.mode && not p.state.flushing

abbrev pub is_joined : Port → Bool
is_joined p = is_some p.state.link

abbrev pub is_input_side : Supplier → Bool
is_input_side suppliers.Input = true
is_input_side _ = false

abbrev pub is_output_side : Supplier → Bool
is_output_side suppliers.Output = true
is_output_side _ = false

-- the end of a tunnel on this side supplies it
abbrev pub is_supplied_by : Bool → Link → Bool
is_supplied_by is_input link = if is_input then is_input_side link.supplier else is_output_side link.supplier

-- the port is joined, and makes the tunnel's headers
abbrev pub is_supplier : Port → Bool
is_supplier p = holds_at p.state.link (is_supplied_by (is_input_port p))

-- the port as a caller names it
abbrev pub id_of : Component → Port → PortId
id_of c p = record { handle = c.handle; index = p.key.port }

-- nothing is pending at the port
pub record IsCalmPort (p : PortState) : Type 0 where
  pub steady : is_steady p.mode ≡ true
  pub quiet : p.flushing ≡ false
  pub unmarked : p.waiting_mark ≡ None

-- nothing is pending at the component
pub record IsCalm (c : Component) : Type 0 where
  pub resting : c.pending ≡ None
  pub ports : All IsCalmPort c.ports
