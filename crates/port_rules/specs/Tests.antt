-- The tests of ports and the due things, as the code names them.
use Rattle.std.specs.Prelude.{◌≡◌, ◌<◌, ℕ, Bool, not, ◌||◌, [], ◌∷◌, length, Option}
use Rattle.il_machine.specs.declared.port.Port.{Port}
use Rattle.il_machine.specs.Headers.{Seen}
use Rattle.il_machine.specs.Ports.{is_open, is_populated, settled, has_no_header}
use Rattle.il_machine.specs.Due.{Thing, is_flush_due, is_mode_due, is_mark_due}
use Rattle.il_machine.specs.Lists.{first_of_these}
use Rattle.il_machine.specs.Kinds.{ports_in}
use Rattle.il_machine.specs.Stock.{Stocked}
use Rattle.il_machine.specs.World.{Component, ports_of, number_of}
use Rattle.port_stock.specs.Conditions.{IsPort}
use Rattle.il_machine.specs.Due as things
use Rattle.port_rules.specs.declared.terms.PortTest.{PortTest}
use Rattle.port_rules.specs.declared.terms.PortTest.TheVariants.{Ready, Settled, Unmade, Open}
use Rattle.port_rules.specs.declared.due.Due.{Due}
use Rattle.port_rules.specs.declared.due.Due.TheVariants.{Transition, Flush, Mode, Mark}

-- the component's ports are the stock's
abbrev pub HasPortsOf : Component → Stocked → Type 0
HasPortsOf c s = (port : ℕ) → port < length c.ports → IsPort (record { component = number_of c; port = port }) s

-- The component has as many ports as its kind, and each is one of the stock's.
pub record HasAllPorts (c : Component) (s : Stocked) : Type 0 where
  pub many : length (ports_of c) ≡ ports_in c.settings.kind
  pub ports : HasPortsOf c s

abbrev pub port_test : PortTest → Seen → Port → Bool
port_test Ready headers p = not p.state.enabled || is_populated headers p
port_test Settled headers p = settled headers p
port_test Unmade headers p = has_no_header headers p
port_test Open headers p = is_open p

abbrev pub thing_of : Due → Thing
thing_of Transition = things.Transition
thing_of (Flush port) = things.Flush port
thing_of (Mode port) = things.PortMode port
thing_of (Mark port) = things.WaitingMark port

-- the first thing that is due at the port
abbrev pub port_due : Seen → Component → Port → Option Thing
port_due headers c p = first_of_these
    ((is_flush_due headers c p, things.Flush p.key.port)
    ∷ (is_mode_due headers c p p.state.mode, things.PortMode p.key.port)
    ∷ (is_mark_due headers p, things.WaitingMark p.key.port)
    ∷ [])
