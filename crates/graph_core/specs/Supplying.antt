-- Headers of tunnels, as one end makes and unmakes them.
use Rattle.std.specs.Prelude.{◌≡◌, ◌≤◌, ◌<◌, ℕ, Bool, true, false, List, [], ◌∷◌, Some, None}
use Rattle.il_machine.specs.declared.port.PortKey.{PortKey}
use Rattle.il_machine.specs.declared.port.Port.{Port}
use Rattle.il_machine.specs.declared.header.Home.TheVariants as homes
use Rattle.il_machine.specs.declared.header.HeaderState.{HeaderState}
use Rattle.il_machine.specs.declared.header.Spot.{Spot}
use Rattle.il_machine.specs.declared.header.Spot.TheVariants.{TodoBack, DoneBack}
use Rattle.il_machine.specs.World.{Component}
use Rattle.il_machine.specs.Headers.{empty_load}
use Rattle.il_machine.specs.Look.{Look}
use Rattle.il_machine.specs.Ports.{is_input_port}
use Rattle.il_machine.specs.Flow.{supply_idle, supplied_spot}
use Rattle.il_machine.specs.Stock.{Stocked, made_header, header_made, todo_pulled, pushed, done_pulled}
use Rattle.port_stock.specs.Conditions.{HasBlockFor, IsPort, made_in}

-- A header may be made for the tunnel of the port.
pub record IsSuppliable (l : Look) (c : Component) (p : Port) : Type 0 where
  pub may : supply_idle l c p ≡ None

-- The stock takes a header of a block for the port and its peer.
pub record HasRoom (p : Port) (peer : PortKey) (s : Stocked) : Type 0 where
  pub port_there : IsPort p.key s
  pub peer_there : IsPort peer s
  pub some : 1 ≤ p.setting.definition.size
  pub limit : p.setting.definition.size ≤ 4096
  pub block : HasBlockFor None s
  pub few : made_in s p.key < 32
  pub few_of_peer : made_in s peer < 32

-- a header that the port makes for both ends, in no list yet
abbrev pub supplied_header : Port → PortKey → ℕ → HeaderState
supplied_header p peer number = made_header number p.key (Some peer) (homes.Port p.key) p.setting.definition.size false

abbrev pub with_supply : Port → PortKey → Stocked → Stocked
with_supply p peer s = pushed p.key (supplied_spot (is_input_port p)) s.next (empty_load None) (header_made (supplied_header p peer s.next) s)

abbrev pub left_from : PortKey → List ℕ → Stocked → Stocked
left_from key [] s = done_pulled key s
left_from key (number ∷ rest) s = todo_pulled key s

-- the front of todo leaves it, or, where todo is empty, that of done
abbrev pub front_left : PortKey → Stocked → Stocked
front_left key s = left_from key (s.headers.todo key) s
