-- Headers go out with a work of a component: the front of the todo of each port that gives one.
use Rattle.std.specs.Prelude.{◌≡◌, ℕ, ◌+◌, Bool, true, false, not, ◌&&◌, List, [], ◌∷◌, Option, None, map, option_map, slice_get, MatchOption}
use Rattle.il_machine.specs.declared.port.Port.{Port}
use Rattle.il_machine.specs.declared.port.PortKey.{PortKey}
use Rattle.il_machine.specs.declared.header.Owner.TheVariants as owners
use Rattle.il_machine.specs.Headers.{in_todo}
use Rattle.il_machine.specs.Look.{Look}
use Rattle.il_machine.specs.Buffers.{AtState}
use Rattle.il_machine.specs.Stock.{Stocked, header_given, todo_pulled}
use Rattle.il_machine.specs.World.{Component, number_of, ports_of}
use Rattle.il_machine.specs.Claims.{gives_header, must_announce}
use Rattle.header_core.specs.BufferHeader.{BufferHeader}
use Rattle.port_stock.specs.Conditions.{IsFrom, IsHeaderOf, IsOutside, IsPort, number_of as header_number}
pub use Rattle.work_landing.specs.Places.{AreFree, carried_at, carried_from}

abbrev pub key_at : ℕ → ℕ → PortKey
key_at component port = record { component = component; port = port }

abbrev pub front_given : PortKey → List ℕ → Stocked → Stocked
front_given key [] s = s
front_given key (number ∷ rest) s = header_given number (owners.Work key.component) (todo_pulled key s)

-- the front of the port's todo goes out with the work of its component
abbrev pub goes_out : PortKey → Stocked → Stocked
goes_out key s = front_given key (s.headers.todo key) s

abbrev pub out_where : Bool → PortKey → Stocked → Stocked
out_where true key s = goes_out key s
out_where false key s = s

-- one of each port that gives one, by rising port from this one on
abbrev pub all_out : ℕ → ℕ → List Bool → Stocked → Stocked
all_out component port [] s = s
all_out component port (gives ∷ flags) s = all_out component (port + 1) flags (out_where gives (key_at component port) s)

-- the header was in the port's todo, with all that it carries, and is out of it
abbrev pub IsFromTodo : PortKey → Stocked → BufferHeader → Type 0
IsFromTodo key s h = IsFrom (in_todo key) h s × IsOutside h (todo_pulled key s)

-- the front of the port's todo, where there is one
abbrev pub IsFront : PortKey → Option BufferHeader → Stocked → Type 0
IsFront key place s = (option_map header_number place ≡ slice_get (s.headers.todo key) 0) × MatchOption place (Unit {0}) (IsFromTodo key s)

abbrev pub IsFrontWhere : Bool → PortKey → Option BufferHeader → Stocked → Type 0
IsFrontWhere true key place s = IsFront key place s
IsFrontWhere false key place s = place ≡ None

-- the headers are those that go out, each at the number of its port
abbrev pub AreFronts : ℕ → ℕ → List Bool → List (Option BufferHeader) → Stocked → Type 0
AreFronts component port [] places s = AreFree places
AreFronts component port (gives ∷ flags) [] s = ⊥
AreFronts component port (gives ∷ flags) (place ∷ places) s =
    IsFrontWhere gives (key_at component port) place s × AreFronts component (port + 1) flags places (out_where gives (key_at component port) s)

-- the ports that give a header are the stock's
abbrev pub ArePorts : ℕ → ℕ → List Bool → Stocked → Type 0
ArePorts component port [] s = Unit {0}
ArePorts component port (gives ∷ flags) s = IsPort (key_at component port) s × ArePorts component (port + 1) flags s

-- the port gives a header to the work, which an announcement has none of
abbrev pub gives_to : Bool → Component → Port → Bool
gives_to announces c p = not announces && gives_header c p

-- the headers are the fronts of the ports from which the component's work has one
abbrev pub HasFronts : Component → List (Option BufferHeader) → Stocked → Type 0
HasFronts c places s = AreFronts (number_of c) 0 (map (gives_to (must_announce c) c) (ports_of c)) places s

-- ---- whose they are then

-- the header has the graph's key, and is in the work of the component of the number, with its own size and memory
abbrev pub IsLent : ℕ → BufferHeader → Look → Type 0
IsLent component h l = (h.key ≡ l.key) × AtState h.held.number l (λ s. (s.owner ≡ owners.Work component) × IsHeaderOf s h)

abbrev pub AreLent : ℕ → List (Option BufferHeader) → Look → Type 0
AreLent component [] l = Unit {0}
AreLent component (place ∷ places) l = MatchOption place (Unit {0}) (λ h. IsLent component h l) × AreLent component places l
