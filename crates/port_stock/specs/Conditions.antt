-- What calls ask of the ports and headers that they are given, and what they say of those that they answer.
use Rattle.std.specs.Prelude.{◌≡◌, ◌≢◌, ℕ, ◌<◌, ◌≤◌, Bool, length, true, false, ◌||◌, List, [], ◌∷◌, Option, Some, None, MatchOption}
use Rattle.il_machine.specs.declared.port.PortKey.{PortKey}
use Rattle.il_machine.specs.declared.header.Home.{Home}
use Rattle.il_machine.specs.declared.header.Home.TheVariants as homes
use Rattle.il_machine.specs.declared.header.Owner.{Owner}
use Rattle.il_machine.specs.declared.header.Owner.TheVariants as owners
use Rattle.il_machine.specs.declared.header.Queue.TheVariants.{Out}
use Rattle.il_machine.specs.declared.header.HeaderState.{HeaderState}
use Rattle.il_machine.specs.Lists.{holds_at}
use Rattle.il_machine.specs.Headers.{is_for, is_key, is_owned_by, same_key}
use Rattle.il_machine.specs.Buffers.{is_block, load_in}
use Rattle.il_machine.specs.World.{HeaderRecord}
use Rattle.il_machine.specs.Stock.{StandsFor, Stocked}
use Rattle.header_core.specs.BufferHeader.{BufferHeader, is_clients}
use Rattle.port_stock.specs.Kept.{is_waiting}

-- ---- ports

abbrev pub has_key : PortKey → List PortKey → Bool
has_key key [] = false
has_key key (k ∷ keys) = same_key key k || has_key key keys

-- the port was added and not removed
abbrev pub IsPort : PortKey → Stocked → Type 0
IsPort key s = has_key key s.ports ≡ true

abbrev pub IsPeer : Option PortKey → Stocked → Type 0
IsPeer None s = Unit {0}
IsPeer (Some key) s = IsPort key s

-- no port of the component was added and not removed
abbrev pub IsWithoutPorts : ℕ → Stocked → Type 0
IsWithoutPorts component s = (key : PortKey) → IsPort key s → key.component ≢ component

-- no header is made for a port of the component
abbrev pub IsUnmade : ℕ → Stocked → Type 0
IsUnmade component s = (key : PortKey) → IsPort key s → key.component ≡ component → s.headers.count (is_for key) ≡ 0

-- fewer than 32 headers are made for the port, if there is one
abbrev pub HasFewer : (PortKey → ℕ) → Option PortKey → Type 0
HasFewer made None = Unit {0}
HasFewer made (Some key) = made key < 32

abbrev pub made_in : Stocked → PortKey → ℕ
made_in s key = s.headers.count (is_for key)

-- the home is the client, or one of the two ports
abbrev pub is_home_among : PortKey → Option PortKey → Home → Bool
is_home_among port peer homes.Client = true
is_home_among port peer (homes.Port key) = same_key key port || is_key key peer

abbrev pub is_port : Owner → Bool
is_port (owners.Port key) = true
is_port _ = false

-- ---- memory

-- the client's own memory has so many bytes
abbrev pub Fits : Option (List ℕ) → ℕ → Type 0
Fits None size = Unit {0}
Fits (Some bytes) size = size ≤ length bytes

-- a block is free, where the client gives no memory
abbrev pub HasBlockFor : Option (List ℕ) → Stocked → Type 0
HasBlockFor None s = s.headers.count is_block < 1024
HasBlockFor (Some bytes) s = Unit {0}

-- ---- headers

-- The header has the size and the memory that are known of its number.
pub record IsHeaderOf (h : HeaderState) (header : BufferHeader) : Type 0 where
  pub size : header.held.size ≡ h.size
  pub memory : is_clients header.store ≡ h.client_memory

-- the header is one of the stock's, and in no list
abbrev pub IsOutside : BufferHeader → Stocked → Type 0
IsOutside header s = (header.key ≡ s.key) × MatchOption (s.headers.header header.held.number) ⊥ (λ h. (h.queue ≡ Out) × IsHeaderOf h header)

abbrev pub number_of : BufferHeader → ℕ
number_of header = header.held.number

abbrev pub IsMadeFor : PortKey → BufferHeader → Stocked → Type 0
IsMadeFor key header s = holds_at (s.headers.header header.held.number) (is_for key) ≡ true

-- where a port has the header, it was made for that port
abbrev pub IsMadeForOwner : HeaderState → Type 0
IsMadeForOwner h = (key : PortKey) → is_owned_by key h.owner ≡ true → is_for key h ≡ true

-- each header that a port has was made for that port
abbrev pub AreMadeForOwners : Stocked → Type 0
AreMadeForOwners s = (number : ℕ) (h : HeaderState) → s.headers.header number ≡ Some h → IsMadeForOwner h

-- the header of the number is made, and in no list
abbrev pub IsOut : ℕ → Stocked → Type 0
IsOut number s = MatchOption (s.headers.header number) ⊥ (λ h. h.queue ≡ Out)

-- the header was one of the stock's, its state passed the test, and it carries what was kept
abbrev pub IsFrom : (HeaderState → Bool) → BufferHeader → Stocked → Type 0
IsFrom test header s =
    (holds_at (s.headers.header header.held.number) test ≡ true) × (s.loads header.held.number ≡ Some (load_in header.held))

-- there is one flat list of headers for which it stands: lists, owners and counts are read of that
abbrev pub IsOfOneList : Stocked → Type 0
IsOfOneList s = (headers : List HeaderRecord) × StandsFor s headers

-- each header that is made waits in a list
abbrev pub AllWait : Stocked → Type 0
AllWait s = (number : ℕ) → MatchOption (s.headers.header number) (Unit {0}) (λ h. is_waiting h.queue ≡ true)

-- it is with a port or in a note, and not with the client or in a work
abbrev pub is_inside : Owner → Bool
is_inside owners.Client = false
is_inside (owners.Port key) = true
is_inside (owners.Work component) = false
is_inside (owners.Notice component) = true

abbrev pub AllInside : Stocked → Type 0
AllInside s = (number : ℕ) → MatchOption (s.headers.header number) (Unit {0}) (λ h. is_inside h.owner ≡ true)
