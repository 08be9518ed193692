-- The ports of a stock with their rings and counts, and the flat list of headers of which they tell.
use Rattle.std.specs.Prelude.{◌≡◌, ℕ, ◌+◌, ◌-◌, ◌*◌, ◌≤◌, Bool, true, not, ◌&&◌, List, [], ◌∷◌, ◌++◌, map, length, drop, Option, MatchOption, if◌then◌else◌}
use Rattle.circular_buffer.specs.Buffer.{buffer}
use Rattle.il_machine.specs.declared.port.PortKey.{PortKey}
use Rattle.il_machine.specs.declared.header.Spot.{Spot}
use Rattle.il_machine.specs.declared.header.Spot.TheVariants.{TodoBack, TodoFront, DoneBack}
use Rattle.il_machine.specs.declared.header.HeaderState.{HeaderState}
use Rattle.il_machine.specs.World.{HeaderRecord}
use Rattle.il_machine.specs.Headers.{Once, count_headers, find_header, in_todo, in_done, is_away, is_for, is_home_of, is_owned_by, is_state, numbers, same_key}
use Rattle.il_machine.specs.Places.{AtMostOne}
use Rattle.il_machine.specs.Buffers.{is_block}
use Rattle.il_machine.specs.Stock.{times_passed, keys_from}
use Rattle.port_stock.specs.declared.entry.Entry.{Entry}
use Rattle.port_stock.specs.declared.port.Port.{Port}
use Rattle.port_stock.specs.Kept.{Shelf}
use Rattle.port_stock.specs.Conditions.{IsMadeForOwner}
use Rattle.port_stock.specs.Entries.{AreLawful, AreOf, Each, IsKept, headers_of}

-- ---- one port

abbrev pub shelf_of : Port → Shelf
shelf_of p = record { key = p.key; todo = p.todo.items; done = p.done.items }

-- a port without headers, whose rings have 32 places each
abbrev pub no_port : PortKey → Port
no_port key = record { key = key; todo = buffer [] 32; done = buffer [] 32; made = 0; outstanding = 0; foreign = 0 }

abbrev pub with_number : Spot → ℕ → Port → Port
with_number TodoBack number p = record p { todo = buffer (p.todo.items ++ number ∷ []) p.todo.capacity }
with_number TodoFront number p = record p { todo = buffer (number ∷ p.todo.items) p.todo.capacity }
with_number DoneBack number p = record p { done = buffer (p.done.items ++ number ∷ []) p.done.capacity }

abbrev pub without_todo : Port → Port
without_todo p = record p { todo = buffer (drop 1 p.todo.items) p.todo.capacity }

abbrev pub without_done : Port → Port
without_done p = record p { done = buffer (drop 1 p.done.items) p.done.capacity }

-- ---- counts of a port

-- made for the port, with an owner that is neither its home nor a notice
abbrev pub is_away_from : PortKey → HeaderState → Bool
is_away_from key h = is_for key h && is_away h

-- with the port, which isn't its home
abbrev pub is_guest : PortKey → HeaderState → Bool
is_guest key h = is_owned_by key h.owner && not (is_home_of key h.home)

-- the counts where a header, if it was there, was so before, and is so after, if it still is there
abbrev pub recounted : PortKey → Option HeaderState → Option HeaderState → Port → Port
recounted key before after p = record p {
  made = p.made - times_passed (is_for key) before + times_passed (is_for key) after;
  outstanding = p.outstanding - times_passed (is_away_from key) before + times_passed (is_away_from key) after;
  foreign = p.foreign - times_passed (is_guest key) before + times_passed (is_guest key) after;
}

-- the header was made for the port, where there is one
abbrev pub IsForWhere : PortKey → Option HeaderState → Type 0
IsForWhere key state = MatchOption state (Unit {0}) (λ h. is_for key h ≡ true)

-- the header is counted, where there is one, and no count is above 32
pub record HasCounted (before : Option HeaderState) (p : Port) : Type 0 where
  pub made : times_passed (is_for p.key) before ≤ p.made
  pub outstanding : times_passed (is_away_from p.key) before ≤ p.outstanding
  pub foreign : times_passed (is_guest p.key) before ≤ p.foreign
  pub few_made : p.made ≤ 32
  pub few_outstanding : p.outstanding ≤ 32
  pub few_foreign : p.foreign ≤ 32

-- ---- all ports

abbrev pub shelves_of : List Port → List Shelf
shelves_of ports = map shelf_of ports

abbrev pub port_keys : List Port → List PortKey
port_keys ports = map (λ p. p.key) ports

abbrev pub new_ports : ℕ → ℕ → ℕ → List Port
new_ports component index count = map no_port (keys_from component index count)

abbrev pub is_at : PortKey → Port → Bool
is_at key p = same_key p.key key

-- the port of the key, and one without headers where there is none
abbrev pub port_at : PortKey → List Port → Port
port_at key [] = no_port key
port_at key (p ∷ ports) = if is_at key p then p else port_at key ports

-- no two have one key
abbrev pub Differ : List Port → Type 0
Differ ports = (key : PortKey) → AtMostOne (is_at key) ports

-- the port of the key is replaced
pub record Replaces (key : PortKey) (p : Port) (old new : List Port) : Type 0 where
  pub at : (k : PortKey) → port_at k new ≡ (if same_key key k then p else port_at k old)
  pub keys : port_keys new ≡ port_keys old
  pub differ : Differ new

-- every port's counts are those where a header was so before, and is so after
pub record Recounts (before after : Option HeaderState) (old new : List Port) : Type 0 where
  pub at : (k : PortKey) → port_at k new ≡ recounted k before after (port_at k old)
  pub keys : port_keys new ≡ port_keys old
  pub differ : Differ new

-- the header, if there is one, was made for the two ports, and is with no other one
abbrev pub IsKnownBy : PortKey → Option PortKey → Option HeaderState → Type 0
IsKnownBy port peer state = MatchOption state (Unit {0}) (λ h. (h.port ≡ port) × (h.peer ≡ peer) × IsMadeForOwner h)

-- ---- what they tell of a flat list of headers

-- The port's rings have 32 places each, and are the lists; its counts are those of the list.
pub record IsPortOf (flat : List HeaderRecord) (key : PortKey) (p : Port) : Type 0 where
  pub named : p.key ≡ key
  pub todo : p.todo.items ≡ numbers (is_state (in_todo key)) flat
  pub done : p.done.items ≡ numbers (is_state (in_done key)) flat
  pub todo_places : p.todo.capacity ≡ 32
  pub done_places : p.done.capacity ≡ 32
  pub made : p.made ≡ count_headers (is_for key) flat
  pub outstanding : p.outstanding ≡ count_headers (is_away_from key) flat
  pub foreign : p.foreign ≡ count_headers (is_guest key) flat

-- Each port tells of the flat list, and the table has the same headers.
pub record Tells (ports : List Port) (table flat : List HeaderRecord) : Type 0 where
  pub port : (key : PortKey) → IsPortOf flat key (port_at key ports)
  pub found : (number : ℕ) → find_header number table ≡ find_header number flat
  pub counted : (test : HeaderState → Bool) → count_headers test table ≡ count_headers test flat

-- There is one flat list of which all tell, and a place for each header that can be made.
pub record IsLawful (key : ℕ) (ports : List Port) (entries : List Entry) (blocks next places : ℕ) : Type 0 where
  pub flat : List HeaderRecord
  pub tells : Tells ports (headers_of entries) flat
  pub headers : AreLawful (port_keys ports) next flat
  pub differ : Differ ports
  pub once : Once (headers_of entries)
  pub blocked : blocks ≡ count_headers is_block flat
  pub kept : Each IsKept entries
  pub keys : AreOf key entries
  pub room : 32 * length ports ≤ places
