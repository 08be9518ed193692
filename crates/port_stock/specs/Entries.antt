-- The entries of a stock, as a flat list of headers, and what is true of them.
use Rattle.std.specs.Prelude.{◌≡◌, ℕ, ◌<◌, ◌≤◌, Bool, true, false, List, [], ◌∷◌, map, Option, Some, None, is_some, option_map, slice_get, MatchOption}
use Rattle.il_machine.specs.declared.port.PortKey.{PortKey}
use Rattle.il_machine.specs.declared.header.Spot.{Spot}
use Rattle.il_machine.specs.World.{HeaderRecord, Load}
use Rattle.il_machine.specs.Headers.{empty_load, Once, count_headers, is_for, loaded, numbers, find_header, changed, put_at}
use Rattle.il_machine.specs.Stock.{state_out}
use Rattle.il_machine.specs.Buffers.{load_in}
use Rattle.header_core.specs.BufferHeader.{BufferHeader, cleared as emptied_header}
use Rattle.stock_laws.specs.Changes.{out_of_list}
use Rattle.port_stock.specs.declared.entry.Entry.{Entry}
use Rattle.port_stock.specs.Kept.{is_waiting}
use Rattle.port_stock.specs.Conditions.{has_key, IsHeaderOf, IsMadeForOwner}

abbrev pub load_of_kept : Option BufferHeader → Load
load_of_kept None = empty_load None
load_of_kept (Some header) = load_in header.held

abbrev pub record_of : Entry → HeaderRecord
record_of e = record { state = e.state; load = load_of_kept e.kept }

abbrev pub headers_of : List Entry → List HeaderRecord
headers_of entries = map record_of entries

-- the header is no longer kept, with all that it carries
abbrev pub record_out : HeaderRecord → HeaderRecord
record_out r = loaded (empty_load None) (out_of_list r)

-- the header is put at the spot of the port, with what it carries
abbrev pub put_record : PortKey → Spot → Load → HeaderRecord → HeaderRecord
put_record key spot load r = put_at key spot (loaded load r)

-- the header of the number left its list, and was given out with all that was kept of it
pub record IsTakenAt (number : ℕ) (header : BufferHeader) (old new : List HeaderRecord) : Type 0 where
  pub numbered : header.held.number ≡ number
  pub was : MatchOption (find_header number old) ⊥ (λ r. (r.load ≡ load_in header.held) × IsHeaderOf r.state header)
  pub after : new ≡ changed number record_out old

-- the same of the front of the numbers of those that pass the test
pub record IsTaken (test : HeaderRecord → Bool) (header : BufferHeader) (old new : List HeaderRecord) : Type 0 where
  pub front : slice_get (numbers test old) 0 ≡ Some header.held.number
  pub was : MatchOption (find_header header.held.number old) ⊥ (λ r. (test r ≡ true) × (r.load ≡ load_in header.held) × IsHeaderOf r.state header)
  pub after : new ≡ changed header.held.number record_out old

abbrev pub entry_out : Entry → Entry
entry_out e = record { state = state_out e.state; kept = None }

abbrev pub entry_cleared : Bool → Entry → Entry
entry_cleared true e = record e { kept = option_map emptied_header e.kept }
entry_cleared false e = e

-- ---- what is true of the entries

abbrev pub Each : {A : Type 0} → (A → Type 0) → List A → Type 0
Each P [] = Unit {0}
Each P (x ∷ xs) = P x × Each P xs

-- An entry has its header exactly where that waits in a list.
pub record IsKept (e : Entry) : Type 0 where
  pub there : is_some e.kept ≡ is_waiting e.state.queue
  pub header : MatchOption e.kept (Unit {0}) (λ header. (header.held.number ≡ e.state.number) × IsHeaderOf e.state header)

-- the header of an entry has the key, where it is there
abbrev pub HasKey : ℕ → Entry → Type 0
HasKey key e = MatchOption e.kept (Unit {0}) (λ header. header.key ≡ key)

abbrev pub AreOf : ℕ → List Entry → Type 0
AreOf key entries = Each (HasKey key) entries

-- a key that all headers had they have still
abbrev pub KeepsKeys : List Entry → List Entry → Type 0
KeepsKeys old new = (key : ℕ) → AreOf key old → AreOf key new

-- Numbers differ and were given, no more than 32 headers are made for a port, and a port has only headers that were made for it.
pub record AreLawful (ports : List PortKey) (next : ℕ) (headers : List HeaderRecord) : Type 0 where
  pub once : Once headers
  pub numbered : Each (λ r. r.state.number < next) headers
  pub placed : Each (λ r. has_key r.state.port ports ≡ true) headers
  pub few : (key : PortKey) → count_headers (is_for key) headers ≤ 32
  pub owned : Each (λ r. IsMadeForOwner r.state) headers
