-- What is kept of ports and headers, as plain data, and all that contracts read of it.
use Rattle.std.specs.Prelude.{ℕ, Bool, true, false, List, [], ◌∷◌, map, is_none, Option, Some, None, option_map, if◌then◌else◌}
use Rattle.il_machine.specs.declared.port.PortKey.{PortKey}
use Rattle.il_machine.specs.declared.header.Queue.{Queue}
use Rattle.il_machine.specs.declared.header.Queue.TheVariants.{Out, Todo, Done}
use Rattle.il_machine.specs.World.{HeaderRecord, Load}
use Rattle.il_machine.specs.Headers.{count_headers, find_header, same_key, seen, state_of}
use Rattle.il_machine.specs.Stock.{Stocked}

-- a port, and the numbers of the headers in its two lists
pub record Shelf : Type 0 where
  pub key : PortKey
  pub todo : List ℕ
  pub done : List ℕ

pub record StockKept : Type 0 where
  pub key : ℕ
  pub ports : List Shelf
  -- their order tells nothing; a header that is in no list has no load here
  pub headers : List HeaderRecord
  pub next : ℕ

-- ---- what is read of the ports

abbrev pub keys_of : List Shelf → List PortKey
keys_of shelves = map (λ s. s.key) shelves

abbrev pub todo_at : PortKey → List Shelf → List ℕ
todo_at key [] = []
todo_at key (s ∷ shelves) = if same_key s.key key then s.todo else todo_at key shelves

abbrev pub done_at : PortKey → List Shelf → List ℕ
done_at key [] = []
done_at key (s ∷ shelves) = if same_key s.key key then s.done else done_at key shelves

-- ---- what is read of the headers

abbrev pub is_waiting : Queue → Bool
is_waiting Out = false
is_waiting Todo = true
is_waiting Done = true

abbrev pub kept_load : Option HeaderRecord → Option Load
kept_load None = None
kept_load (Some r) = if is_waiting r.state.queue then Some r.load else None

-- the header is there, and has no mark
abbrev pub has_no_mark : Option HeaderRecord → Bool
has_no_mark None = false
has_no_mark (Some r) = is_none r.load.mark

-- those of the numbers whose headers have no mark
abbrev pub unmarked_of : List HeaderRecord → List ℕ → List ℕ
unmarked_of headers [] = []
unmarked_of headers (n ∷ numbers) = if has_no_mark (find_header n headers) then n ∷ unmarked_of headers numbers else unmarked_of headers numbers

unfoldable pub stocked : StockKept → Stocked
stocked k = record {
  key = k.key;
  ports = keys_of k.ports;
  headers = record {
    todo = λ key. todo_at key k.ports;
    done = λ key. done_at key k.ports;
    unmarked = λ key. unmarked_of k.headers (todo_at key k.ports);
    header = λ number. option_map state_of (find_header number k.headers);
    count = λ test. count_headers test k.headers;
  };
  loads = λ number. kept_load (find_header number k.headers);
  next = k.next;
}

-- ---- the same of one flat list

-- ports and headers as one flat list, whose order is that of each list of a port
pub record Flat : Type 0 where
  pub key : ℕ
  pub ports : List PortKey
  pub headers : List HeaderRecord
  pub next : ℕ

unfoldable pub of_flat : Flat → Stocked
of_flat k = record {
  key = k.key;
  ports = k.ports;
  headers = seen k.headers;
  loads = λ number. kept_load (find_header number k.headers);
  next = k.next;
}
