-- What a contract sees of the ports and headers that are kept: the ports, what calls see of the headers, what those in the ports' lists
-- carry, the next number, and the key of all headers. How it changes, and which flat lists it stands for.
use Rattle.std.specs.Prelude.{◌≡◌, ℕ, zero, suc, ◌+◌, ◌-◌, Bool, true, false, not, nat_eq, List, [], ◌∷◌, ◌++◌, filter, is_none, Option, Some, None, option_map, if◌then◌else◌}
use Rattle.il_machine.specs.declared.port.PortKey.{PortKey}
use Rattle.il_machine.specs.declared.header.Home.{Home}
use Rattle.il_machine.specs.declared.header.Home.TheVariants as homes
use Rattle.il_machine.specs.declared.header.Owner.{Owner}
use Rattle.il_machine.specs.declared.header.Owner.TheVariants as owners
use Rattle.il_machine.specs.declared.header.Queue.TheVariants.{Out}
use Rattle.il_machine.specs.declared.header.Spot.{Spot}
use Rattle.il_machine.specs.declared.header.Spot.TheVariants.{TodoBack, TodoFront, DoneBack}
use Rattle.il_machine.specs.declared.header.HeaderState.{HeaderState}
use Rattle.il_machine.specs.World.{HeaderRecord, Load}
use Rattle.il_machine.specs.Headers.{Seen, seen, load_at, Once, same_key, weight, state_at, state_given}

pub record Stocked : Type 0 where
  -- what its headers have, and those of another stock aren't known to have
  pub key : ℕ
  -- those that were added and not removed
  pub ports : List PortKey
  pub headers : Seen
  -- what the header of a number carries, where it is in a port's list
  pub loads : ℕ → Option Load
  -- the number of the next header
  pub next : ℕ

-- The flat list is seen so, and carries what is kept. No two headers have one number.
pub record StandsFor (s : Stocked) (headers : List HeaderRecord) : Type 0 where
  pub looks : seen headers ≡ s.headers
  pub loads : (number : ℕ) (load : Load) → s.loads number ≡ Some load → load_at number headers ≡ Some load
  pub once : Once headers

abbrev pub no_stock : ℕ → Stocked
no_stock key = record { key = key; ports = []; headers = seen []; loads = λ number. None; next = 0 }

-- ---- one value of many

abbrev pub at_key : {A : Type 0} → PortKey → A → (PortKey → A) → PortKey → A
at_key key x f k = if same_key k key then x else f k

abbrev pub at_number : {A : Type 0} → ℕ → A → (ℕ → A) → ℕ → A
at_number number x f n = if nat_eq n number then x else f n

-- ---- the states of headers

abbrev pub times_passed : (HeaderState → Bool) → Option HeaderState → ℕ
times_passed test None = 0
times_passed test (Some s) = weight (test s)

-- the header of the number has the state, or is no more
abbrev pub with_state : ℕ → Option HeaderState → Seen → Seen
with_state number state s = record s {
  header = at_number number state s.header;
  count = λ test. (s.count test - times_passed test (s.header number)) + times_passed test state;
}

-- ---- the lists of ports

-- the number alone, or none
abbrev pub number_where : Bool → ℕ → List ℕ
number_where is_listed number = if is_listed then number ∷ [] else []

-- the number is put at the spot of the port, among those without a mark where it has none
abbrev pub listed : PortKey → Spot → ℕ → Bool → Seen → Seen
listed key TodoBack number is_unmarked s = record s {
  todo = at_key key (s.todo key ++ number ∷ []) s.todo;
  unmarked = at_key key (s.unmarked key ++ number_where is_unmarked number) s.unmarked;
}
listed key TodoFront number is_unmarked s = record s {
  todo = at_key key (number ∷ s.todo key) s.todo;
  unmarked = at_key key (number_where is_unmarked number ++ s.unmarked key) s.unmarked;
}
listed key DoneBack number is_unmarked s = record s { done = at_key key (s.done key ++ number ∷ []) s.done }

abbrev pub without_number : ℕ → List ℕ → List ℕ
without_number number numbers = filter (λ n. not (nat_eq n number)) numbers

-- ---- the changes

-- a header that is in no list is put at the spot, with what it carries
abbrev pub pushed : PortKey → Spot → ℕ → Load → Stocked → Stocked
pushed key spot number load s = record s {
  headers = listed key spot number (is_none load.mark) (with_state number (option_map (state_at key spot) (s.headers.header number)) s.headers);
  loads = at_number number (Some load) s.loads;
}

-- the record of a header that leaves its list keeps its owner
abbrev pub state_out : HeaderState → HeaderState
state_out s = record s { queue = Out }

abbrev pub is_out : ℕ → Stocked → Stocked
is_out number s = record s {
  headers = with_state number (option_map state_out (s.headers.header number)) s.headers;
  loads = at_number number None s.loads;
}

abbrev pub todo_without : PortKey → ℕ → List ℕ → Stocked → Stocked
todo_without key number rest s = record s {
  headers = record s.headers {
    todo = at_key key rest s.headers.todo;
    unmarked = at_key key (without_number number (s.headers.unmarked key)) s.headers.unmarked;
  };
}

abbrev pub done_without : PortKey → List ℕ → Stocked → Stocked
done_without key rest s = record s { headers = record s.headers { done = at_key key rest s.headers.done } }

abbrev pub todo_front_pulled : PortKey → List ℕ → Stocked → Stocked
todo_front_pulled key [] s = s
todo_front_pulled key (number ∷ rest) s = is_out number (todo_without key number rest s)

-- the front of todo leaves it
abbrev pub todo_pulled : PortKey → Stocked → Stocked
todo_pulled key s = todo_front_pulled key (s.headers.todo key) s

abbrev pub done_front_pulled : PortKey → List ℕ → Stocked → Stocked
done_front_pulled key [] s = s
done_front_pulled key (number ∷ rest) s = is_out number (done_without key rest s)

-- the front of done leaves it
abbrev pub done_pulled : PortKey → Stocked → Stocked
done_pulled key s = done_front_pulled key (s.headers.done key) s

-- a header that is in no list goes to the owner
abbrev pub header_given : ℕ → Owner → Stocked → Stocked
header_given number owner s = record s { headers = with_state number (option_map (state_given owner) (s.headers.header number)) s.headers }

abbrev pub home_owner : Home → Owner
home_owner homes.Client = owners.Client
home_owner (homes.Port key) = owners.Port key

-- a header that was just made, in no list
abbrev pub made_header : ℕ → PortKey → Option PortKey → Home → ℕ → Bool → HeaderState
made_header number port peer home size client_memory = record {
  number = number;
  port = port;
  peer = peer;
  home = home;
  owner = home_owner home;
  queue = Out;
  size = size;
  client_memory = client_memory;
}

-- a header gets the next number
abbrev pub header_made : HeaderState → Stocked → Stocked
header_made state s = record s { headers = with_state s.next (Some state) s.headers; next = s.next + 1 }

-- a header that is in no list is no more
abbrev pub header_unmade : ℕ → Stocked → Stocked
header_unmade number s = record s {
  headers = with_state number None s.headers;
  loads = at_number number None s.loads;
}

-- ---- ports

abbrev pub keys_from : ℕ → ℕ → ℕ → List PortKey
keys_from component index zero = []
keys_from component index (suc count) = record { component = component; port = index } ∷ keys_from component (index + 1) count

abbrev pub added : ℕ → ℕ → Stocked → Stocked
added component count s = record s { ports = s.ports ++ keys_from component 0 count }

abbrev pub removed : ℕ → Stocked → Stocked
removed component s = record s { ports = filter (λ key. not (nat_eq key.component component)) s.ports }
