-- What the names of a script's lines stand for, and which headers the client has, as the calls answered.
use Rattle.std.specs.Prelude.{ℕ, nat_eq, Bool, List, [], ◌∷◌, ◌++◌, Option, Some, None, find, option_map, option_and_then, unwrap_or, Result, Ok, Err, if◌then◌else◌}
use Rattle.std.specs.Str.{bytes_eq}
use Rattle.omx_types.specs.declared.handle.Handle.{Handle}
use Rattle.omx_types.specs.declared.handle.PortId.{PortId}
use Rattle.il_machine.specs.World.{World}
use Rattle.il_machine.specs.Buffers.{Held}
use Rattle.il_machine.specs.Notes.{Taken, TakenEvent, TakenEmpty, TakenFilled, Took, TookNote, TookNone, TookBusy}
use Rattle.act_text.specs.declared.name.PortName.{PortName}
use Rattle.trace_run.specs.declared.names.NamedComponent.{NamedComponent}

-- a header that was made, with the name of its line; as the client has it, where it does
pub record NamedHeader : Type 0 where
  pub name : List ℕ
  pub number : ℕ
  pub hand : Option Held

-- the components and the headers that were made so far
pub record Names : Type 0 where
  pub components : List NamedComponent
  pub headers : List NamedHeader

abbrev pub no_names : Names
no_names = record { components = []; headers = [] }

-- the world that the acts so far lead to, and what names stand for in it
pub record Moment : Type 0 where
  pub world : World
  pub names : Names

-- ---- components

-- it resolves in no graph
abbrev pub no_handle : Handle
no_handle = record { slot = 18446744073709551615; generation = 18446744073709551615 }

abbrev pub has_name : List ℕ → NamedComponent → Bool
has_name name entry = bytes_eq entry.name name

abbrev pub has_number : ℕ → NamedComponent → Bool
has_number number entry = nat_eq entry.handle.generation number

abbrev pub found_handle : List NamedComponent → List ℕ → Option Handle
found_handle components name = option_map (λ entry. entry.handle) (find (has_name name) components)

-- a name whose `get` failed stands for no component
abbrev pub handle_in : List NamedComponent → List ℕ → Handle
handle_in components name = unwrap_or (found_handle components name) no_handle

abbrev pub handle_of : Names → List ℕ → Handle
handle_of names name = handle_in names.components name

abbrev pub port_in : List NamedComponent → PortName → PortId
port_in components port = record { handle = handle_in components port.component; index = port.index }

abbrev pub port_id : Names → PortName → PortId
port_id names port = port_in names.components port

-- the name of the component of the number
abbrev pub component_name : List NamedComponent → ℕ → Option (List ℕ)
component_name components number = option_map (λ entry. entry.name) (find (has_number number) components)

abbrev pub port_with : ℕ → List ℕ → PortName
port_with index component = record { component = component; index = index }

abbrev pub port_name : List NamedComponent → PortId → Option PortName
port_name components port = option_map (port_with port.index) (component_name components port.handle.generation)

-- ---- headers

abbrev pub is_named : List ℕ → NamedHeader → Bool
is_named name entry = bytes_eq entry.name name

abbrev pub is_numbered : ℕ → NamedHeader → Bool
is_numbered number entry = nat_eq entry.number number

abbrev pub name_of : NamedHeader → List ℕ
name_of entry = entry.name

abbrev pub hand_of : NamedHeader → Option Held
hand_of entry = entry.hand

-- the header of the name, where the client has it
abbrev pub in_hand : Names → List ℕ → Option Held
in_hand names name = option_and_then hand_of (find (is_named name) names.headers)

-- the name of the header of the number
abbrev pub header_name : Names → ℕ → Option (List ℕ)
header_name names number = option_map name_of (find (is_numbered number) names.headers)

-- ---- what a line's answer makes of the names

abbrev pub with_component : {E : Type 0} → List ℕ → Result Handle E → Names → Names
with_component name (Ok handle) names = record names { components = names.components ++ record { name = name; handle = handle } ∷ [] }
with_component name (Err error) names = names

-- a header that was made is the client's
abbrev pub with_header : {E : Type 0} → List ℕ → Result Held E → Names → Names
with_header name (Ok header) names = record names { headers = names.headers ++ record { name = name; number = header.number; hand = Some header } ∷ [] }
with_header name (Err error) names = names

-- what the client now has of the first header that passes the test
abbrev pub now_held : (NamedHeader → Bool) → Option Held → List NamedHeader → List NamedHeader
now_held test hand [] = []
now_held test hand (entry ∷ entries) = if test entry then record entry { hand = hand } ∷ entries else entry ∷ now_held test hand entries

abbrev pub with_hand : (NamedHeader → Bool) → Option Held → Names → Names
with_hand test hand names = record names { headers = now_held test hand names.headers }

-- a header that was handed in is the client's again where it was refused
abbrev pub after_handing : {T E : Type 0} → List ℕ → Held → Result T E → Names → Names
after_handing name header (Ok x) names = with_hand (is_named name) None names
after_handing name header (Err error) names = with_hand (is_named name) (Some header) names

-- a header in a note is the client's from then on
abbrev pub with_taken : Taken → Names → Names
with_taken (TakenEvent event) names = names
with_taken (TakenEmpty header) names = with_hand (is_numbered header.number) (Some header) names
with_taken (TakenFilled header) names = with_hand (is_numbered header.number) (Some header) names

abbrev pub after_taking : {E : Type 0} → Result Took E → Names → Names
after_taking (Ok (TookNote taken)) names = with_taken taken names
after_taking (Ok TookNone) names = names
after_taking (Ok TookBusy) names = names
after_taking (Err error) names = names
