-- A world of the machine: flat lists of records. Every number and every queue is found by filtering them.
use Rattle.std.specs.Prelude.{ℕ, ◌+◌, Bool, true, false, ◌&&◌, nat_eq, List, [], ◌∷◌, ◌++◌, map, find, replicate, position, slice_get, slice_set, Option, None, Some, option_and_then, if◌then◌else◌}
use Rattle.omx_types.specs.declared.state.State.{State}
use Rattle.omx_types.specs.declared.state.State.TheVariants as states
use Rattle.omx_types.specs.declared.handle.Handle.{Handle}
use Rattle.omx_types.specs.declared.command.Command.{Command}
use Rattle.omx_types.specs.declared.command.Event.{Event}
use Rattle.omx_types.specs.declared.command.Note.{Note}
use Rattle.omx_types.specs.declared.command.Note.TheVariants.{Told}
use Rattle.omx_types.specs.declared.kind.Kind.{Kind}
use Rattle.part_api.specs.declared.attached.Attached.{Attached}
use Rattle.il_machine.specs.declared.answer.Pending.{Pending}
use Rattle.il_machine.specs.declared.port.Mark.{Mark}
use Rattle.il_machine.specs.declared.port.Mode.TheVariants.{Steady}
use Rattle.il_machine.specs.declared.port.PortSetting.{PortSetting}
use Rattle.il_machine.specs.declared.port.PortState.{PortState}
use Rattle.il_machine.specs.declared.port.Port.{Port}
use Rattle.il_machine.specs.declared.header.HeaderState.{HeaderState}
use Rattle.il_machine.specs.Settings.{Settings, default_settings}
use Rattle.il_machine.specs.Kinds.{inputs_of, ports_in}

-- a header in a work: its port's number, and its own
pub record Picked : Type 0 where
  pub port : ℕ
  pub number : ℕ

-- A work that is out: what one step of the component's part is given.
pub record Work : Type 0 where
  -- by rising port
  pub headers : List Picked
  -- as they were set at the claim
  pub gain : ℕ
  pub weights : List ℕ
  -- it does no step: its end tells that the output has another format than the file
  pub announces : Bool

pub record PartState : Type 0 where
  -- one for each input
  pub ended_inputs : List Bool
  pub ended : Bool
  pub failed : Bool

pub record Component : Type 0 where
  -- its generation is the component's number
  pub handle : Handle
  pub settings : Settings
  pub state : State
  pub pending : Option Pending
  pub loss_mark : Bool
  pub commands : List Command
  pub notes : List Note
  pub client_out : Bool
  -- it has its units
  pub holds : Bool
  -- its waiting number
  pub waiting : Option ℕ
  pub work : Option Work
  -- the frames for which its file came, and the format of one that is read
  pub file : Option Attached
  pub part : PartState
  -- one for each port, in the order of their numbers
  pub ports : List PortState

-- what a header carries
pub record Load : Type 0 where
  pub content : List ℕ
  pub flags : ℕ
  pub mark : Option Mark
  -- every byte of the client's own memory, where the header has that
  pub memory : Option (List ℕ)

-- What is known of a header, and what it carries.
pub record HeaderRecord : Type 0 where
  pub state : HeaderState
  pub load : Load

-- a note that was given to a component's client
pub record Given : Type 0 where
  pub component : ℕ
  pub note : Note

-- what has gone through a component's part and its file since the file came, or, as long as none came, since the component was made
pub record Stream : Type 0 where
  pub component : ℕ
  -- the frames of all its steps
  pub frames : ℕ
  -- What the file told when it came: of one that is read the bytes of its frames, of one that is written those that it had taken, where it
  -- tells them. As long as no file came it is no bytes.
  pub known : Option (List ℕ)
  -- the bytes that a file took since
  pub written : List ℕ

pub record World : Type 0 where
  -- what all its headers have; nothing is known of it, and it stays
  pub key : ℕ
  -- in the order of their numbers
  pub components : List Component
  -- the order of this list is the order of each queue of headers
  pub headers : List HeaderRecord
  -- the oldest first
  pub given : List Given
  -- one for each component, in the same order
  pub streams : List Stream
  pub units : ℕ
  -- how many components, how many headers and how many waits were numbered so far
  pub numbered : ℕ
  pub made : ℕ
  pub waits : ℕ

abbrev pub no_world : ℕ → ℕ → World
no_world key units = record {
  key = key;
  components = [];
  headers = [];
  given = [];
  streams = [];
  units = units;
  numbered = 0;
  made = 0;
  waits = 0;
}

-- ---- components

abbrev pub number_of : Component → ℕ
number_of c = c.handle.generation

abbrev pub same_handle : Handle → Handle → Bool
same_handle a b = nat_eq a.slot b.slot && nat_eq a.generation b.generation

abbrev pub is_at : Handle → Component → Bool
is_at h c = same_handle c.handle h

-- the place of the component that the handle names
abbrev pub place_of : Handle → List Component → Option ℕ
place_of h components = position (is_at h) components

abbrev pub is_numbered : ℕ → Component → Bool
is_numbered number c = nat_eq (number_of c) number

-- the place of the component of the number
abbrev pub place_numbered : ℕ → List Component → Option ℕ
place_numbered number components = position (is_numbered number) components

abbrev pub component_numbered : ℕ → World → Option Component
component_numbered number w = option_and_then (slice_get w.components) (place_numbered number w.components)

abbrev pub with_component : ℕ → Component → World → World
with_component i c w = record w { components = slice_set w.components i c }

-- the change by what is there; where nothing is there the world stays
abbrev pub changed_at : {T : Type 0} → Option T → World → (T → World) → World
changed_at None w change = w
changed_at (Some x) w change = change x

-- ---- ports

-- the ports of the component of the number, from the index on
abbrev pub ports_from : ℕ → ℕ → List PortSetting → List PortState → List Port
ports_from number index [] states = []
ports_from number index (setting ∷ settings) [] = []
ports_from number index (setting ∷ settings) (state ∷ states) =
    record { key = record { component = number; port = index }; setting = setting; state = state } ∷ ports_from number (index + 1) settings states

abbrev pub ports_of : Component → List Port
ports_of c = ports_from (number_of c) 0 c.settings.ports c.ports

abbrev pub port_of : Component → ℕ → Option Port
port_of c index = slice_get (ports_of c) index

abbrev pub with_port : ℕ → PortState → Component → Component
with_port index state c = record c { ports = slice_set c.ports index state }

-- ---- events

abbrev pub noted : Note → Component → Component
noted note c = record c { notes = c.notes ++ note ∷ [] }

-- the event is queued last
abbrev pub told : Event → Component → Component
told event c = noted (Told event) c

-- ---- streams

abbrev pub fresh_stream : ℕ → Stream
fresh_stream number = record { component = number; frames = 0; known = Some []; written = [] }

abbrev pub is_stream_of : ℕ → Stream → Bool
is_stream_of number s = nat_eq s.component number

-- the stream of the component of the number
abbrev pub stream_of : ℕ → World → Option Stream
stream_of number w = find (is_stream_of number) w.streams

-- the stream of the component of the number is changed
abbrev pub with_stream : ℕ → (Stream → Stream) → World → World
with_stream number change w = record w { streams = map (λ s. if is_stream_of number s then change s else s) w.streams }

-- ---- a component that was just made

abbrev pub fresh_port : PortState
fresh_port = record { enabled = true; mode = Steady; flushing = false; held = false; waiting_mark = None; link = None }

abbrev pub fresh : Handle → Kind → Component
fresh h kind = record {
  handle = h;
  settings = default_settings kind;
  state = states.Loaded;
  pending = None;
  loss_mark = false;
  commands = [];
  notes = [];
  client_out = false;
  holds = false;
  waiting = None;
  work = None;
  file = None;
  part = record { ended_inputs = replicate (inputs_of kind) false; ended = false; failed = false };
  ports = replicate (ports_in kind) fresh_port;
}
