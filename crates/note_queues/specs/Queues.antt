-- What is queued for one component: the commands that wait to be run, the notes that wait to be taken, and the client object.
use Rattle.std.specs.Prelude.{◌≡◌, ℕ, ◌+◌, ◌-◌, ◌*◌, ◌≤◌, Bool, ◌||◌, nat_le, nat_lt, List, [], ◌∷◌, ◌++◌, length, map, drop, sum_by, Option, Some, None, slice_get, if◌then◌else◌}
use Rattle.omx_types.specs.declared.command.Command.{Command}
use Rattle.omx_types.specs.declared.command.Note.{Note}
use Rattle.omx_types.specs.declared.command.Note.TheVariants as notes
use Rattle.il_machine.specs.Room.{events_in}
use Rattle.il_machine.specs.Census.{note_numbers}
use Rattle.il_machine.specs.Notes.{TakenEvent, TakenEmpty, TakenFilled, TookNote, TookNone, TookBusy}
use Rattle.il_machine.specs.Notes as machine
use Rattle.header_core.specs.BufferHeader.{BufferHeader}
use Rattle.note_queues.specs.declared.taken.QueuedCommand.{QueuedCommand}
use Rattle.note_queues.specs.declared.taken.Taken.{Taken}
use Rattle.note_queues.specs.declared.taken.Taken.TheVariants.{Told, EmptyDone, FillDone}
use Rattle.note_queues.specs.declared.taken.Took.{Took}
use Rattle.note_queues.specs.declared.taken.Took.TheVariants as tooks
use Rattle.note_queues.specs.declared.taken.Full.{Full}

pub record Queues (C : Type 0) : Type 0 where
  -- the oldest first
  pub commands : List QueuedCommand
  -- the oldest first
  pub notes : List Taken
  -- nothing where the client object is out
  pub client : Option C
  -- what is reserved beside the costs of the commands
  pub reserve : ℕ
  -- the component's ports
  pub ports : ℕ

-- so many places of two rings are enough for all commands and notes
pub record HasPlaces (command_places note_places ports : ℕ) : Type 0 where
  pub commands : 32 ≤ command_places
  pub notes : 256 + 32 * ports ≤ note_places

-- ---- commands and notes

abbrev pub command_of : QueuedCommand → Command
command_of queued = queued.command

abbrev pub cost_of : QueuedCommand → ℕ
cost_of queued = queued.cost

-- the note as the machine queues it, with its header's number
abbrev pub note_of : Taken → Note
note_of (Told event) = notes.Told event
note_of (EmptyDone header) = notes.EmptyDone header.held.number
note_of (FillDone header) = notes.FillDone header.held.number

-- the note, and what was taken, as the machine's client gets it, with what the header carries
abbrev pub taken_of : Taken → machine.Taken
taken_of (Told event) = TakenEvent event
taken_of (EmptyDone header) = TakenEmpty header.held
taken_of (FillDone header) = TakenFilled header.held

abbrev pub took_of : {C : Type 0} → Took C → machine.Took
took_of (tooks.Call call) = TookNote (taken_of call.taken)
took_of tooks.None = TookNone
took_of tooks.Busy = TookBusy

-- the note of a header of an input, which is emptied, or of an output, which is filled
abbrev pub header_note : Bool → BufferHeader → Taken
header_note input header = if input then EmptyDone header else FillDone header

module _ {C : Type 0} where
  abbrev pub commands_of : Queues C → List Command
  commands_of q = map command_of q.commands

  abbrev pub notes_of : Queues C → List Note
  notes_of q = map note_of q.notes

  -- how many of the notes are of headers
  abbrev pub header_notes : Queues C → ℕ
  header_notes q = length (note_numbers (notes_of q))

  -- ---- room

  -- what the queued commands reserve
  abbrev pub costs : Queues C → ℕ
  costs q = sum_by cost_of q.commands

  -- the places that are taken by events, or reserved
  abbrev pub used : Queues C → ℕ
  used q = events_in (notes_of q) + costs q + q.reserve

  abbrev pub room : Queues C → ℕ
  room q = 256 - used q

  -- 32 commands are queued, or the room is below the cost
  abbrev pub is_full : ℕ → Queues C → Bool
  is_full cost q = nat_le 32 (length q.commands) || nat_lt (room q) cost

  abbrev pub fullness : Queues C → Full
  fullness q = record { queued = length q.commands; room = room q }

  -- what is true of each queue
  pub record IsWithin (q : Queues C) : Type 0 where
    pub ports : q.ports ≤ 16
    pub commands : length q.commands ≤ 32
    pub headers : header_notes q ≤ 32 * q.ports
    pub room : used q ≤ 256

  -- the numbers that are kept beside the queue are its own, and all is within its limits
  pub record IsCounted (q : Queues C) (cost_sum event_count : ℕ) : Type 0 where
    pub within : IsWithin q
    pub costs : cost_sum ≡ costs q
    pub events : event_count ≡ events_in (notes_of q)

  -- ---- what the calls make of it

  abbrev pub no_notes : ℕ → C → Queues C
  no_notes ports client = record { commands = []; notes = []; client = Some client; reserve = 0; ports = ports }

  abbrev pub commanded : Command → ℕ → Queues C → Queues C
  commanded command cost q = record q { commands = q.commands ++ record { command = command; cost = cost } ∷ [] }

  abbrev pub front_command : Queues C → Option Command
  front_command q = slice_get (commands_of q) 0

  abbrev pub without_front : Queues C → Queues C
  without_front q = record q { commands = drop 1 q.commands }

  abbrev pub without_commands : Queues C → Queues C
  without_commands q = record q { commands = [] }

  abbrev pub holding : ℕ → Queues C → Queues C
  holding places q = record q { reserve = places }

  abbrev pub noted : Taken → Queues C → Queues C
  noted taken q = record q { notes = q.notes ++ taken ∷ [] }

  abbrev pub with_client : C → Queues C → Queues C
  with_client client q = record q { client = Some client }

  -- ---- take_call

  abbrev pub took_from : Option C → List Taken → Took C
  took_from None notes = tooks.Busy
  took_from (Some client) [] = tooks.None
  took_from (Some client) (taken ∷ notes) = tooks.Call (record { client = client; taken = taken })

  -- the oldest note with the client object; nothing where no note is queued; busy where the client object is out
  abbrev pub took : Queues C → Took C
  took q = took_from q.client q.notes

  abbrev pub left_by : Took C → Queues C → Queues C
  left_by (tooks.Call call) q = record q { notes = drop 1 q.notes; client = None }
  left_by tooks.None q = q
  left_by tooks.Busy q = q

  -- without the oldest note and the client object, where they were taken
  abbrev pub after_taking : Queues C → Queues C
  after_taking q = left_by (took q) q
