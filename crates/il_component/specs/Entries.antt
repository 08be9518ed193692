-- What a contract sees of one component: its record with its queues, and how the machine sees it.
use Rattle.std.specs.Prelude.{◌≡◌, ℕ, Bool, List, [], ◌∷◌, length, Option, is_none, All}
use Rattle.omx_types.specs.declared.handle.Handle.{Handle}
use Rattle.omx_types.specs.declared.state.State.{State}
use Rattle.part_api.specs.declared.attached.Attached.{Attached}
use Rattle.il_machine.specs.declared.answer.Pending.{Pending}
use Rattle.il_machine.specs.declared.port.PortState.{PortState}
use Rattle.il_machine.specs.Settings.{Settings, IsWhole}
use Rattle.il_machine.specs.Kinds.{ports_in}
use Rattle.il_machine.specs.World.{Component, PartState, Work}
use Rattle.il_machine.specs.Room.{cost_of}
use Rattle.il_machine.specs.Whole.{Noticed}
use Rattle.header_core.specs.BufferHeader.{BufferHeader, is_clients}
use Rattle.note_queues.specs.declared.taken.QueuedCommand.{QueuedCommand}
use Rattle.note_queues.specs.declared.taken.Taken.{Taken}
use Rattle.note_queues.specs.declared.taken.Taken.TheVariants.{Told, EmptyDone, FillDone}
use Rattle.note_queues.specs.Queues.{Queues, commands_of, notes_of}
use Rattle.il_component.specs.Places.{reserve_of}

pub record Entry (C : Type 0) : Type 0 where
  pub handle : Handle
  pub settings : Settings
  pub state : State
  pub pending : Option Pending
  pub loss_mark : Bool
  pub holds : Bool
  pub waiting : Option ℕ
  pub work : Option Work
  pub file : Option Attached
  pub part : PartState
  pub ports : List PortState
  pub queues : Queues C

abbrev pub noticed_of : BufferHeader → Noticed
noticed_of header = record { key = header.key; held = header.held; client_memory = is_clients header.store }

-- the headers in the notes
abbrev pub held_in : List Taken → List Noticed
held_in [] = []
held_in (Told event ∷ notes) = held_in notes
held_in (EmptyDone header ∷ notes) = noticed_of header ∷ held_in notes
held_in (FillDone header ∷ notes) = noticed_of header ∷ held_in notes

-- the command's places are those that the machine reserves for it
abbrev pub HasCost : Component → QueuedCommand → Type 0
HasCost c queued = queued.cost ≡ cost_of c queued.command

module _ {C : Type 0} where
  abbrev pub component_of : Entry C → Component
  component_of e = record {
    handle = e.handle;
    settings = e.settings;
    state = e.state;
    pending = e.pending;
    loss_mark = e.loss_mark;
    commands = commands_of e.queues;
    notes = notes_of e.queues;
    client_out = is_none e.queues.client;
    holds = e.holds;
    waiting = e.waiting;
    work = e.work;
    file = e.file;
    part = e.part;
    ports = e.ports;
  }

  -- each port has its setting and its state, and the queue keeps the component's own numbers
  pub record IsFit (e : Entry C) : Type 0 where
    pub whole : IsWhole e.settings
    pub ports : length e.ports ≡ ports_in e.settings.kind
    pub queue_ports : e.queues.ports ≡ ports_in e.settings.kind
    pub reserve : e.queues.reserve ≡ reserve_of e.pending e.loss_mark e.ports e.work
    pub costs : All (HasCost (component_of e)) e.queues.commands

  -- the component's client object and the headers in its notes stay
  pub record KeepsNotices (old new : Entry C) : Type 0 where
    pub client : new.queues.client ≡ old.queues.client
    pub headers : held_in new.queues.notes ≡ held_in old.queues.notes
