-- The queues of a component of the machine.
use Rattle.std.specs.Prelude.{◌≡◌, ℕ, map, drop, sum, is_none}
use Rattle.omx_types.specs.declared.command.Command.{Command}
use Rattle.il_machine.specs.World.{Component}
use Rattle.il_machine.specs.Room.{cost_of, reserved}
use Rattle.note_queues.specs.declared.taken.QueuedCommand.{QueuedCommand}
use Rattle.note_queues.specs.Queues.{Queues, notes_of}

-- the command with the places that it reserves in the component's queue
abbrev pub with_cost : Component → Command → QueuedCommand
with_cost c command = record { command = command; cost = cost_of c command }

-- what the component reserves beside the costs of its commands
abbrev pub held_reserve : Component → ℕ
held_reserve c = sum (drop 1 (reserved c))

-- The queues are the component's, and what else it reserves is held.
pub record IsQueueOf {C : Type 0} (q : Queues C) (c : Component) : Type 0 where
  pub commands : q.commands ≡ map (with_cost c) c.commands
  pub notes : notes_of q ≡ c.notes
  pub client : is_none q.client ≡ c.client_out
  pub reserve : q.reserve ≡ held_reserve c
