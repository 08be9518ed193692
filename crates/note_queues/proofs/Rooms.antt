-- The room of a component's queues is the component's.
use Rattle.std.proofs.Common.{◌≡◌, ℕ, List, [], ◌∷◌, map, refl, ap, arith, sum_by, drop}
use Rattle.std.proofs.lemmas.List.Sums.{sum_by-cons}
use Rattle.omx_types.specs.declared.command.Command.{Command}
use Rattle.il_machine.specs.World.{Component}
use Rattle.il_machine.specs.Room.{cost_of, room as component_room, reserved}
use Rattle.note_queues.specs.Queues.{Queues, command_of, commands_of, cost_of as queued_cost, room}
use Rattle.note_queues.specs.OfComponent.{with_cost, IsQueueOf}

pub costs-with_cost : (c : Component) (commands : List Command) → sum_by queued_cost (map (with_cost c) commands) ≡ sum_by (cost_of c) commands
costs-with_cost c [] = refl
costs-with_cost c (command ∷ commands) = omega (
  arith,
  sum_by-cons queued_cost (with_cost c command) (map (with_cost c) commands),
  sum_by-cons (cost_of c) command commands,
  costs-with_cost c commands,
)

pub commands-with_cost : (c : Component) (commands : List Command) → map command_of (map (with_cost c) commands) ≡ commands
commands-with_cost c [] = refl
commands-with_cost c (command ∷ commands) = ap (λ (rest : List Command). command ∷ rest) (commands-with_cost c commands)

module _ {C : Type 0} (q : Queues C) (c : Component) (of : IsQueueOf q c) where
  pub commands_of-queue : commands_of q ≡ c.commands
  commands_of-queue = rw of.commands (commands-with_cost c c.commands)

  pub room-queue : room q ≡ component_room c
  room-queue =
      rw (of.commands, of.notes, of.reserve, costs-with_cost c c.commands)
      (omega (arith, sum_by-cons (λ (x : ℕ). x) (sum_by (cost_of c) c.commands) (drop 1 (reserved c))))
