-- The places of a component whose queue changes.
use Rattle.std.proofs.Common.{◌≡◌, ◌≤◌, ℕ, ◌+◌, ◌-◌, true, false, List, [], ◌∷◌, map, sum_by, nat_le, nat_lt, ◌||◌, refl, sym, ap, arith}
use Rattle.std.proofs.lemmas.Bool.Decides.{nat_tests}
use Rattle.std.proofs.lemmas.List.Elements.{All-push}
use Rattle.std.proofs.lemmas.List.{length-map}
use Rattle.omx_types.specs.declared.command.Command.{Command}
use Rattle.il_machine.specs.declared.port.PortState.{PortState}
use Rattle.il_machine.specs.World.{Component}
use Rattle.il_machine.specs.Room.{used, room, events_in, cost_of, port_reserve, work_reserve}
use Rattle.il_machine.specs.Commands.{calmed, invalidated, is_at_once, lacks_command_room}
use Rattle.note_queues.specs.Queues.{Queues, notes_of, commands_of, costs, commanded, is_full, without_commands, command_of}
use Rattle.note_queues.specs.Queues as queues
use Rattle.il_component.specs.Entries.{Entry, component_of, HasCost, IsFit}
use Rattle.il_component.proofs.Fit.{room-fit, fit-requeued}

pub rest_places : (ps : List PortState) → sum_by port_reserve (map calmed ps) ≡ 0
rest_places [] = refl
rest_places (p ∷ ps) = omega (arith, rest_places ps)

-- StateSet(Invalid) lets all places but those of queued events and of a work go
pub used_invalidated : (c : Component) → used (invalidated c) ≡ events_in c.notes + work_reserve c.work
used_invalidated c = omega (arith, rest_places c.ports)

module _ {C : Type 0} where
  pub lacks_at_once : (e : Entry C) (command : Command) (events places : ℕ) → events ≡ events_in (notes_of e.queues) → places ≡ work_reserve e.work → places ≤ 11 → is_at_once command ≡ true → nat_le (256 - places) events ≡ lacks_command_room (component_of e) command
  lacks_at_once e command events places n w few t =
      let u : room (invalidated (component_of e)) ≡ 256 - (events + places) = omega (arith, used_invalidated (component_of e), n, w) in
      rw (t, u) (grind (arith, nat_tests))

  pub lacks_later : (e : Entry C) (command : Command) (cost : ℕ) → IsFit e → cost ≡ cost_of (component_of e) command → is_at_once command ≡ false → is_full cost e.queues ≡ lacks_command_room (component_of e) command
  lacks_later e command cost F k t = rw (t, k, room-fit e F) (ap (λ (n : ℕ). nat_le 32 n || nat_lt (queues.room e.queues) (cost_of (component_of e) command)) (sym (length-map e.queues.commands command_of)))

  pub fit_commanded : (e : Entry C) (command : Command) (cost : ℕ) → IsFit e → cost ≡ cost_of (component_of e) command → IsFit (record e { queues = commanded command cost e.queues })
  fit_commanded e command cost F k = fit-requeued e F (commanded command cost e.queues) refl refl (All-push (HasCost (component_of e)) e.queues.commands (record { command = command; cost = cost }) F.costs k)
