-- Room for events, units and commands of a component whose handles moved.
use Rattle.std.proofs.Common.{◌≡◌, ℕ, ◌+◌, ◌-◌, Bool, not, ◌&&◌, ◌||◌, cond, nat_eq, nat_lt, nat_le, is_none, sum, List, [], ◌∷◌, filter, Option, Some, None, option_map, refl, ◌∙◌, ap}
use Rattle.std.specs.Prelude.{map}
use Rattle.std.specs.List.{fold}
use Rattle.omx_types.specs.declared.command.Command.{Command}
use Rattle.omx_types.specs.declared.command.Command.TheVariants as commands
use Rattle.omx_types.specs.declared.command.PortSel.{PortSel}
use Rattle.omx_types.specs.declared.command.PortSel.TheVariants as sels
use Rattle.omx_types.specs.declared.state.State.{State}
use Rattle.omx_types.specs.declared.state.State.TheVariants as states
use Rattle.omx_types.specs.declared.error.OmxError.{OmxError}
use Rattle.omx_types.specs.declared.error.OmxError.TheVariants as errors
use Rattle.omx_types.specs.declared.command.Event.TheVariants.{Error}
use Rattle.il_machine.specs.declared.answer.Pending.{Pending}
use Rattle.il_machine.specs.declared.answer.Why.TheVariants as why
use Rattle.il_machine.specs.declared.port.Port.{Port}
use Rattle.il_machine.specs.declared.port.PortState.{PortState}
use Rattle.il_machine.specs.Commands.{awaiting_mark, begun, busy_port, calmed, carried_out, disabling, enabling, flushing, has_no_wait, invalidated, is_at_once, is_changing, is_flushing, is_selected, is_waiting, lacks_command_room, lacks_port, lacks_selected, lacks_target, pending_reason, run_front, run_idle, run_reason, selected_from, send_refusal, sent, state_fault, with_selected}
use Rattle.il_machine.specs.Headers.{weight}
use Rattle.il_machine.specs.Lists.{first_of_these}
use Rattle.il_machine.specs.Look.{Look, look}
use Rattle.il_machine.specs.Ports.{is_steady}
use Rattle.il_machine.specs.Room.{cost_of, events_in, is_by_client, is_losing, port_reserve, room, sel_cost, work_reserve}
use Rattle.il_machine.specs.Lists.{holds_at}
use Rattle.il_machine.specs.Settings.{fits}
use Rattle.il_machine.specs.States.{is_invalid, is_lawful, is_loaded, same_state}
use Rattle.il_machine.specs.Units.{free_units, is_holder, need_of, units_held, units_of}
use Rattle.il_machine.specs.World.{Component, World, port_of, ports_of, told}
use Rattle.machine_laws.proofs.Finding.{either}
use Rattle.slot_laws.specs.Seating.{Seating, moved, moved_command, moved_component, moved_handle, moved_mark, moved_port, moved_state, moved_why}
use Rattle.slot_laws.proofs.Lists.{filter_moved, fold_moved, map_append, map_length, none_moved, some_moved}
use Rattle.slot_laws.proofs.Ports.{port_moved, ports_moved}
use Rattle.slot_laws.proofs.Naming.{place_moved}

module _ (f : Seating) where
  -- ---- room

  sel_cost_moved : (c : Component) (sel : PortSel) → sel_cost (moved_component f c) sel ≡ sel_cost c sel
  sel_cost_moved c (sels.One port) = refl
  sel_cost_moved c sels.All = map_length (moved_state f) c.ports

  cost_moved : (c : Component) (command : Command) → cost_of (moved_component f c) (moved_command f command) ≡ cost_of c command
  cost_moved c (commands.StateSet target) = refl
  cost_moved c (commands.Flush sel) = sel_cost_moved c sel
  cost_moved c (commands.PortDisable sel) = sel_cost_moved c sel
  cost_moved c (commands.PortEnable sel) = sel_cost_moved c sel
  cost_moved c (commands.MarkBuffer port target value) = refl

  reserve_moved : (p : PortState) → port_reserve (moved_state f p) ≡ port_reserve p
  reserve_moved p = ap (λ (b : Bool). weight p.flushing + weight (not (is_steady p.mode)) + weight b) (some_moved (moved_mark f) p.waiting_mark)

  pub room_moved : (c : Component) → room (moved_component f c) ≡ room c
  room_moved c =
      let a = fold_moved (moved_command f) (cost_of (moved_component f c)) (cost_of c) 0 c.commands (cost_moved c) in
      let b = fold_moved (moved_state f) port_reserve port_reserve 0 c.ports reserve_moved in
      λ j. 256 - (events_in c.notes + sum (a j ∷ weight (holds_at c.pending (λ p. is_by_client p.cause)) ∷ b j ∷ work_reserve c.work ∷ weight (is_losing c) ∷ []))

  -- ---- units

  units_moved : (cs : List Component) → units_held (map (moved_component f) cs) ≡ units_held cs
  units_moved cs =
      ap (fold (λ a x. a + need_of x) 0) (filter_moved (moved_component f) is_holder is_holder cs (λ c. refl))
      ∙ fold_moved (moved_component f) need_of need_of 0 (filter is_holder cs) (λ c. refl)

  pub free_moved : (w : World) → free_units (look (moved f w)) ≡ free_units (look w)
  free_moved w = ap (λ (n : ℕ). w.units - n) (units_moved w.components)

  -- ---- a command is sent

  calmed_moved : (ps : List PortState) → map calmed (map (moved_state f) ps) ≡ map (moved_state f) (map calmed ps)
  calmed_moved [] = refl
  calmed_moved (p ∷ ps) = ap (λ (l : List PortState). calmed p ∷ l) (calmed_moved ps)

  invalid_moved : (c : Component) → invalidated (moved_component f c) ≡ moved_component f (invalidated c)
  invalid_moved c = let a = calmed_moved c.ports in λ j. record (moved_component f (invalidated c)) { ports = a j }

  once_moved : (command : Command) → is_at_once (moved_command f command) ≡ is_at_once command
  once_moved (commands.StateSet target) = refl
  once_moved (commands.Flush sel) = refl
  once_moved (commands.PortDisable sel) = refl
  once_moved (commands.PortEnable sel) = refl
  once_moved (commands.MarkBuffer port target value) = refl

  command_room_moved : (c : Component) (command : Command) → lacks_command_room (moved_component f c) (moved_command f command) ≡ lacks_command_room c command
  command_room_moved c command =
      let a = once_moved command in
      let b = ap room (invalid_moved c) ∙ room_moved (invalidated c) in
      let n = map_length (moved_command f) c.commands in
      let d = room_moved c in
      let e = cost_moved c command in
      λ j. cond (a j) (nat_eq (b j) 0) (nat_le 32 (n j) || nat_lt (d j) (e j))

  selected_moved : (c : Component) (sel : PortSel) → lacks_selected (moved_component f c) sel ≡ lacks_selected c sel
  selected_moved c (sels.One port) = ap is_none (port_moved f c port) ∙ none_moved (moved_port f) (port_of c port)
  selected_moved c sels.All = refl

  lacks_port_moved : (c : Component) (command : Command) → lacks_port (moved_component f c) (moved_command f command) ≡ lacks_port c command
  lacks_port_moved c (commands.StateSet target) = refl
  lacks_port_moved c (commands.Flush sel) = selected_moved c sel
  lacks_port_moved c (commands.PortDisable sel) = selected_moved c sel
  lacks_port_moved c (commands.PortEnable sel) = selected_moved c sel
  lacks_port_moved c (commands.MarkBuffer port target value) = selected_moved c (sels.One port)

  target_moved : (w : World) (command : Command) → lacks_target (look (moved f w)) (moved_command f command) ≡ lacks_target (look w) command
  target_moved w (commands.StateSet target) = refl
  target_moved w (commands.Flush sel) = refl
  target_moved w (commands.PortDisable sel) = refl
  target_moved w (commands.PortEnable sel) = refl
  target_moved w (commands.MarkBuffer port target value) = ap is_none (place_moved f target w.components)

  pub send_refused : (w : World) (c : Component) (command : Command) → send_refusal (look (moved f w)) (moved_component f c) (moved_command f command) ≡ send_refusal (look w) c command
  send_refused w c command =
      let a = lacks_port_moved c command in
      let b = target_moved w command in
      let d = command_room_moved c command in
      λ j. first_of_these
      ((is_invalid c.state, errors.InvalidState)
      ∷ (a j, errors.BadPortIndex)
      ∷ (b j, errors.BadParameter)
      ∷ (d j, errors.InsufficientResources)
      ∷ [])

  pub sent_moved : (command : Command) (c : Component) → sent (moved_command f command) (moved_component f c) ≡ moved_component f (sent command c)
  sent_moved command c =
      let a = once_moved command in
      let b = invalid_moved c in
      let d = map_append (moved_command f) c.commands (command ∷ []) in
      (λ j. cond (a j) (told (Error errors.InvalidState) (b j)) (record (moved_component f c) { commands = d j }))
      ∙ either (is_at_once command) (λ t. rw t refl) (λ e. rw e refl)

  -- ---- a command is run

  busy_moved : (sel : PortSel) (test : PortState → Bool) (ps : List Port) → ((p : PortState) → test (moved_state f p) ≡ test p)
      → busy_port sel test (map (moved_port f) ps) ≡ option_map (moved_why f) (busy_port sel test ps)
  busy_moved sel test [] same = refl
  busy_moved sel test (p ∷ ps) same =
      let a = same p.state in
      let b = busy_moved sel test ps same in
      (λ j. cond (is_selected sel p.key.port && a j) (Some (why.PortBusy p.key.port)) (b j))
      ∙ either (is_selected sel p.key.port && test p.state) (λ t. rw t refl) (λ e. rw e refl)

  busy_there : (sel : PortSel) (test : PortState → Bool) (c : Component) → ((p : PortState) → test (moved_state f p) ≡ test p)
      → busy_port sel test (ports_of (moved_component f c)) ≡ option_map (moved_why f) (busy_port sel test (ports_of c))
  busy_there sel test c same = ap (busy_port sel test) (ports_moved f c) ∙ busy_moved sel test (ports_of c) same

  pending_moved : (o : Option Pending) → pending_reason o ≡ option_map (moved_why f) (pending_reason o)
  pending_moved None = refl
  pending_moved (Some p) = refl

  reason_moved : (c : Component) (command : Command) → run_reason (moved_component f c) (moved_command f command) ≡ option_map (moved_why f) (run_reason c command)
  reason_moved c (commands.StateSet target) = pending_moved c.pending
  reason_moved c (commands.Flush sel) = busy_there sel is_flushing c (λ p. refl)
  reason_moved c (commands.PortDisable sel) = busy_there sel is_changing c (λ p. refl)
  reason_moved c (commands.PortEnable sel) = busy_there sel is_changing c (λ p. refl)
  reason_moved c (commands.MarkBuffer port target value) = busy_there (sels.One port) is_waiting c (λ p. some_moved (moved_mark f) p.waiting_mark)

  pub idle_moved : (c : Component) (cs : List Command) → run_idle (moved_component f c) (map (moved_command f) cs) ≡ option_map (moved_why f) (run_idle c cs)
  idle_moved c [] = refl
  idle_moved c (command ∷ rest) = reason_moved c command

  -- the fault with so many units free
  abbrev fault_with : Look → Component → State → ℕ → Option OmxError
  fault_with l c target free = first_of_these
      ((same_state c.state target, errors.SameState)
      ∷ (not (is_lawful c.state target), errors.IncorrectStateTransition)
      ∷ (is_loaded c.state && not (fits c.settings), errors.UnsupportedSetting)
      ∷ (is_loaded c.state && same_state target states.Idle && nat_lt free (units_of c.settings.kind), errors.InsufficientResources)
      ∷ (same_state target states.WaitForResources && has_no_wait l, errors.InsufficientResources)
      ∷ [])

  fault_moved : (w : World) (c : Component) (target : State) → state_fault (look (moved f w)) (moved_component f c) target ≡ state_fault (look w) c target
  fault_moved w c target = ap (fault_with (look w) c target) (free_moved w)

  begun_moved : (o : Option OmxError) (target : State) (c : Component) → begun o target (moved_component f c) ≡ moved_component f (begun o target c)
  begun_moved (Some e) target c = refl
  begun_moved None target c = refl

  from_moved : (index : ℕ) (sel : PortSel) (g h : PortState → PortState) (ps : List PortState) → ((p : PortState) → g (moved_state f p) ≡ moved_state f (h p))
      → selected_from index sel g (map (moved_state f) ps) ≡ map (moved_state f) (selected_from index sel h ps)
  from_moved index sel g h [] same = refl
  from_moved index sel g h (p ∷ ps) same =
      let a = same p in
      let b = from_moved (index + 1) sel g h ps same in
      (λ j. cond (is_selected sel index) (a j) (moved_state f p) ∷ b j) ∙ either (is_selected sel index) (λ t. rw t refl) (λ e. rw e refl)

  chosen_moved : (sel : PortSel) (g h : PortState → PortState) (c : Component) → ((p : PortState) → g (moved_state f p) ≡ moved_state f (h p))
      → with_selected sel g (moved_component f c) ≡ moved_component f (with_selected sel h c)
  chosen_moved sel g h c same = let a = from_moved 0 sel g h c.ports same in λ j. record (moved_component f c) { ports = a j }

  carried_moved : (w : World) (command : Command) (c : Component) → carried_out (look (moved f w)) (moved_command f command) (moved_component f c) ≡ moved_component f (carried_out (look w) command c)
  carried_moved w (commands.StateSet target) c =
      ap (λ (o : Option OmxError). begun o target (moved_component f c)) (fault_moved w c target) ∙ begun_moved (state_fault (look w) c target) target c
  carried_moved w (commands.Flush sel) c = chosen_moved sel flushing flushing c (λ p. refl)
  carried_moved w (commands.PortDisable sel) c = chosen_moved sel disabling disabling c (λ p. refl)
  carried_moved w (commands.PortEnable sel) c = chosen_moved sel enabling enabling c (λ p. refl)
  carried_moved w (commands.MarkBuffer port target value) c =
      chosen_moved (sels.One port) (awaiting_mark (moved_handle f target) value) (awaiting_mark target value) c (λ p. refl)

  pub front_moved : (w : World) (cs : List Command) (c : Component) → run_front (look (moved f w)) (map (moved_command f) cs) (moved_component f c) ≡ moved_component f (run_front (look w) cs c)
  front_moved w [] c = refl
  front_moved w (command ∷ rest) c = carried_moved w command (record c { commands = rest })
