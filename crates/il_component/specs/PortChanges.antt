-- The changes that commands and tunnels make of a port, and what keeps a command from it.
use Rattle.std.specs.Prelude.{ℕ, zero, suc, ◌+◌, Bool, false, ◌&&◌, nat_eq, List, [], ◌∷◌, Option, Some, None, if◌then◌else◌}
use Rattle.omx_types.specs.declared.command.PortSel.{PortSel}
use Rattle.omx_types.specs.declared.param.ParamKey.{ParamKey}
use Rattle.il_machine.specs.declared.answer.Why.{Why}
use Rattle.il_machine.specs.declared.answer.Why.TheVariants.{PortBusy}
use Rattle.omx_types.specs.declared.command.Event.TheVariants.{CmdComplete}
use Rattle.omx_types.specs.declared.command.Completion.TheVariants as completions
use Rattle.il_machine.specs.declared.port.Link.{Link}
use Rattle.il_machine.specs.declared.port.Mode.TheVariants.{Steady}
use Rattle.il_machine.specs.declared.port.Port.{Port}
use Rattle.il_machine.specs.declared.port.PortSetting.{PortSetting}
use Rattle.il_machine.specs.declared.port.PortState.{PortState}
use Rattle.il_machine.specs.Settings.{with_setting}
use Rattle.il_machine.specs.World.{Component, port_of, with_port, told}
use Rattle.il_machine.specs.Parameters.{unheld_at}
use Rattle.il_machine.specs.Due.{mode_completion, all_told}
use Rattle.il_machine.specs.Commands.{flushing, disabling, enabling, awaiting_mark, is_selected, is_flushing, is_changing, is_waiting}
use Rattle.il_component.specs.declared.port_changes.PortChange.{PortChange}
use Rattle.il_component.specs.declared.port_changes.PortChange.TheVariants.{Flush, Disable, Enable, Wait}
use Rattle.il_component.specs.declared.port_changes.Busy.{Busy}
use Rattle.il_component.specs.declared.port_changes.Busy.TheVariants.{Flushing, Changing, Waiting}

abbrev pub changed_by : PortChange → PortState → PortState
changed_by Flush p = flushing p
changed_by Disable p = disabling p
changed_by Enable p = enabling p
changed_by (Wait mark) p = awaiting_mark mark.target mark.value p

abbrev pub busy_test : Busy → PortState → Bool
busy_test Flushing p = is_flushing p
busy_test Changing p = is_changing p
busy_test Waiting p = is_waiting p

-- the least port from the index on that the command names and at which the test is true
abbrev pub busy_among : ℕ → PortSel → (PortState → Bool) → List PortState → Option Why
busy_among index sel test [] = None
busy_among index sel test (p ∷ ports) = if is_selected sel index && test p then Some (PortBusy index) else busy_among (index + 1) sel test ports

-- the state of one port is changed
abbrev pub at_port : ℕ → (PortState → PortState) → List PortState → List PortState
at_port index change [] = []
at_port zero change (p ∷ ports) = change p ∷ ports
at_port (suc index) change (p ∷ ports) = p ∷ at_port index change ports

abbrev pub with_link : Option Link → PortState → PortState
with_link link p = record p { link = link }

abbrev pub linked : ℕ → PortSetting → Link → Component → Component
linked index setting link c = record c { settings = with_setting index setting c.settings; ports = at_port index (with_link (Some link)) c.ports }

abbrev pub unlinked : ℕ → Component → Component
unlinked index c = record c { ports = at_port index (with_link None) c.ports }

-- the port whose definition is set, where it is there, is held no more
abbrev pub let_go_by : ParamKey → Component → Component
let_go_by key c = if nat_eq key.index 1 then unheld_at (port_of c key.port) c else c

-- ---- what has ended at a port, and is told

abbrev pub flush_ended : Port → Component → Component
flush_ended p c = told (CmdComplete (completions.Flush p.key.port)) (with_port p.key.port (record p.state { flushing = false }) c)

abbrev pub mode_ended : Port → Component → Component
mode_ended p c = all_told (mode_completion p.state.mode p.key.port) (with_port p.key.port (record p.state { mode = Steady }) c)

abbrev pub mark_ended : Port → Component → Component
mark_ended p c = told (CmdComplete (completions.Mark p.key.port)) (with_port p.key.port (record p.state { waiting_mark = None }) c)
