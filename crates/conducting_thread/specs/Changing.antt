-- The requests of a step of a late source's link, by the ends of the link.
use Rattle.std.specs.Prelude.{ℕ, Bool, true, false, List, [], ◌∷◌, slice_index_or}
use Rattle.omx_types.specs.declared.command.Command.TheVariants.{PortDisable, PortEnable}
use Rattle.omx_types.specs.declared.command.PortSel.TheVariants.{One}
use Rattle.omx_types.specs.declared.handle.Handle.{Handle}
use Rattle.omx_types.specs.declared.handle.PortId.{PortId}
use Rattle.omx_types.specs.declared.param.Param.TheVariants as params
use Rattle.omx_types.specs.declared.param.PortDefinition.{PortDefinition}
use Rattle.conductor.specs.declared.phase.ChangeStep.{ChangeStep}
use Rattle.conductor.specs.declared.phase.ChangeStep.TheVariants as steps
use Rattle.play_build_laws.specs.Building.{no_handle}
use Rattle.play_build_laws.specs.Stages.{port_key}
use Rattle.play_forms.specs.Plans.{PlanValue}
use Rattle.play_plan_laws.specs.Assemblies.{end_of}
use Rattle.play_plan_laws.specs.Casting.{flow_of, joint_of}
use Rattle.pass_book.specs.declared.quiet.QuietAct.{QuietAct}
use Rattle.pass_book.specs.declared.quiet.QuietAct.TheVariants.{DropTunnel, SendCommand, SetParameter, SetupTunnel}
use Rattle.conducting_thread.specs.declared.link_ends.LinkEnds.{LinkEnds}

-- the port at the link's output (false), or at its input (true)
abbrev pub port_of : PlanValue → List Handle → ℕ → Bool → PortId
port_of plan handles link side =
    let end = end_of side (joint_of plan link) in
    record { handle = slice_index_or handles end.component no_handle; index = end.port }

-- what is set there: the format is that of the file
abbrev pub definition_of : PlanValue → ℕ → Bool → PortDefinition
definition_of plan link side =
    let joint = joint_of plan link in
    record { input = side; format = (flow_of plan link).format; count = joint.count; size = joint.size }

abbrev pub ends_of : PlanValue → List Handle → ℕ → LinkEnds
ends_of plan handles link = record {
  output = port_of plan handles link false;
  input = port_of plan handles link true;
  given = definition_of plan link false;
  taken = definition_of plan link true;
}

abbrev pub setting : PortId → PortDefinition → QuietAct
setting port definition = SetParameter port.handle (port_key port.index) (params.Port definition)

abbrev pub disabling : PortId → QuietAct
disabling port = SendCommand port.handle (PortDisable (One port.index))

abbrev pub enabling : PortId → QuietAct
enabling port = SendCommand port.handle (PortEnable (One port.index))

abbrev pub change_acts : LinkEnds → ChangeStep → List QuietAct
change_acts ends steps.Disable = disabling ends.output ∷ disabling ends.input ∷ []
change_acts ends steps.Retune =
    DropTunnel ends.output ends.input ∷ setting ends.output ends.given ∷ setting ends.input ends.taken
    ∷ SetupTunnel ends.output ends.input ∷ []
change_acts ends steps.Enable = enabling ends.output ∷ enabling ends.input ∷ []
