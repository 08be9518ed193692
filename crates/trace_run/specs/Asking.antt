-- The act of the machine that a line asks for.
use Rattle.std.specs.Prelude.{ℕ, Bool, false, Result, Ok, Err}
use Rattle.omx_types.specs.declared.command.Command.TheVariants.{StateSet, Flush, PortDisable, PortEnable, MarkBuffer}
use Rattle.omx_types.specs.declared.error.OmxError.{OmxError}
use Rattle.omx_types.specs.declared.param.Param.TheVariants as params
use Rattle.omx_types.specs.declared.param.ParamKey.{ParamKey}
use Rattle.il_machine.specs.declared.port.PortView.{PortView}
use Rattle.il_machine.specs.Look.{look}
use Rattle.il_machine.specs.Components.{view_answer}
use Rattle.il_machine.specs.Acts.{Act}
use Rattle.il_machine.specs.Acts as acts
use Rattle.act_text.specs.declared.name.PortName.{PortName}
use Rattle.act_text.specs.declared.act.TextAct.{TextAct}
use Rattle.act_text.specs.declared.act.TextAct.TheVariants as lines
use Rattle.trace_run.specs.Naming.{Moment, handle_of, port_id}

-- index 1 is the port definition, 2 the buffer supplier, 3 the priority, 4 the gain and 5 a weight
abbrev pub key : ℕ → ℕ → ParamKey
key index port = record { version = record { major = 1; minor = 1; revision = 2; step = 0 }; index = index; port = port }

abbrev pub input_side : Result PortView OmxError → Bool
input_side (Ok view) = view.input
input_side (Err error) = false

-- the direction of the port, where it is there: a line that sets a definition doesn't say it
abbrev pub is_input : Moment → PortName → Bool
is_input at port = input_side (view_answer (handle_of at.names port.component) port.index (look at.world))

-- `take` asks for the oldest note. `end` is no line of a trace, and `finish` hands a work in: their rows are never asked.
abbrev pub asked : Moment → TextAct → Act
asked at (lines.Free component) = acts.FreeHandle (handle_of at.names component)
asked at (lines.State component) = acts.GetState (handle_of at.names component)
asked at (lines.Port port) = acts.PortView (handle_of at.names port.component) port.index
asked at (lines.SetPort port format count size) =
    acts.SetParameter (handle_of at.names port.component) (key 1 port.index)
    (params.Port (record { input = is_input at port; format = format; count = count; size = size }))
asked at (lines.SetSupplier port supplier) = acts.SetParameter (handle_of at.names port.component) (key 2 port.index) (params.Supplier supplier)
asked at (lines.SetPriority component priority) = acts.SetParameter (handle_of at.names component) (key 3 0) (params.Priority priority)
asked at (lines.Gain component gain) = acts.SetConfig (handle_of at.names component) (key 4 0) (params.Gain gain)
asked at (lines.Weight port weight) = acts.SetConfig (handle_of at.names port.component) (key 5 port.index) (params.Weight weight)
asked at (lines.Tunnel first second) = acts.SetupTunnel (port_id at.names first) (port_id at.names second)
asked at (lines.DropTunnel first second) = acts.DropTunnel (port_id at.names first) (port_id at.names second)
asked at (lines.SendState component state) = acts.SendCommand (handle_of at.names component) (StateSet state)
asked at (lines.SendFlush component ports) = acts.SendCommand (handle_of at.names component) (Flush ports)
asked at (lines.SendDisable component ports) = acts.SendCommand (handle_of at.names component) (PortDisable ports)
asked at (lines.SendEnable component ports) = acts.SendCommand (handle_of at.names component) (PortEnable ports)
asked at (lines.SendMark component port target value) =
    acts.SendCommand (handle_of at.names component) (MarkBuffer port (handle_of at.names target) value)
asked at (lines.Run component) = acts.RunCommand (handle_of at.names component)
asked at (lines.Claim component) = acts.Claim (handle_of at.names component)
asked at (lines.Finish component) = acts.Progress (handle_of at.names component)
asked at (lines.Supply port) = acts.Supply (handle_of at.names port.component) port.index
asked at (lines.Release port) = acts.Release (handle_of at.names port.component) port.index
asked at (lines.Over port) = acts.HandOver (handle_of at.names port.component) port.index
asked at (lines.Back port) = acts.HandBack (handle_of at.names port.component) port.index
asked at (lines.Take component) = acts.TakeNote (handle_of at.names component)
asked at (lines.End component) = acts.Progress (handle_of at.names component)
asked at lines.Grant = acts.Grant
asked at lines.Preempt = acts.Preempt
