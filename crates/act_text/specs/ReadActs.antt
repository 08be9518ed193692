-- The act that words say, by their number and their first and third word.
use Rattle.std.specs.Prelude.{ℕ, ◌^◌, List, [], ◌∷◌, Option, Some, None, option_map, codes, if◌then◌else◌}
use Rattle.std.specs.Str.{bytes_eq}
use Rattle.omx_types.specs.declared.command.PortSel.{PortSel}
use Rattle.omx_types.specs.declared.command.PortSel.TheVariants.{One, All}
use Rattle.omx_types.specs.declared.format.Format.{Format}
use Rattle.omx_types.specs.declared.format.Format.TheVariants.{Pcm, Alaw, Mulaw, Auto}
use Rattle.omx_types.specs.declared.param.Supplier.{Supplier}
use Rattle.omx_types.specs.declared.param.Supplier.TheVariants.{Unspecified, Input, Output}
use Rattle.omx_types.specs.declared.state.State.{State as StateType}
use Rattle.omx_types.specs.declared.state.State.TheVariants as states
use Rattle.act_text.specs.Reading.{both, name_of, port_of}
use Rattle.line_text.specs.ReadNumbers.{number_below, small_number}
use Rattle.act_text.specs.declared.name.PortName.{PortName}
use Rattle.act_text.specs.declared.act.TextAct.{TextAct}
use Rattle.act_text.specs.declared.act.TextAct.TheVariants.{Free, State, Port, SetPort, SetSupplier, SetPriority, Gain, Weight, Tunnel, DropTunnel, SendState, SendFlush, SendDisable, SendEnable, SendMark, Run, Claim, Finish, Supply, Release, Over, Back, Take, End, Grant, Preempt}

abbrev pub state_of : List ℕ → Option StateType
state_of word =
    if bytes_eq word (codes "Invalid") then Some states.Invalid
    else if bytes_eq word (codes "Loaded") then Some states.Loaded
    else if bytes_eq word (codes "Idle") then Some states.Idle
    else if bytes_eq word (codes "Executing") then Some states.Executing
    else if bytes_eq word (codes "Pause") then Some states.Pause
    else if bytes_eq word (codes "WaitForResources") then Some states.WaitForResources
    else None

abbrev pub supplier_of : List ℕ → Option Supplier
supplier_of word =
    if bytes_eq word (codes "none") then Some Unspecified
    else if bytes_eq word (codes "input") then Some Input
    else if bytes_eq word (codes "output") then Some Output
    else None

abbrev pub ports_of : List ℕ → Option PortSel
ports_of word = if bytes_eq word (codes "all") then Some All else option_map One (small_number word)

abbrev pub format_with : List ℕ → ℕ → ℕ → Option Format
format_with kind rate channels =
    if bytes_eq kind (codes "pcm") then Some (Pcm rate channels)
    else if bytes_eq kind (codes "alaw") then Some (Alaw rate channels)
    else if bytes_eq kind (codes "mulaw") then Some (Mulaw rate channels)
    else None

-- an act of a component
abbrev pub of_component : List ℕ → List ℕ → Option TextAct
of_component verb component =
    if bytes_eq verb (codes "free") then Some (Free component)
    else if bytes_eq verb (codes "state") then Some (State component)
    else if bytes_eq verb (codes "run") then Some (Run component)
    else if bytes_eq verb (codes "claim") then Some (Claim component)
    else if bytes_eq verb (codes "finish") then Some (Finish component)
    else if bytes_eq verb (codes "take") then Some (Take component)
    else if bytes_eq verb (codes "end") then Some (End component)
    else None

-- an act of a port
abbrev pub of_port : List ℕ → PortName → Option TextAct
of_port verb port =
    if bytes_eq verb (codes "port") then Some (Port port)
    else if bytes_eq verb (codes "supply") then Some (Supply port)
    else if bytes_eq verb (codes "release") then Some (Release port)
    else if bytes_eq verb (codes "over") then Some (Over port)
    else if bytes_eq verb (codes "back") then Some (Back port)
    else None

-- an act of two ports
abbrev pub of_ports : List ℕ → PortName → PortName → Option TextAct
of_ports verb first second =
    if bytes_eq verb (codes "tunnel") then Some (Tunnel first second)
    else if bytes_eq verb (codes "drop") then Some (DropTunnel first second)
    else None

-- a line of `set` with one value
abbrev pub of_setting : List ℕ → List ℕ → List ℕ → Option TextAct
of_setting subject what value =
    if bytes_eq what (codes "supplier") then both (port_of subject) (supplier_of value) SetSupplier
    else if bytes_eq what (codes "priority") then both (name_of subject) (small_number value) SetPriority
    else None

abbrev pub of_config : List ℕ → List ℕ → List ℕ → Option TextAct
of_config subject what value =
    if bytes_eq what (codes "gain") then both (name_of subject) (small_number value) Gain
    else if bytes_eq what (codes "weight") then both (port_of subject) (small_number value) Weight
    else None

-- a command to one port of a component or to all of them
abbrev pub command_with : List ℕ → Option (List ℕ) → Option PortSel → Option TextAct
command_with what (Some component) (Some ports) =
    if bytes_eq what (codes "flush") then Some (SendFlush component ports)
    else if bytes_eq what (codes "disable") then Some (SendDisable component ports)
    else if bytes_eq what (codes "enable") then Some (SendEnable component ports)
    else None
command_with what (Some component) None = None
command_with what None ports = None

abbrev pub of_ports_sending : List ℕ → List ℕ → List ℕ → Option TextAct
of_ports_sending subject what value = command_with what (name_of subject) (ports_of value)

abbrev pub of_sending : List ℕ → List ℕ → List ℕ → Option TextAct
of_sending subject what value =
    if bytes_eq what (codes "state") then both (name_of subject) (state_of value) SendState else of_ports_sending subject what value

abbrev pub of_four : List ℕ → List ℕ → List ℕ → List ℕ → Option TextAct
of_four verb subject what value =
    if bytes_eq verb (codes "set") then of_setting subject what value
    else if bytes_eq verb (codes "config") then of_config subject what value
    else if bytes_eq verb (codes "send") then of_sending subject what value
    else None

-- a port by itself and the value of its mark
abbrev pub of_mark : Option (List ℕ) → Option ℕ → Option (List ℕ) → Option ℕ → Option TextAct
of_mark (Some component) (Some port) (Some target) (Some value) = Some (SendMark component port target value)
of_mark (Some component) (Some port) (Some target) None = None
of_mark (Some component) (Some port) None value = None
of_mark (Some component) None target value = None
of_mark None port target value = None

abbrev pub format_of : List ℕ → Option ℕ → Option ℕ → Option Format
format_of kind (Some rate) (Some channels) = format_with kind rate channels
format_of kind (Some rate) None = None
format_of kind None channels = None

abbrev pub of_definition : Option PortName → Option Format → Option ℕ → Option ℕ → Option TextAct
of_definition (Some port) (Some format) (Some count) (Some size) = Some (SetPort port format count size)
of_definition (Some port) (Some format) (Some count) None = None
of_definition (Some port) (Some format) None size = None
of_definition (Some port) None count size = None
of_definition None format count size = None

-- the definition of a port whose format isn't known
abbrev pub of_auto : List ℕ → List ℕ → List ℕ → List ℕ → Option TextAct
of_auto subject kind count size =
    if bytes_eq kind (codes "auto") then of_definition (port_of subject) (Some Auto) (small_number count) (small_number size) else None

abbrev pub of_six : List ℕ → List ℕ → List ℕ → List ℕ → List ℕ → List ℕ → Option TextAct
of_six verb subject what first second third =
    if bytes_eq verb (codes "send")
    then (if bytes_eq what (codes "mark") then of_mark (name_of subject) (small_number first) (name_of second) (number_below (2 ^ 64) third) else None)
    else if bytes_eq verb (codes "set")
    then (if bytes_eq what (codes "port") then of_auto subject first second third else None)
    else None

abbrev pub of_eight : List ℕ → List ℕ → List ℕ → List ℕ → List ℕ → List ℕ → List ℕ → List ℕ → Option TextAct
of_eight verb subject what kind rate channels count size =
    if bytes_eq verb (codes "set")
    then (if bytes_eq what (codes "port") then of_definition (port_of subject) (format_of kind (small_number rate) (small_number channels)) (small_number count) (small_number size) else None)
    else None

-- an act that names nothing
abbrev pub of_one : List ℕ → Option TextAct
of_one verb =
    if bytes_eq verb (codes "grant") then Some Grant
    else if bytes_eq verb (codes "preempt") then Some Preempt
    else None

-- an act of one port, or of one component
abbrev pub of_two : List ℕ → Option (List ℕ) → Option PortName → Option TextAct
of_two verb (Some component) port = of_component verb component
of_two verb None (Some port) = of_port verb port
of_two verb None None = None

abbrev pub of_three : List ℕ → Option PortName → Option PortName → Option TextAct
of_three verb (Some first) (Some second) = of_ports verb first second
of_three verb (Some first) None = None
of_three verb None second = None

-- the act of a list of words
abbrev pub act_of : List (List ℕ) → Option TextAct
act_of (verb ∷ []) = of_one verb
act_of (verb ∷ one ∷ []) = of_two verb (name_of one) (port_of one)
act_of (verb ∷ one ∷ two ∷ []) = of_three verb (port_of one) (port_of two)
act_of (verb ∷ one ∷ what ∷ two ∷ []) = of_four verb one what two
act_of (verb ∷ one ∷ what ∷ first ∷ second ∷ third ∷ []) = of_six verb one what first second third
act_of (verb ∷ one ∷ what ∷ kind ∷ rate ∷ channels ∷ count ∷ size ∷ []) = of_eight verb one what kind rate channels count size
act_of words = None
