-- The words of acts: a table with a row for each act.
use Rattle.std.specs.Prelude.{ℕ, ◌^◌, ◌<◌, List, [], ◌∷◌, ◌++◌, codes}
use Rattle.std.specs.Fmt.{decimal}
use Rattle.omx_types.specs.declared.command.PortSel.{PortSel}
use Rattle.omx_types.specs.declared.command.PortSel.TheVariants.{One, All}
use Rattle.omx_types.specs.declared.format.Format.{Format}
use Rattle.omx_types.specs.declared.format.Format.TheVariants.{Pcm, Alaw, Mulaw, Auto}
use Rattle.omx_types.specs.declared.param.Supplier.{Supplier}
use Rattle.omx_types.specs.declared.param.Supplier.TheVariants.{Unspecified, Input, Output}
use Rattle.omx_types.specs.Formats.{rate_of, channels_of}
use Rattle.omx_types.specs.Names.{state_name}
use Rattle.act_text.specs.Names.{IsName}
use Rattle.act_text.specs.Ports.{IsPortName, port_word}
use Rattle.act_text.specs.declared.act.TextAct.{TextAct}
use Rattle.act_text.specs.declared.act.TextAct.TheVariants.{Free, State, Port, SetPort, SetSupplier, SetPriority, Gain, Weight, Tunnel, DropTunnel, SendState, SendFlush, SendDisable, SendEnable, SendMark, Run, Claim, Finish, Supply, Release, Over, Back, Take, End, Grant, Preempt}

-- a format that isn't known has neither rate nor channels
abbrev pub format_words : Format → List (List ℕ)
format_words (Pcm rate channels) = codes "pcm" ∷ decimal rate ∷ decimal channels ∷ []
format_words (Alaw rate channels) = codes "alaw" ∷ decimal rate ∷ decimal channels ∷ []
format_words (Mulaw rate channels) = codes "mulaw" ∷ decimal rate ∷ decimal channels ∷ []
format_words Auto = codes "auto" ∷ []

abbrev pub supplier_word : Supplier → List ℕ
supplier_word Unspecified = codes "none"
supplier_word Input = codes "input"
supplier_word Output = codes "output"

abbrev pub ports_word : PortSel → List ℕ
ports_word (One port) = decimal port
ports_word All = codes "all"

abbrev pub definition_words : List ℕ → Format → List ℕ → List ℕ → List (List ℕ)
definition_words port format count size =
    codes "set" ∷ port ∷ codes "port" ∷ (format_words format ++ count ∷ size ∷ [])

abbrev pub act_words : TextAct → List (List ℕ)
act_words (Free component) = codes "free" ∷ component ∷ []
act_words (State component) = codes "state" ∷ component ∷ []
act_words (Port port) = codes "port" ∷ port_word port ∷ []
act_words (SetPort port format count size) = definition_words (port_word port) format (decimal count) (decimal size)
act_words (SetSupplier port supplier) = codes "set" ∷ port_word port ∷ codes "supplier" ∷ supplier_word supplier ∷ []
act_words (SetPriority component priority) = codes "set" ∷ component ∷ codes "priority" ∷ decimal priority ∷ []
act_words (Gain component gain) = codes "config" ∷ component ∷ codes "gain" ∷ decimal gain ∷ []
act_words (Weight port weight) = codes "config" ∷ port_word port ∷ codes "weight" ∷ decimal weight ∷ []
act_words (Tunnel first second) = codes "tunnel" ∷ port_word first ∷ port_word second ∷ []
act_words (DropTunnel first second) = codes "drop" ∷ port_word first ∷ port_word second ∷ []
act_words (SendState component state) = codes "send" ∷ component ∷ codes "state" ∷ state_name state ∷ []
act_words (SendFlush component ports) = codes "send" ∷ component ∷ codes "flush" ∷ ports_word ports ∷ []
act_words (SendDisable component ports) = codes "send" ∷ component ∷ codes "disable" ∷ ports_word ports ∷ []
act_words (SendEnable component ports) = codes "send" ∷ component ∷ codes "enable" ∷ ports_word ports ∷ []
act_words (SendMark component port target value) =
    codes "send" ∷ component ∷ codes "mark" ∷ decimal port ∷ target ∷ decimal value ∷ []
act_words (Run component) = codes "run" ∷ component ∷ []
act_words (Claim component) = codes "claim" ∷ component ∷ []
act_words (Finish component) = codes "finish" ∷ component ∷ []
act_words (Supply port) = codes "supply" ∷ port_word port ∷ []
act_words (Release port) = codes "release" ∷ port_word port ∷ []
act_words (Over port) = codes "over" ∷ port_word port ∷ []
act_words (Back port) = codes "back" ∷ port_word port ∷ []
act_words (Take component) = codes "take" ∷ component ∷ []
act_words (End component) = codes "end" ∷ component ∷ []
act_words Grant = codes "grant" ∷ []
act_words Preempt = codes "preempt" ∷ []

abbrev pub FitsWord : ℕ → Type 0
FitsWord number = number < 2 ^ 32

-- rate and channels of a format are numbers of a line
abbrev pub IsFormat : Format → Type 0
IsFormat format = FitsWord (rate_of format) × FitsWord (channels_of format)

abbrev pub ArePorts : PortSel → Type 0
ArePorts (One port) = FitsWord port
ArePorts All = Unit {0}

-- the names are names, and the numbers are within their limits
abbrev pub IsAct : TextAct → Type 0
IsAct (Free component) = IsName component
IsAct (State component) = IsName component
IsAct (Port port) = IsPortName port
IsAct (SetPort port format count size) = IsPortName port × IsFormat format × FitsWord count × FitsWord size
IsAct (SetSupplier port supplier) = IsPortName port
IsAct (SetPriority component priority) = IsName component × FitsWord priority
IsAct (Gain component gain) = IsName component × FitsWord gain
IsAct (Weight port weight) = IsPortName port × FitsWord weight
IsAct (Tunnel first second) = IsPortName first × IsPortName second
IsAct (DropTunnel first second) = IsPortName first × IsPortName second
IsAct (SendState component state) = IsName component
IsAct (SendFlush component ports) = IsName component × ArePorts ports
IsAct (SendDisable component ports) = IsName component × ArePorts ports
IsAct (SendEnable component ports) = IsName component × ArePorts ports
IsAct (SendMark component port target value) = IsName component × FitsWord port × IsName target × (value < 2 ^ 64)
IsAct (Run component) = IsName component
IsAct (Claim component) = IsName component
IsAct (Finish component) = IsName component
IsAct (Supply port) = IsPortName port
IsAct (Release port) = IsPortName port
IsAct (Over port) = IsPortName port
IsAct (Back port) = IsPortName port
IsAct (Take component) = IsName component
IsAct (End component) = IsName component
IsAct Grant = Unit {0}
IsAct Preempt = Unit {0}
