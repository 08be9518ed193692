-- The words of replies: a table with a row for each reply.
use Rattle.std.specs.Prelude.{ℕ, ◌^◌, ◌<◌, Bool, if◌then◌else◌, List, [], ◌∷◌, codes}
use Rattle.std.specs.Fmt.{decimal}
use Rattle.il_machine.specs.declared.port.Mode.{Mode}
use Rattle.il_machine.specs.declared.port.Mode.TheVariants.{Steady, Enabling, Disabling}
use Rattle.il_machine.specs.declared.port.PortView.{PortView}
use Rattle.omx_types.specs.declared.command.Completion.{Completion}
use Rattle.omx_types.specs.declared.command.Completion.TheVariants as completions
use Rattle.omx_types.specs.declared.command.Event.{Event as EventType}
use Rattle.omx_types.specs.declared.command.Event.TheVariants as events
use Rattle.omx_types.specs.Names.{state_name, error_name}
use Rattle.act_text.specs.Acts.{FitsWord}
use Rattle.act_text.specs.Names.{IsName}
use Rattle.act_text.specs.Ports.{IsPortName, port_word}
use Rattle.act_text.specs.declared.reply.TextReply.{TextReply}
use Rattle.act_text.specs.declared.reply.TextReply.TheVariants.{Done, Error, State, Port, Supplier, Did, Work, Finished, Idle, NoNote, Busy, Event, NotHeld, TooLong, NotOut, Granted, Victim}
use Rattle.act_text.specs.declared.reply.TextWhy.{TextWhy}
use Rattle.act_text.specs.declared.reply.TextWhy.TheVariants as whys

abbrev pub side_word : Bool → List ℕ
side_word input = if input then codes "input" else codes "output"

abbrev pub enabled_word : Bool → List ℕ
enabled_word enabled = if enabled then codes "enabled" else codes "disabled"

abbrev pub mode_word : Mode → List ℕ
mode_word Steady = codes "steady"
mode_word Enabling = codes "enabling"
mode_word Disabling = codes "disabling"

abbrev pub count_words : PortView → List (List ℕ)
count_words view = decimal view.made ∷ codes "of" ∷ decimal view.count ∷ []

abbrev pub view_words : PortView → List (List ℕ)
view_words view =
    side_word view.input ∷ enabled_word view.enabled ∷ mode_word view.mode ∷ (if view.flushing then codes "flushing" ∷ count_words view else count_words view)

-- the words after `event`
abbrev pub event_words : EventType → List (List ℕ)
event_words (events.CmdComplete (completions.State state)) = codes "state" ∷ state_name state ∷ []
event_words (events.CmdComplete (completions.Flush port)) = codes "flush" ∷ decimal port ∷ []
event_words (events.CmdComplete (completions.Disable port)) = codes "disable" ∷ decimal port ∷ []
event_words (events.CmdComplete (completions.Enable port)) = codes "enable" ∷ decimal port ∷ []
event_words (events.CmdComplete (completions.Mark port)) = codes "mark" ∷ decimal port ∷ []
event_words (events.Error error) = codes "error" ∷ error_name error ∷ []
event_words (events.Mark value) = codes "marked" ∷ decimal value ∷ []
event_words (events.PortSettingsChanged port) = codes "settings" ∷ decimal port ∷ []
event_words (events.BufferFlag port flags) = codes "flags" ∷ decimal port ∷ decimal flags ∷ []
event_words events.ResourcesAcquired = codes "acquired" ∷ []

-- the words after `idle`
abbrev pub why_words : TextWhy → List (List ℕ)
why_words whys.NoCommand = codes "no" ∷ codes "command" ∷ []
why_words (whys.Pending state) = codes "pending" ∷ state_name state ∷ []
why_words (whys.PortBusy port) = codes "port" ∷ codes "busy" ∷ decimal port ∷ []
why_words whys.NotSupplier = codes "not" ∷ codes "supplier" ∷ []
why_words whys.IsSupplier = codes "supplier" ∷ []
why_words (whys.NotAccepting port) = codes "not" ∷ codes "accepting" ∷ port_word port ∷ []
why_words whys.NoBlock = codes "no" ∷ codes "block" ∷ []
why_words whys.NoNumber = codes "no" ∷ codes "number" ∷ []
why_words whys.NotLeaving = codes "not" ∷ codes "leaving" ∷ []
why_words whys.NoHeader = codes "no" ∷ codes "header" ∷ []
why_words (whys.NotRunning port) = codes "not" ∷ codes "running" ∷ port_word port ∷ []
why_words whys.NoWaiter = codes "no" ∷ codes "waiter" ∷ []
why_words (whys.Short have need) = codes "short" ∷ decimal have ∷ decimal need ∷ []
why_words (whys.Enough have need) = codes "enough" ∷ decimal have ∷ decimal need ∷ []
why_words whys.NoVictim = codes "no" ∷ codes "victim" ∷ []
why_words (whys.Events room need) = codes "events" ∷ decimal room ∷ decimal need ∷ []
why_words whys.WorkOut = codes "busy" ∷ []
why_words whys.ComponentNotRunning = codes "not" ∷ codes "running" ∷ []
why_words whys.PartEnded = codes "ended" ∷ []
why_words (whys.PortHeld port) = codes "held" ∷ decimal port ∷ []
why_words (whys.NoData port) = codes "no" ∷ codes "data" ∷ decimal port ∷ []
why_words (whys.NoRoom port) = codes "no" ∷ codes "room" ∷ decimal port ∷ []

abbrev pub reply_words : TextReply → List (List ℕ)
reply_words Done = codes "ok" ∷ []
reply_words (Error error) = codes "error" ∷ error_name error ∷ []
reply_words (State state) = state_name state ∷ []
reply_words (Port view) = view_words view
reply_words (Supplier input) = side_word input ∷ []
reply_words Did = codes "did" ∷ []
reply_words Work = codes "work" ∷ []
reply_words (Finished frames) = codes "did" ∷ decimal frames ∷ []
reply_words (Idle why) = codes "idle" ∷ why_words why
reply_words NoNote = codes "none" ∷ []
reply_words Busy = codes "busy" ∷ []
reply_words (Event event) = codes "event" ∷ event_words event
reply_words NotHeld = codes "not" ∷ codes "held" ∷ []
reply_words TooLong = codes "too" ∷ codes "long" ∷ []
reply_words NotOut = codes "not" ∷ codes "out" ∷ []
reply_words (Granted component) = codes "granted" ∷ component ∷ []
reply_words (Victim component) = codes "victim" ∷ component ∷ []

abbrev pub IsCompletion : Completion → Type 0
IsCompletion (completions.State state) = Unit {0}
IsCompletion (completions.Flush port) = FitsWord port
IsCompletion (completions.Disable port) = FitsWord port
IsCompletion (completions.Enable port) = FitsWord port
IsCompletion (completions.Mark port) = FitsWord port

abbrev pub IsEvent : EventType → Type 0
IsEvent (events.CmdComplete completion) = IsCompletion completion
IsEvent (events.Error error) = Unit {0}
IsEvent (events.Mark value) = value < 2 ^ 64
IsEvent (events.PortSettingsChanged port) = FitsWord port
IsEvent (events.BufferFlag port flags) = FitsWord port × FitsWord flags
IsEvent events.ResourcesAcquired = Unit {0}

abbrev pub IsWhy : TextWhy → Type 0
IsWhy (whys.PortBusy port) = FitsWord port
IsWhy (whys.NotAccepting port) = IsPortName port
IsWhy (whys.NotRunning port) = IsPortName port
IsWhy (whys.Short have need) = FitsWord have × FitsWord need
IsWhy (whys.Enough have need) = FitsWord have × FitsWord need
IsWhy (whys.Events room need) = FitsWord room × FitsWord need
IsWhy (whys.PortHeld port) = FitsWord port
IsWhy (whys.NoData port) = FitsWord port
IsWhy (whys.NoRoom port) = FitsWord port
IsWhy other = Unit {0}

-- the names are names, and the numbers are within their limits
abbrev pub IsReply : TextReply → Type 0
IsReply (Port view) = FitsWord view.made × FitsWord view.count
IsReply (Finished frames) = FitsWord frames
IsReply (Idle why) = IsWhy why
IsReply (Event event) = IsEvent event
IsReply (Granted component) = IsName component
IsReply (Victim component) = IsName component
IsReply other = Unit {0}
