-- The reply that words say, by their number and their first words.
use Rattle.std.specs.Prelude.{ℕ, ◌^◌, Bool, true, false, List, [], ◌∷◌, Option, Some, None, option_map, codes, if◌then◌else◌}
use Rattle.std.specs.Str.{bytes_eq}
use Rattle.il_machine.specs.declared.port.Mode.{Mode}
use Rattle.il_machine.specs.declared.port.Mode.TheVariants.{Steady, Enabling, Disabling}
use Rattle.omx_types.specs.declared.command.Completion.TheVariants as completions
use Rattle.omx_types.specs.declared.command.Event.{Event as EventType}
use Rattle.omx_types.specs.declared.command.Event.TheVariants as events
use Rattle.omx_types.specs.declared.error.OmxError.{OmxError}
use Rattle.omx_types.specs.declared.error.OmxError.TheVariants as errors
use Rattle.act_text.specs.Reading.{both, name_of, port_of}
use Rattle.line_text.specs.ReadNumbers.{number_below, small_number}
use Rattle.act_text.specs.ReadActs.{state_of}
use Rattle.act_text.specs.declared.reply.TextReply.{TextReply}
use Rattle.act_text.specs.declared.reply.TextReply.TheVariants.{Done, Error, State, Port, Supplier, Did, Work, Finished, Idle, NoNote, Busy, Event, NotHeld, TooLong, NotOut, Granted, Victim}
use Rattle.act_text.specs.declared.reply.TextWhy.{TextWhy}
use Rattle.act_text.specs.declared.reply.TextWhy.TheVariants as whys

abbrev pub later_error_of : List ℕ → Option OmxError
later_error_of word =
    if bytes_eq word (codes "VersionMismatch") then Some errors.VersionMismatch
    else if bytes_eq word (codes "NotReady") then Some errors.NotReady
    else if bytes_eq word (codes "SameState") then Some errors.SameState
    else if bytes_eq word (codes "ResourcesPreempted") then Some errors.ResourcesPreempted
    else if bytes_eq word (codes "IncorrectStateTransition") then Some errors.IncorrectStateTransition
    else if bytes_eq word (codes "IncorrectStateOperation") then Some errors.IncorrectStateOperation
    else if bytes_eq word (codes "UnsupportedSetting") then Some errors.UnsupportedSetting
    else if bytes_eq word (codes "UnsupportedIndex") then Some errors.UnsupportedIndex
    else if bytes_eq word (codes "BadPortIndex") then Some errors.BadPortIndex
    else if bytes_eq word (codes "PortUnpopulated") then Some errors.PortUnpopulated
    else None

abbrev pub error_of : List ℕ → Option OmxError
error_of word =
    if bytes_eq word (codes "InsufficientResources") then Some errors.InsufficientResources
    else if bytes_eq word (codes "InvalidComponentName") then Some errors.InvalidComponentName
    else if bytes_eq word (codes "ComponentNotFound") then Some errors.ComponentNotFound
    else if bytes_eq word (codes "InvalidComponent") then Some errors.InvalidComponent
    else if bytes_eq word (codes "BadParameter") then Some errors.BadParameter
    else if bytes_eq word (codes "Hardware") then Some errors.Hardware
    else if bytes_eq word (codes "InvalidState") then Some errors.InvalidState
    else if bytes_eq word (codes "StreamCorrupt") then Some errors.StreamCorrupt
    else if bytes_eq word (codes "PortsNotCompatible") then Some errors.PortsNotCompatible
    else if bytes_eq word (codes "ResourcesLost") then Some errors.ResourcesLost
    else later_error_of word

-- an event that names one port
abbrev pub port_event : List ℕ → ℕ → Option EventType
port_event what port =
    if bytes_eq what (codes "flush") then Some (events.CmdComplete (completions.Flush port))
    else if bytes_eq what (codes "disable") then Some (events.CmdComplete (completions.Disable port))
    else if bytes_eq what (codes "enable") then Some (events.CmdComplete (completions.Enable port))
    else if bytes_eq what (codes "mark") then Some (events.CmdComplete (completions.Mark port))
    else if bytes_eq what (codes "settings") then Some (events.PortSettingsChanged port)
    else None

abbrev pub port_event_at : List ℕ → Option ℕ → Option EventType
port_event_at what (Some port) = port_event what port
port_event_at what None = None

-- an event with one more word
abbrev pub event_with : List ℕ → List ℕ → Option EventType
event_with what value =
    if bytes_eq what (codes "state") then option_map (λ state. events.CmdComplete (completions.State state)) (state_of value)
    else if bytes_eq what (codes "error") then option_map events.Error (error_of value)
    else if bytes_eq what (codes "marked") then option_map events.Mark (number_below (2 ^ 64) value)
    else port_event_at what (small_number value)

abbrev pub event_of : List (List ℕ) → Option EventType
event_of (what ∷ []) = if bytes_eq what (codes "acquired") then Some events.ResourcesAcquired else None
event_of (what ∷ value ∷ []) = event_with what value
event_of (what ∷ port ∷ flags ∷ []) =
    if bytes_eq what (codes "flags") then both (small_number port) (small_number flags) events.BufferFlag else None
event_of words = None

-- what there is none of
abbrev pub nothing_of : List ℕ → Option TextWhy
nothing_of what =
    if bytes_eq what (codes "command") then Some whys.NoCommand
    else if bytes_eq what (codes "block") then Some whys.NoBlock
    else if bytes_eq what (codes "number") then Some whys.NoNumber
    else if bytes_eq what (codes "header") then Some whys.NoHeader
    else if bytes_eq what (codes "waiter") then Some whys.NoWaiter
    else if bytes_eq what (codes "victim") then Some whys.NoVictim
    else None

-- what isn't so
abbrev pub not_of : List ℕ → Option TextWhy
not_of what =
    if bytes_eq what (codes "supplier") then Some whys.NotSupplier
    else if bytes_eq what (codes "leaving") then Some whys.NotLeaving
    else if bytes_eq what (codes "running") then Some whys.ComponentNotRunning
    else None

abbrev pub why_of_two : List ℕ → List ℕ → Option TextWhy
why_of_two one two =
    if bytes_eq one (codes "no") then nothing_of two
    else if bytes_eq one (codes "pending") then option_map whys.Pending (state_of two)
    else if bytes_eq one (codes "held") then option_map whys.PortHeld (small_number two)
    else if bytes_eq one (codes "not") then not_of two
    else None

-- a why of two numbers
abbrev pub numbers_why : List ℕ → ℕ → ℕ → Option TextWhy
numbers_why what first second =
    if bytes_eq what (codes "short") then Some (whys.Short first second)
    else if bytes_eq what (codes "enough") then Some (whys.Enough first second)
    else if bytes_eq what (codes "events") then Some (whys.Events first second)
    else None

abbrev pub numbers_why_at : List ℕ → Option ℕ → Option ℕ → Option TextWhy
numbers_why_at what (Some first) (Some second) = numbers_why what first second
numbers_why_at what (Some first) None = None
numbers_why_at what None second = None

-- why a port was not fit
abbrev pub port_why : List ℕ → List ℕ → Option TextWhy
port_why what port =
    if bytes_eq what (codes "accepting") then option_map whys.NotAccepting (port_of port)
    else if bytes_eq what (codes "running") then option_map whys.NotRunning (port_of port)
    else None

-- which port has nothing for a step
abbrev pub wanting_why : List ℕ → Option ℕ → Option TextWhy
wanting_why what None = None
wanting_why what (Some port) =
    if bytes_eq what (codes "data") then Some (whys.NoData port)
    else if bytes_eq what (codes "room") then Some (whys.NoRoom port)
    else None

abbrev pub why_of_three : List ℕ → List ℕ → List ℕ → Option TextWhy
why_of_three one two three =
    if bytes_eq one (codes "not") then port_why two three
    else if bytes_eq one (codes "port") then (if bytes_eq two (codes "busy") then option_map whys.PortBusy (small_number three) else None)
    else if bytes_eq one (codes "no") then wanting_why two (small_number three)
    else numbers_why_at one (small_number two) (small_number three)

abbrev pub why_of_one : List ℕ → Option TextWhy
why_of_one one =
    if bytes_eq one (codes "supplier") then Some whys.IsSupplier
    else if bytes_eq one (codes "busy") then Some whys.WorkOut
    else if bytes_eq one (codes "ended") then Some whys.PartEnded
    else None

abbrev pub why_of : List (List ℕ) → Option TextWhy
why_of (one ∷ []) = why_of_one one
why_of (one ∷ two ∷ []) = why_of_two one two
why_of (one ∷ two ∷ three ∷ []) = why_of_three one two three
why_of words = None

abbrev pub reply_of_one : List ℕ → Option TextReply
reply_of_one word =
    if bytes_eq word (codes "ok") then Some Done
    else if bytes_eq word (codes "did") then Some Did
    else if bytes_eq word (codes "work") then Some Work
    else if bytes_eq word (codes "none") then Some NoNote
    else if bytes_eq word (codes "busy") then Some Busy
    else if bytes_eq word (codes "input") then Some (Supplier true)
    else if bytes_eq word (codes "output") then Some (Supplier false)
    else option_map State (state_of word)

-- a reply that names a component
abbrev pub reply_of_name : List ℕ → Option (List ℕ) → Option TextReply
reply_of_name one None = None
reply_of_name one (Some component) =
    if bytes_eq one (codes "granted") then Some (Granted component)
    else if bytes_eq one (codes "victim") then Some (Victim component)
    else None

abbrev pub reply_of_two : List ℕ → List ℕ → Option TextReply
reply_of_two one two =
    if bytes_eq one (codes "error") then option_map Error (error_of two)
    else if bytes_eq one (codes "not")
    then (if bytes_eq two (codes "held") then Some NotHeld else if bytes_eq two (codes "out") then Some NotOut else None)
    else if bytes_eq one (codes "too") then (if bytes_eq two (codes "long") then Some TooLong else None)
    else if bytes_eq one (codes "did") then option_map (λ frames. Finished frames) (small_number two)
    else reply_of_name one (name_of two)

abbrev pub side_of : List ℕ → Option Bool
side_of word =
    if bytes_eq word (codes "input") then Some true
    else if bytes_eq word (codes "output") then Some false
    else None

abbrev pub enabled_of : List ℕ → Option Bool
enabled_of word =
    if bytes_eq word (codes "enabled") then Some true
    else if bytes_eq word (codes "disabled") then Some false
    else None

abbrev pub mode_of : List ℕ → Option Mode
mode_of word =
    if bytes_eq word (codes "steady") then Some Steady
    else if bytes_eq word (codes "enabling") then Some Enabling
    else if bytes_eq word (codes "disabling") then Some Disabling
    else None

abbrev pub view_with : Option Bool → Option Bool → Option Mode → Bool → Option ℕ → Option ℕ → Option TextReply
view_with (Some input) (Some enabled) (Some mode) flushing (Some made) (Some count) =
    Some (Port record { input = input; enabled = enabled; mode = mode; flushing = flushing; made = made; count = count })
view_with (Some input) (Some enabled) (Some mode) flushing (Some made) None = None
view_with (Some input) (Some enabled) (Some mode) flushing None count = None
view_with (Some input) (Some enabled) None flushing made count = None
view_with (Some input) None mode flushing made count = None
view_with None enabled mode flushing made count = None

-- a port's view by its words; whether it is flushing is a word more
abbrev pub view_of : List ℕ → List ℕ → List ℕ → List (List ℕ) → Option TextReply
view_of side enabled mode (made ∷ of ∷ count ∷ []) =
    if bytes_eq of (codes "of") then view_with (side_of side) (enabled_of enabled) (mode_of mode) false (small_number made) (small_number count) else None
view_of side enabled mode (flushing ∷ made ∷ of ∷ count ∷ []) =
    if bytes_eq flushing (codes "flushing")
    then (if bytes_eq of (codes "of") then view_with (side_of side) (enabled_of enabled) (mode_of mode) true (small_number made) (small_number count) else None)
    else None
view_of side enabled mode words = None

abbrev pub other_reply_of : List ℕ → List (List ℕ) → Option TextReply
other_reply_of first (second ∷ []) = reply_of_two first second
other_reply_of first (second ∷ third ∷ rest) = view_of first second third rest
other_reply_of first [] = None

-- the reply of a list of words
abbrev pub reply_of : List (List ℕ) → Option TextReply
reply_of [] = None
reply_of (word ∷ []) = reply_of_one word
reply_of (first ∷ second ∷ rest) =
    if bytes_eq first (codes "idle") then option_map Idle (why_of (second ∷ rest))
    else if bytes_eq first (codes "event") then option_map Event (event_of (second ∷ rest))
    else other_reply_of first (second ∷ rest)
