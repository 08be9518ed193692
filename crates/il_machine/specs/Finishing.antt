-- A work comes back: each of its headers lands in a list of its port or in a note, marks go on, and events tell what ended.
use Rattle.std.specs.Prelude.{ℕ, ◌+◌, Bool, true, false, not, ◌&&◌, ◌||◌, nat_lt, List, [], ◌∷◌, ◌++◌, Option, Some, None, is_some, is_none, slice_get, if◌then◌else◌, MatchOption}
use Rattle.std.specs.List.{list_any}
use Rattle.omx_types.specs.declared.command.Event.TheVariants as events
use Rattle.omx_types.specs.declared.command.Note.{Note}
use Rattle.omx_types.specs.declared.command.Note.TheVariants.{Told}
use Rattle.omx_types.specs.declared.error.OmxError.{OmxError}
use Rattle.omx_types.specs.declared.error.OmxError.TheVariants as errors
use Rattle.omx_types.specs.declared.fault.PartFault.{PartFault}
use Rattle.omx_types.specs.declared.fault.PartFault.TheVariants.{Read, Write, Short}
use Rattle.il_machine.specs.declared.port.Mark.{Mark}
use Rattle.il_machine.specs.declared.port.PortKey.{PortKey}
use Rattle.il_machine.specs.declared.port.Port.{Port}
use Rattle.il_machine.specs.declared.header.Owner.TheVariants as owners
use Rattle.il_machine.specs.declared.header.Spot.TheVariants.{TodoFront, DoneBack}
use Rattle.il_machine.specs.Lists.{holds_at}
use Rattle.il_machine.specs.Kinds.{is_sink}
use Rattle.il_machine.specs.Settings.{same_format}
use Rattle.il_machine.specs.World.{Component, HeaderRecord, Load, PartState, Stream, Work, World, same_handle, number_of, place_numbered, port_of, with_component, with_port, with_stream, stream_of, changed_at}
use Rattle.il_machine.specs.Headers.{changed, given_to, loaded, put, unloaded}
use Rattle.il_machine.specs.Ports.{is_joined, returning}
use Rattle.il_machine.specs.Due.{ClosesTo}
use Rattle.il_machine.specs.Parts.{file_format, terms_of}
use Rattle.il_machine.specs.Buffers.{load_in}
use Rattle.il_machine.specs.Flow.{done_note}
use Rattle.il_machine.specs.Claims.{CarriedHeader}
use Rattle.il_machine.specs.Stepping.{WorkDone, is_in, is_drained, is_last, inputs_ended, is_over}

-- where a header lands: at the front of its port's todo, at the back of its done, or in a note to the client
pub data Landing : Type 0 where
  Again : Landing
  Onward : Landing
  Noted : Landing

-- ---- where each header lands

-- the part ended in this step, or before
abbrev pub ends_by : Component → Stream → WorkDone → Bool
ends_by c s done = is_none done.fault && is_over (terms_of c) s done.frames (inputs_ended (terms_of c) 0 done.headers)

abbrev pub is_an_input : Component → CarriedHeader → Bool
is_an_input c x = is_in (terms_of c) x

-- an input's header that is spent, or an output's that was filled
abbrev pub is_finished : Component → Stream → WorkDone → CarriedHeader → Bool
is_finished c s done x = is_none done.fault && (if is_an_input c x then is_drained (terms_of c) 0 x else (nat_lt 0 done.frames || ends_by c s done))

abbrev pub is_returning : Component → CarriedHeader → Bool
is_returning c x = holds_at (port_of c x.port) (returning c)

abbrev pub is_tunnelled : Component → CarriedHeader → Bool
is_tunnelled c x = holds_at (port_of c x.port) is_joined

-- in a tunnel one that is finished goes on, unless its port is returning; on a client port one that is finished or returning goes to the
-- client; any other is worked on again
abbrev pub landing : Component → Stream → WorkDone → CarriedHeader → Landing
landing c s done x =
    if not (is_tunnelled c x) && (is_finished c s done x || is_returning c x) then Noted
    else if is_finished c s done x && not (is_returning c x) then Onward
    else Again

-- ---- marks

-- the mark's target is this component
abbrev pub is_own : Component → Mark → Bool
is_own c mark = same_handle mark.target c.handle

-- a finished header's own mark is told, unless it is an output's in a returning port
abbrev pub tells_mark : Component → Stream → WorkDone → CarriedHeader → Bool
tells_mark c s done x = is_finished c s done x && (is_an_input c x || not (is_returning c x)) && holds_at x.header.mark (is_own c)

-- the mark of an input's finished header that isn't the component's own
abbrev pub carries_on : Component → Stream → WorkDone → CarriedHeader → Bool
carries_on c s done x = is_an_input c x && is_finished c s done x && holds_at x.header.mark (λ mark. not (is_own c mark))

-- the first of those, by port
abbrev pub mark_in : Component → Stream → WorkDone → List CarriedHeader → Option Mark
mark_in c s done [] = None
mark_in c s done (x ∷ headers) = if carries_on c s done x then x.header.mark else mark_in c s done headers

abbrev pub mark_on : Component → Stream → WorkDone → Option Mark
mark_on c s done = mark_in c s done done.headers

-- an output's header that goes on keeps another component's mark; else it gets the one that is carried on
abbrev pub mark_after : Component → Option Mark → Option Mark → Option Mark
mark_after c None mark = mark
mark_after c (Some own) mark = if is_own c own then mark else Some own

-- ---- what each header carries then

-- cleared: an input's that is finished or returning, and an output's that is returning or comes back from a step that failed
abbrev pub is_cleared : Component → Stream → WorkDone → CarriedHeader → Bool
is_cleared c s done x = is_returning c x || (if is_an_input c x then is_finished c s done x else is_some done.fault)

abbrev pub load_after : Component → Stream → WorkDone → CarriedHeader → Load
load_after c s done x =
    let load = load_in x.header in
    if is_cleared c s done x then unloaded load
    else if is_finished c s done x then record load { mark = mark_after c load.mark (mark_on c s done) }
    else load

-- ---- how the lists and the notes change

abbrev pub key_at : Component → CarriedHeader → PortKey
key_at c x = record { component = number_of c; port = x.port }

abbrev pub landed_at : Landing → Component → CarriedHeader → Load → List HeaderRecord → List HeaderRecord
landed_at Again c x load headers = put (key_at c x) TodoFront x.header.number (loaded load) headers
landed_at Onward c x load headers = put (key_at c x) DoneBack x.header.number (loaded load) headers
landed_at Noted c x load headers = changed x.header.number (λ r. given_to (owners.Notice (number_of c)) (loaded load r)) headers

-- one after another, by rising port
abbrev pub all_landed : Component → Stream → WorkDone → List CarriedHeader → List HeaderRecord → List HeaderRecord
all_landed c s done [] headers = headers
all_landed c s done (x ∷ xs) headers = all_landed c s done xs (landed_at (landing c s done x) c x (load_after c s done x) headers)

abbrev pub mark_note : Option Mark → List Note
mark_note None = []
mark_note (Some mark) = Told (events.Mark mark.value) ∷ []

abbrev pub landing_note : Landing → Component → CarriedHeader → List Note
landing_note Noted c x = done_note (is_an_input c x) x.header.number ∷ []
landing_note _ c x = []

-- a header's own mark comes just before the header
abbrev pub notes_of_header : Component → Stream → WorkDone → CarriedHeader → List Note
notes_of_header c s done x = (if tells_mark c s done x then mark_note x.header.mark else []) ++ landing_note (landing c s done x) c x

abbrev pub notes_of_headers : Component → Stream → WorkDone → List CarriedHeader → List Note
notes_of_headers c s done [] = []
notes_of_headers c s done (x ∷ xs) = notes_of_header c s done x ++ notes_of_headers c s done xs

abbrev pub error_of : PartFault → OmxError
error_of Read = errors.Hardware
error_of Write = errors.Hardware
error_of (Short at size) = errors.StreamCorrupt

abbrev pub fault_note : Option PartFault → List Note
fault_note None = []
fault_note (Some fault) = Told (events.Error (error_of fault)) ∷ []

-- a sink whose header with the stream's end is spent tells that flag
abbrev pub tells_end : Component → WorkDone → Bool
tells_end c done = is_sink c.settings.kind && is_none done.fault && list_any (is_last (terms_of c) 0) done.headers

abbrev pub end_note : Bool → List Note
end_note has_ended = if has_ended then Told (events.BufferFlag 0 1) ∷ [] else []

-- behind those of the headers the end of a sink's stream, and the fault
abbrev pub notes_after : Component → Stream → WorkDone → List Note
notes_after c s done = notes_of_headers c s done done.headers ++ end_note (tells_end c done) ++ fault_note done.fault

-- ---- the part

abbrev pub part_by : Component → Stream → WorkDone → Option PartFault → PartState
part_by c s done None = record c.part { ended_inputs = inputs_ended (terms_of c) 0 done.headers; ended = c.part.ended || ends_by c s done }
part_by c s done (Some fault) = record c.part { failed = true }

abbrev pub part_after : Component → Stream → WorkDone → PartState
part_after c s done = part_by c s done done.fault

abbrev pub gone_through : WorkDone → Stream → Stream
gone_through done s = record s { frames = s.frames + done.frames; written = s.written ++ done.took }

-- ---- an announcement

-- the output is held, and that its settings changed is told, unless it has the file's format by now
abbrev pub announced_at : Option Port → Component → Component
announced_at None c = c
announced_at (Some p) c =
    if same_format p.setting.definition.format (file_format c.file) then c
    else record (with_port p.key.port (record p.state { held = true }) c) { notes = c.notes ++ Told (events.PortSettingsChanged p.key.port) ∷ [] }

abbrev pub announced : Component → Component
announced c = announced_at (port_of c 0) (record c { work = None })

-- ---- finish

abbrev pub stepped_back : Component → Stream → WorkDone → Component
stepped_back c s done = record c { work = None; part = part_after c s done; notes = c.notes ++ notes_after c s done }

abbrev pub with_landed : ℕ → Component → WorkDone → Stream → World → World
with_landed i c done s w =
    record (with_stream (number_of c) (gone_through done) (with_component i (stepped_back c s done) w))
    { headers = all_landed c s done done.headers w.headers }

abbrev pub finished_by : ℕ → Component → WorkDone → Option Work → World → World
finished_by i c done None w = w
finished_by i c done (Some work) w =
    if work.announces then with_component i (announced c) w
    else changed_at (stream_of (number_of c) w) w (λ s. with_landed i c done s w)

-- the work of the component at the place comes back
abbrev pub finished : ℕ → Component → WorkDone → World → World
finished i c done w = finished_by i c done c.work w

-- It can't be refused: the component's work is out, by condition.
abbrev pub Finish : World → WorkDone → World → Type 0
Finish w done v = MatchOption (place_numbered done.component w.components) ⊥ (λ i. MatchOption (slice_get w.components i) ⊥ (λ c. ClosesTo (finished i c done w) v))
