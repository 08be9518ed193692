-- One step of a part: what a work that was claimed may come back as. It is said by the part's terms, the headers of the work and what went
-- through the part before, so that whoever holds the work can say it without a world.
use Rattle.std.specs.Prelude.{◌≡◌, ℕ, suc, zero, ◌+◌, ◌-◌, ◌*◌, ◌/◌, ◌≤◌, Bool, true, false, not, ◌&&◌, ◌||◌, nat_eq, nat_lt, List, [], ◌∷◌, ◌++◌, length, map, filter, take, drop, replicate, find, Option, Some, None, option_map, MatchOption, if◌then◌else◌, MatchBool}
use Rattle.std.specs.List.{list_all, list_any}
use Rattle.std.proofs.Math.ListN.{get_or}
use Rattle.omx_types.specs.declared.format.Format.{Format}
use Rattle.omx_types.specs.declared.format.Format.TheVariants.{Auto}
use Rattle.omx_types.specs.declared.kind.Kind.{Kind}
use Rattle.omx_types.specs.declared.fault.PartFault.{PartFault}
use Rattle.omx_types.specs.declared.fault.PartFault.TheVariants.{Read, Write, Short}
use Rattle.omx_types.specs.Formats.{frame_bytes_of}
use Rattle.part_api.specs.Streams.{Incoming}
use Rattle.part_api.specs.declared.attached.Attached.{Attached}
use Rattle.part_api.specs.declared.attached.Attached.TheVariants.{To}
use Rattle.part_api.specs.Terms.{Terms}
use Rattle.part_forms.specs.Shapes.{shape_of}
use Rattle.part_forms.specs.Sinking.{sink_text}
use Rattle.il_machine.specs.Lists.{is_empty, least, overwritten}
use Rattle.il_machine.specs.Kinds.{is_sink, is_source}
use Rattle.il_machine.specs.World.{Component, Stream, Work, World, stream_of}
use Rattle.il_machine.specs.Parts.{file_format, frames_left, bytes_given}
use Rattle.il_machine.specs.Buffers.{Held}
use Rattle.il_machine.specs.Components.{has_eos}
use Rattle.il_machine.specs.Claims.{CarriedHeader, carried, terms_in}

-- a work that comes back
pub record WorkDone : Type 0 where
  pub component : ℕ
  -- those of the step
  pub frames : ℕ
  pub fault : Option PartFault
  -- by rising port
  pub headers : List CarriedHeader
  -- the bytes that the part's file took
  pub took : List ℕ

-- ---- frames in headers

-- the format of the port; there is such a port
abbrev pub format_at : Terms → ℕ → Format
format_at t port = get_or (t.inputs ++ t.outputs) port Auto

-- the bytes of so many frames at the port
abbrev pub bytes_at : Terms → ℕ → ℕ → ℕ
bytes_at t port frames = frames * frame_bytes_of (format_at t port)

abbrev pub is_in : Terms → CarriedHeader → Bool
is_in t x = nat_lt x.port (length t.inputs)

-- the frames in the header
abbrev pub frames_in : Terms → CarriedHeader → ℕ
frames_in t x = length x.header.content / frame_bytes_of (format_at t x.port)

-- the frames for which the header has room
abbrev pub frames_for : Terms → CarriedHeader → ℕ
frames_for t x = x.header.size / frame_bytes_of (format_at t x.port)

-- an input's header that has no frames, once so many were taken
abbrev pub is_drained : Terms → ℕ → CarriedHeader → Bool
is_drained t frames x = is_in t x && nat_eq (frames_in t x - frames) 0

-- such a header with the flag of the stream's end
abbrev pub is_last : Terms → ℕ → CarriedHeader → Bool
is_last t frames x = is_drained t frames x && has_eos x.header.flags

-- ---- the frames of a step

-- the frames that are in an input's header, or for which an output's has room
abbrev pub frames_at : Terms → CarriedHeader → ℕ
frames_at t x = if is_in t x then frames_in t x else frames_for t x

-- of all headers but those that end their stream without a frame
abbrev pub all_frames_at : Terms → List CarriedHeader → List ℕ
all_frames_at t headers = map (frames_at t) (filter (λ x. not (is_last t 0 x)) headers)

-- some input still gives frames
abbrev pub has_input : Terms → List CarriedHeader → Bool
has_input t headers = list_any (λ x. is_in t x && not (is_last t 0 x)) headers

-- the least that all offer, for a source also its file; none where no input gives frames
abbrev pub step_frames : Terms → Stream → List CarriedHeader → ℕ
step_frames t s headers =
    if is_source t.kind then least (frames_left t s ∷ all_frames_at t headers)
    else if has_input t headers then least (all_frames_at t headers)
    else 0

-- ---- what comes in

abbrev pub zeros_at : Terms → ℕ → ℕ → List ℕ
zeros_at t port frames = replicate (bytes_at t port frames) 0

abbrev pub is_for_port : ℕ → CarriedHeader → Bool
is_for_port port x = nat_eq x.port port

abbrev pub front_of : Terms → ℕ → ℕ → Option CarriedHeader → List ℕ
front_of t port frames None = zeros_at t port frames
front_of t port frames (Some x) = if is_last t 0 x then zeros_at t port frames else take (bytes_at t port frames) x.header.content

-- the next frames of the port's header; zeros where the input has ended, or ends here
abbrev pub input_piece : Terms → ℕ → List CarriedHeader → ℕ → List ℕ
input_piece t frames headers port = front_of t port frames (find (is_for_port port) headers)

-- the frames of all inputs, and those that the file gave
abbrev pub incoming : Terms → ℕ → List CarriedHeader → List ℕ → Incoming
incoming t frames headers piece = record { input = input_piece t frames headers; file = piece }

-- the next bytes, so many and from that place on, of a file that tells them
abbrev pub IsTold : Option (List ℕ) → ℕ → ℕ → List ℕ → Type 0
IsTold None place count piece = length piece ≡ count
IsTold (Some known) place count piece = (length piece ≡ count) × (piece ≡ take count (drop place known))

-- a source's file gave its next frames; no other part reads
abbrev pub Gives : Terms → Stream → ℕ → List ℕ → Type 0
Gives t s frames piece = MatchBool (is_source t.kind) (IsTold s.known (bytes_given t s) (frames * frame_bytes_of (file_format t.file)) piece) (piece ≡ [])

-- ---- what goes out

-- what the port's output gets, by the part's plain function
abbrev pub made_at : Terms → Incoming → ℕ → List ℕ
made_at t came port = (shape_of t).plain came (port - length t.inputs)

abbrev pub emptied : ℕ → Held → Held
emptied bytes h = record h { content = drop bytes h.content }

-- the content stands at the front of the memory
abbrev pub filled : List ℕ → ℕ → Held → Held
filled content flags h = record h { content = content; flags = flags; memory = option_map (overwritten content) h.memory }

abbrev pub eos_flags : Bool → ℕ
eos_flags true = 1
eos_flags false = 0

-- an input's header loses the frames of the step; an output's has those that were made, and the flag of the end where the part is over
abbrev pub stepped : Terms → ℕ → Incoming → Bool → CarriedHeader → CarriedHeader
stepped t frames came over x = record x {
  header = if is_in t x then emptied (bytes_at t x.port frames) x.header else filled (made_at t came x.port) (eos_flags over) x.header;
}

-- ---- what ends

-- each header of the port is the last one: so it is too where the input has ended before, since then it gives none to a work
abbrev pub has_ended_by : Terms → ℕ → List CarriedHeader → ℕ → Bool
has_ended_by t frames headers port = list_all (λ x. not (is_for_port port x) || is_last t frames x) headers

abbrev pub ended_from : Terms → ℕ → List CarriedHeader → ℕ → ℕ → List Bool
ended_from t frames headers port zero = []
ended_from t frames headers port (suc count) = has_ended_by t frames headers port ∷ ended_from t frames headers (port + 1) count

-- which inputs have ended, once so many frames were taken
abbrev pub inputs_ended : Terms → ℕ → List CarriedHeader → List Bool
inputs_ended t frames headers = ended_from t frames headers 0 (length t.inputs)

-- all inputs have ended, or a source's file has no more frames
abbrev pub is_over : Terms → Stream → ℕ → List Bool → Bool
is_over t s frames ended = if is_source t.kind then nat_eq (frames_left t s - frames) 0 else list_all (λ input. input) ended

-- ---- what a sink writes

abbrev pub text_by : Option Attached → Format → Stream → ℕ → List ℕ → List ℕ
text_by (Some (To planned)) format s frames piece = sink_text (not (is_empty s.written)) format planned (planned - s.frames) frames piece
text_by _ format s frames piece = []

-- the head in its first step, and then the frames up to the planned number
abbrev pub text_of : Terms → Stream → ℕ → List CarriedHeader → List ℕ
text_of t s frames headers = if is_sink t.kind then text_by t.file (format_at t 0) s frames (input_piece t frames headers 0) else []

-- ---- a work and what comes back

-- The step was done: by its frames, with what the file gave.
abbrev pub IsWholeStep : Terms → Stream → List CarriedHeader → WorkDone → Type 0
IsWholeStep t s headers done =
    let frames = step_frames t s headers in
    let over = is_over t s frames (inputs_ended t frames headers) in
    (piece : List ℕ) × Gives t s frames piece × (done.frames ≡ frames)
    × (done.headers ≡ map (stepped t frames (incoming t frames headers piece) over) headers) × (done.took ≡ text_of t s frames headers)

-- a source's file fails to be read, a sink's to be written
abbrev pub is_fault_of : Kind → PartFault → Bool
is_fault_of kind Read = is_source kind
is_fault_of kind Write = is_sink kind
is_fault_of kind (Short at size) = is_source kind

abbrev pub IsFrontOf : List ℕ → List ℕ → Type 0
IsFrontOf whole front = (count : ℕ) × (count ≤ length whole) × (front ≡ take count whole)

-- The step failed: nothing was done with the headers, and the file took a front of what it would have.
abbrev pub IsBrokenStep : Terms → Stream → List CarriedHeader → PartFault → WorkDone → Type 0
IsBrokenStep t s headers fault done =
    (is_fault_of t.kind fault ≡ true) × (done.frames ≡ 0) × (done.headers ≡ headers)
    × IsFrontOf (text_of t s (step_frames t s headers) headers) done.took

abbrev pub IsStepBy : Option PartFault → Terms → Stream → List CarriedHeader → WorkDone → Type 0
IsStepBy None t s headers done = IsWholeStep t s headers done
IsStepBy (Some fault) t s headers done = IsBrokenStep t s headers fault done

-- What one step gives of a part of these terms, through which so much has gone, and of these headers.
abbrev pub IsStep : Terms → Stream → List CarriedHeader → WorkDone → Type 0
IsStep t s headers done = IsStepBy done.fault t s headers done

-- an announcement does no step
abbrev pub IsAnnounced : WorkDone → Type 0
IsAnnounced done = (done.frames ≡ 0) × (done.fault ≡ None) × (done.headers ≡ []) × (done.took ≡ [])

abbrev pub IsDoneBy : Bool → World → Component → Work → WorkDone → Type 0
IsDoneBy true w c work done = IsAnnounced done
IsDoneBy false w c work done =
    MatchOption (stream_of done.component w) ⊥ (λ s. IsStep (terms_in c work) s (carried w.headers work.headers) done)

-- The component's work comes back so.
abbrev pub IsDoneOf : World → Component → Work → WorkDone → Type 0
IsDoneOf w c work done = IsDoneBy work.announces w c work done
