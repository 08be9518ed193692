-- What one step does with the headers of a work, header by header.
use Rattle.std.specs.Prelude.{◌≡◌, ℕ, ◌+◌, ◌-◌, min, Bool, true, false, not, ◌&&◌, ◌||◌, nat_eq, nat_lt, List, [], ◌∷◌, length, take, Option, Some, None, option_map, if◌then◌else◌}
use Rattle.std.specs.List.{list_all}
use Rattle.std.specs.Io.KnownBytes.{append_known}
use Rattle.part_api.specs.Streams.{Incoming, Shape, silence, sizes_of, with_file, with_input}
use Rattle.part_api.specs.Steps.{ComesFirst, TookFront}
use Rattle.part_api.specs.Terms.{Terms, Writing, begun, written}
use Rattle.il_machine.specs.Lists.{least}
use Rattle.il_machine.specs.Claims.{CarriedHeader}
use Rattle.il_machine.specs.Whole.{PartSeen}
use Rattle.il_machine.specs.Kinds.{is_source}
use Rattle.il_machine.specs.Parts.{frames_left}
use Rattle.il_machine.specs.World.{Stream}
use Rattle.il_machine.specs.Stepping.{all_frames_at, bytes_at, eos_flags, has_input, is_in, is_last}
use Rattle.header_core.specs.BufferHeader.{BufferHeader, advanced, filled}
use Rattle.il_flow.specs.Places.{carried, changed_from}

-- the frames that the file of a source still gives, none for any other part
abbrev pub IsLeft : Option ℕ → Terms → Stream → Type 0
IsLeft None t s = is_source t.kind ≡ false
IsLeft (Some left) t s = (is_source t.kind ≡ true) × (left ≡ frames_left t s)

-- the frames of a step, by those that the file of a source still gives
abbrev pub frames_by : Option ℕ → Terms → List CarriedHeader → ℕ
frames_by None t headers = if has_input t headers then least (all_frames_at t headers) else 0
frames_by (Some left) t headers = least (left ∷ all_frames_at t headers)

abbrev pub over_by : Option ℕ → Terms → ℕ → List CarriedHeader → Bool
over_by None t frames headers = list_all (λ x. not (is_in t x) || is_last t frames x) headers
over_by (Some left) t frames headers = nat_eq (left - frames) 0

abbrev pub lower_of : Option ℕ → ℕ → ℕ
lower_of None n = n
lower_of (Some least) n = min least n

-- the least of the numbers and of the one before, if there is one
abbrev pub lowest : Option ℕ → List ℕ → Option ℕ
lowest least [] = least
lowest least (n ∷ ns) = lowest (Some (lower_of least n)) ns

-- ---- what comes in

-- an input's header with frames gives so many
abbrev pub taken_at : Terms → ℕ → ℕ → BufferHeader → Incoming → Incoming
taken_at t frames port h incoming =
    if is_in t (carried port h) && not (is_last t 0 (carried port h)) then with_input port (take (bytes_at t port frames) h.held.content) incoming else incoming

abbrev pub taken_by : Terms → ℕ → ℕ → Option BufferHeader → Incoming → Incoming
taken_by t frames port None incoming = incoming
taken_by t frames port (Some h) incoming = taken_at t frames port h incoming

abbrev pub taken_from : Terms → ℕ → ℕ → List (Option BufferHeader) → Incoming → Incoming
taken_from t frames port [] incoming = incoming
taken_from t frames port (place ∷ places) incoming = taken_from t frames (port + 1) places (taken_by t frames port place incoming)

-- ---- what goes out

-- an input's header loses the frames of the step, an output's gets what the part makes of what came
abbrev pub stepped_header : Terms → Shape → ℕ → Incoming → Bool → ℕ → BufferHeader → BufferHeader
stepped_header t shape frames came over port h =
    if nat_lt port (length t.inputs) then advanced (bytes_at t port frames) h else filled (shape.plain came (port - length t.inputs)) (eos_flags over) h

-- ---- the step

abbrev pub shown : Option ℕ → Option (List ℕ) → Option (List ℕ) → Option Writing → PartSeen
shown left rest kept writing = record { left = left; rest = rest; kept = kept; writing = writing }

-- what came into the part, but for what it reads
abbrev pub came_in : Terms → Shape → ℕ → List (Option BufferHeader) → Incoming
came_in t shape frames places = taken_from t frames 0 places (silence (sizes_of shape frames))

-- a part that showed the one and then shows the other did a step, in which its file took the text
pub record WasDone (t : Terms) (shape : Shape) (frames : ℕ) (over : Bool) (old new : PartSeen) (text : List ℕ) (carries : Incoming → Type 0)
    (before after : List (Option BufferHeader)) : Type 0 where
  pub piece : List ℕ
  pub carried : carries (with_file piece (came_in t shape frames before))
  pub read : ComesFirst piece old.rest new.rest
  pub left : new.left ≡ option_map (λ there. there - frames) old.left
  pub kept : new.kept ≡ append_known old.kept text
  pub writing : new.writing ≡ written (begun frames old.writing)
  pub headers : after ≡ changed_from (stepped_header t shape frames (with_file piece (came_in t shape frames before)) over) 0 before

-- it failed in a step in which its file was to take the text
pub record WasBroken (old new : PartSeen) (text : List ℕ) : Type 0 where
  pub front : TookFront old.kept new.kept text
  pub left : new.left ≡ old.left
