-- How one header of a work comes back, and then all of them: where each lands, what it carries then, and what is told of it.
use Rattle.std.specs.Prelude.{◌≡◌, ℕ, ◌+◌, ◌*◌, ◌/◌, ◌-◌, ◌<◌, ◌≤◌, Bool, true, false, not, ◌&&◌, ◌||◌, nat_eq, nat_lt, is_none, is_some, length, List, [], ◌∷◌, ◌++◌, Option, Some, None, if◌then◌else◌}
use Rattle.omx_types.specs.declared.handle.Handle.{Handle}
use Rattle.std.specs.List.{list_all}
use Rattle.omx_types.specs.declared.command.Note.{Note}
use Rattle.omx_types.specs.declared.fault.PartFault.{PartFault}
use Rattle.omx_types.specs.declared.kind.Kind.{Kind}
use Rattle.il_machine.specs.declared.port.Mark.{Mark}
use Rattle.il_machine.specs.declared.port.PortKey.{PortKey}
use Rattle.il_machine.specs.declared.header.Owner.TheVariants as owners
use Rattle.il_machine.specs.declared.header.Spot.TheVariants.{TodoFront, DoneBack}
use Rattle.il_machine.specs.Lists.{holds_at}
use Rattle.il_machine.specs.Kinds.{is_sink, is_source, ports_in}
use Rattle.il_machine.specs.World.{Component, PartState, same_handle}
use Rattle.il_machine.specs.Buffers.{load_in}
use Rattle.il_machine.specs.Census.{note_numbers}
use Rattle.il_machine.specs.Components.{has_eos}
use Rattle.il_machine.specs.Flow.{done_note}
use Rattle.il_machine.specs.Room.{room}
use Rattle.il_machine.specs.Finishing.{Landing, Again, Onward, Noted, mark_note}
use Rattle.il_machine.specs.Stock.{Stocked, header_given, pushed}
use Rattle.il_machine.specs.Whole.{Noticed}
use Rattle.header_core.specs.BufferHeader.{BufferHeader, cleared, with_mark}
use Rattle.port_stock.specs.Conditions.{IsMadeFor, IsOutside, IsPort}
use Rattle.il_component.specs.Entries.{Entry, component_of, held_in, noticed_of}
use Rattle.work_landing.specs.declared.back.Back.{Back}
use Rattle.work_landing.specs.declared.back.Known.{Known}
use Rattle.work_landing.specs.declared.back.Way.{Way}
use Rattle.work_landing.specs.declared.step.Step.{Step}
use Rattle.work_landing.specs.Places.{AreFree}

-- ---- what a component is told

-- it has these notes more, with these headers in them
pub record GetsNotes {C : Type 0} (old new : Entry C) (more : List Note) (noticed : List Noticed) : Type 0 where
  pub component : component_of new ≡ record (component_of old) { notes = (component_of old).notes ++ more }
  pub client : new.queues.client ≡ old.queues.client
  pub headers : held_in new.queues.notes ≡ held_in old.queues.notes ++ noticed

-- ---- one header

abbrev pub landing_by : Back → Landing
landing_by b = if not b.joined && (b.finished || b.returning) then Noted else if b.finished && not b.returning then Onward else Again

abbrev pub is_own_of : Handle → Mark → Bool
is_own_of component mark = same_handle mark.target component

abbrev pub tells_by : Handle → Back → Option Mark → Bool
tells_by component b mark = b.finished && (b.input || not b.returning) && holds_at mark (is_own_of component)

abbrev pub cleared_by : Back → Bool
cleared_by b = b.returning || (if b.input then b.finished else b.failed)

abbrev pub mark_by : Handle → Option Mark → Option Mark → Option Mark
mark_by component None mark = mark
mark_by component (Some own) mark = if is_own_of component own then mark else Some own

-- the header with what it carries then
abbrev pub settled : Handle → Option Mark → Back → BufferHeader → BufferHeader
settled component mark b h = if cleared_by b then cleared h else if b.finished then with_mark (mark_by component h.held.mark mark) h else h

abbrev pub put_by : Landing → PortKey → BufferHeader → Stocked → Stocked
put_by Again key h s = pushed key TodoFront h.held.number (load_in h.held) s
put_by Onward key h s = pushed key DoneBack h.held.number (load_in h.held) s
put_by Noted key h s = header_given h.held.number (owners.Notice key.component) s

abbrev pub told_by : Handle → Back → Option Mark → List Note
told_by component b mark = if tells_by component b mark then mark_note mark else []

abbrev pub noted_by : Landing → Bool → BufferHeader → List Note
noted_by Noted input h = done_note input h.held.number ∷ []
noted_by _ input h = []

abbrev pub noticed_by : Landing → BufferHeader → List Noticed
noticed_by Noted h = noticed_of h ∷ []
noticed_by _ h = []

-- the header's own mark comes just before the header
abbrev pub notes_by : Handle → Option Mark → Back → BufferHeader → List Note
notes_by component mark b h = told_by component b h.held.mark ++ noted_by (landing_by b) b.input (settled component mark b h)

-- ---- all headers of a work

abbrev pub back_at : Known → Way → BufferHeader → Back
back_at k way h = record {
  input = way.input;
  finished = not k.failed && (if way.input then nat_eq (length h.held.content / way.frame - 0) 0 else k.filled);
  returning = way.returning;
  joined = way.joined;
  failed = k.failed;
}

abbrev pub port_of : Handle → ℕ → PortKey
port_of component port = record { component = component.generation; port = port }

abbrev pub put_at : Known → ℕ → Way → Option BufferHeader → Stocked → Stocked
put_at k port way None s = s
put_at k port way (Some h) s = put_by (landing_by (back_at k way h)) (port_of k.component port) (settled k.component k.mark (back_at k way h) h) s

abbrev pub notes_at : Known → Way → Option BufferHeader → List Note
notes_at k way None = []
notes_at k way (Some h) = notes_by k.component k.mark (back_at k way h) h

abbrev pub noticed_at : Known → Way → Option BufferHeader → List Noticed
noticed_at k way None = []
noticed_at k way (Some h) = noticed_by (landing_by (back_at k way h)) (settled k.component k.mark (back_at k way h) h)

-- one after another, by rising port
abbrev pub all_put : Known → ℕ → List Way → List (Option BufferHeader) → Stocked → Stocked
all_put k port [] places s = s
all_put k port (way ∷ ways) [] s = s
all_put k port (way ∷ ways) (place ∷ places) s = all_put k (port + 1) ways places (put_at k port way place s)

abbrev pub all_notes : Known → List Way → List (Option BufferHeader) → List Note
all_notes k [] places = []
all_notes k (way ∷ ways) [] = []
all_notes k (way ∷ ways) (place ∷ places) = notes_at k way place ++ all_notes k ways places

abbrev pub all_noticed : Known → List Way → List (Option BufferHeader) → List Noticed
all_noticed k [] places = []
all_noticed k (way ∷ ways) [] = []
all_noticed k (way ∷ ways) (place ∷ places) = noticed_at k way place ++ all_noticed k ways places

abbrev pub with_notes : List Note → Component → Component
with_notes notes c = record c { notes = c.notes ++ notes }

-- the component has places for so many header notes
abbrev pub HasNotePlaces : Component → List Note → Type 0
HasNotePlaces c notes = length (note_numbers c.notes) + length (note_numbers notes) ≤ 32 * ports_in c.settings.kind

abbrev pub CanLandAt : PortKey → Known → Way → Option BufferHeader → Stocked → Component → Type 0
CanLandAt key k way None s c = Unit {0}
CanLandAt key k way (Some h) s c =
    IsPort key s × IsOutside h s × IsMadeFor key h s × (0 < room c) × HasNotePlaces c (notes_by k.component k.mark (back_at k way h) h)

-- each header is out and was made for its port, and there is a place for what is told of it
abbrev pub AllCanLand : Known → ℕ → List Way → List (Option BufferHeader) → Stocked → Component → Type 0
AllCanLand k port [] places s c = AreFree places
AllCanLand k port (way ∷ ways) [] s c = Unit {0}
AllCanLand k port (way ∷ ways) (place ∷ places) s c =
    CanLandAt (port_of k.component port) k way place s c
    × AllCanLand k (port + 1) ways places (put_at k port way place s) (with_notes (notes_at k way place) c)

-- ---- the mark that is carried on

abbrev pub carries_by : Way → Bool → Handle → BufferHeader → Bool
carries_by way failed component h =
    way.input && (not failed && nat_eq (length h.held.content / way.frame - 0) 0) && holds_at h.held.mark (λ mark. not (is_own_of component mark))

abbrev pub first_mark : Way → Bool → Handle → Option BufferHeader → Option Mark → Option Mark
first_mark way failed component None rest = rest
first_mark way failed component (Some h) rest = if carries_by way failed component h then h.held.mark else rest

-- that of the first input's header that is spent and has another component's mark
abbrev pub mark_from : List Way → Bool → Handle → List (Option BufferHeader) → Option Mark
mark_from [] failed component places = None
mark_from (way ∷ ways) failed component [] = None
mark_from (way ∷ ways) failed component (place ∷ places) = first_mark way failed component place (mark_from ways failed component places)

-- ---- what ends

abbrev pub drained_by : Way → BufferHeader → Bool
drained_by way h = way.input && nat_eq (length h.held.content / way.frame - 0) 0

-- an input's header without a frame, with the flag of the stream's end
abbrev pub last_by : Way → BufferHeader → Bool
last_by way h = drained_by way h && has_eos h.held.flags

-- the port's header, if it has one, is its last
abbrev pub last_at : Way → Option BufferHeader → Bool
last_at way None = true
last_at way (Some h) = last_by way h

-- of each input whether it has ended by now
abbrev pub ended_by : List Way → List (Option BufferHeader) → List Bool
ended_by [] places = []
ended_by (way ∷ ways) [] = []
ended_by (way ∷ ways) (place ∷ places) = if way.input then last_at way place ∷ ended_by ways places else []

abbrev pub is_last_at : Way → Option BufferHeader → Bool
is_last_at way None = false
is_last_at way (Some h) = last_by way h

-- some header is the last one of its input
abbrev pub has_last : List Way → List (Option BufferHeader) → Bool
has_last [] places = false
has_last (way ∷ ways) [] = false
has_last (way ∷ ways) (place ∷ places) = is_last_at way place || has_last ways places

-- ---- what is known of the step

abbrev pub over_by : Kind → List Way → List (Option BufferHeader) → Step → Bool
over_by kind ways places step = is_none step.fault && (if is_source kind then nat_eq step.left 0 else list_all (λ input. input) (ended_by ways places))

abbrev pub ends_by : Kind → List Way → List (Option BufferHeader) → Step → Bool
ends_by kind ways places step = is_sink kind && is_none step.fault && has_last ways places

abbrev pub known_by : Handle → Bool → List Way → List (Option BufferHeader) → Step → Known
known_by component over ways places step = record {
  component = component;
  failed = is_some step.fault;
  filled = nat_lt 0 step.frames || over;
  mark = mark_from ways (is_some step.fault) component places;
}

-- ---- the part

abbrev pub part_by : Option PartFault → List Bool → Bool → PartState → PartState
part_by None ended over part = record part { ended_inputs = ended; ended = part.ended || over }
part_by (Some fault) ended over part = record part { failed = true }
