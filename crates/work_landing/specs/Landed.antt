-- A work comes back: what becomes of its headers and of its component, in the machine's words.
use Rattle.std.specs.Prelude.{◌≡◌, ℕ, ◌+◌, ◌<◌, true, nat_lt, List, [], ◌∷◌, ◌++◌, length, Option, Some, None, MatchOption}
use Rattle.omx_types.specs.Formats.{frame_bytes_of}
use Rattle.il_machine.specs.declared.port.PortKey.{PortKey}
use Rattle.il_machine.specs.declared.header.HeaderState.{HeaderState}
use Rattle.il_machine.specs.declared.header.Owner.TheVariants as owners
use Rattle.il_machine.specs.declared.header.Queue.TheVariants.{Out}
use Rattle.il_machine.specs.declared.header.Spot.TheVariants.{TodoFront, DoneBack}
use Rattle.il_machine.specs.Lists.{holds_at}
use Rattle.il_machine.specs.Kinds.{is_source}
use Rattle.il_machine.specs.World.{Component, Load, Stream, port_of, number_of}
use Rattle.il_machine.specs.Ports.{is_joined, returning}
use Rattle.il_machine.specs.Parts.{frames_left, terms_of}
use Rattle.il_machine.specs.Claims.{CarriedHeader}
use Rattle.il_machine.specs.Stepping.{WorkDone, format_at}
use Rattle.il_machine.specs.Finishing.{Landing, Again, Onward, Noted, gone_through, is_an_input, key_at, landing, load_after}
use Rattle.il_machine.specs.Buffers.{Held}
use Rattle.il_machine.specs.Stock.{Stocked, header_given, pushed}
use Rattle.il_machine.specs.Whole.{Noticed}
use Rattle.header_core.specs.BufferHeader.{BufferHeader, is_clients}
use Rattle.port_stock.specs.Conditions.{IsMadeFor, IsOutside, IsPort}
use Rattle.work_landing.specs.declared.back.Way.{Way}
use Rattle.work_landing.specs.declared.step.Step.{Step}
use Rattle.work_landing.specs.Places.{EachFrom, carried, carried_from}

-- ---- how the component's ports take headers back

pub record IsWay (c : Component) (port : ℕ) (way : Way) : Type 0 where
  pub joined : holds_at (port_of c port) is_joined ≡ way.joined
  pub returning : holds_at (port_of c port) (returning c) ≡ way.returning
  pub input : nat_lt port (length (terms_of c).inputs) ≡ way.input
  pub frame : frame_bytes_of (format_at (terms_of c) port) ≡ way.frame

-- by rising port from this one on
abbrev pub AreWays : Component → ℕ → List Way → Type 0
AreWays c port [] = Unit {0}
AreWays c port (way ∷ ways) = IsWay c port way × AreWays c (port + 1) ways

-- ---- what comes back

-- the work as it comes back, by the bytes that the part's file took
abbrev pub done_by : ℕ → List (Option BufferHeader) → Step → List ℕ → WorkDone
done_by component places step took = record { component = component; frames = step.frames; fault = step.fault; headers = carried_from 0 places; took = took }

-- so many frames the file of a source still gives, once the step has gone through it
abbrev pub IsLeft : Component → Stream → WorkDone → Step → Type 0
IsLeft c s done step = is_source c.settings.kind ≡ true → step.left ≡ frames_left (terms_of c) (gone_through done s)

-- ---- where the headers land

abbrev pub landed_by : Landing → PortKey → ℕ → Load → Stocked → Stocked
landed_by Again key number load s = pushed key TodoFront number load s
landed_by Onward key number load s = pushed key DoneBack number load s
landed_by Noted key number load s = header_given number (owners.Notice key.component) s

abbrev pub landed_at : Component → Stream → WorkDone → CarriedHeader → Stocked → Stocked
landed_at c s done x k = landed_by (landing c s done x) (key_at c x) x.header.number (load_after c s done x) k

-- one after another, by rising port
abbrev pub all_landed : Component → Stream → WorkDone → List CarriedHeader → Stocked → Stocked
all_landed c s done [] k = k
all_landed c s done (x ∷ xs) k = all_landed c s done xs (landed_at c s done x k)

-- ---- the headers in notes

abbrev pub with_load : Load → BufferHeader → BufferHeader
with_load load h = record h { held = record h.held { content = load.content; flags = load.flags; mark = load.mark; memory = load.memory } }

abbrev pub noticed_as : BufferHeader → Noticed
noticed_as h = record { key = h.key; held = h.held; client_memory = is_clients h.store }

abbrev pub noticed_if : Landing → BufferHeader → List Noticed
noticed_if Noted h = noticed_as h ∷ []
noticed_if _ h = []

abbrev pub notices_at : Component → Stream → WorkDone → ℕ → Option BufferHeader → List Noticed
notices_at c s done port None = []
notices_at c s done port (Some h) = noticed_if (landing c s done (carried port h)) (with_load (load_after c s done (carried port h)) h)

-- those that go to the client, with what they carry then
abbrev pub all_notices : Component → Stream → WorkDone → ℕ → List (Option BufferHeader) → List Noticed
all_notices c s done port [] = []
all_notices c s done port (place ∷ places) = notices_at c s done port place ++ all_notices c s done (port + 1) places

-- ---- what is asked of the headers

abbrev pub key_of : ℕ → ℕ → PortKey
key_of component port = record { component = component; port = port }

-- the header is out and was made for its port
abbrev pub IsHomeless : ℕ → Stocked → ℕ → BufferHeader → Type 0
IsHomeless component s port h = IsPort (key_of component port) s × IsOutside h s × IsMadeFor (key_of component port) h s

abbrev pub AreHomeless : ℕ → ℕ → List (Option BufferHeader) → Stocked → Type 0
AreHomeless component port places s = EachFrom (IsHomeless component s) port places

-- no header is at a port that isn't one of so many
abbrev pub AreWithin : ℕ → ℕ → List (Option BufferHeader) → Type 0
AreWithin count port places = EachFrom (λ port h. port < count) port places

-- nothing is kept of what the header carries
abbrev pub AreUnkept : List (Option BufferHeader) → Stocked → Type 0
AreUnkept places s = EachFrom (λ port h. s.loads h.held.number ≡ None) 0 places
