-- What is kept of a trace stands for a moment, and each line leads from there to the next.
use Rattle.std.specs.Prelude.{◌≡◌, ℕ, Bool, true, false, suc, ◌<◌, ◌≤◌, All, List, [], ◌∷◌, map, position, slice_get, slice_set, Option, Some, None, option_map, IfSome, IsSome, IsSomeAnd, MatchOption, Result}
use Rattle.omx_types.specs.declared.handle.Handle.{Handle}
use Rattle.omx_types.specs.declared.state.State.TheVariants as states
use Rattle.omx_types.specs.declared.error.OmxError.{OmxError}
use Rattle.omx_types.specs.declared.command.Note.{Note}
use Rattle.omx_types.specs.declared.command.Note.TheVariants.{Told, EmptyDone, FillDone}
use Rattle.il_machine.specs.Components.{has_eos}
use Rattle.il_machine.specs.Notes.{Took}
use Rattle.il_machine.specs.declared.answer.Acted.{Acted}
use Rattle.il_machine.specs.declared.answer.Acted.TheVariants as acted
use Rattle.il_machine.specs.declared.answer.Progress.{Progress}
use Rattle.il_machine.specs.declared.header.Home.TheVariants as homes
use Rattle.il_machine.specs.declared.header.HeaderState.{HeaderState}
use Rattle.il_machine.specs.World.{Component, World}
use Rattle.il_machine.specs.Headers.{is_for}
use Rattle.il_machine.specs.Buffers.{Held, IsWithClient}
use Rattle.il_machine.specs.Trails.{key_of}
use Rattle.il_machine.specs.Look.{Look, look}
use Rattle.il_machine.specs.Sound.{Sound}
use Rattle.il_machine.specs.Due.{first_due}
use Rattle.il_machine.specs.Whole.{Kept, Stands}
use Rattle.il_machine.specs.Acts.{Act, Reply}
use Rattle.il_machine.specs.Run.{Step, Run}
use Rattle.header_core.specs.BufferHeader.{BufferHeader}
use Rattle.note_queues.specs.declared.taken.Taken.{Taken}
use Rattle.note_queues.specs.declared.taken.Taken.TheVariants as notes
use Rattle.graph_core.specs.Changes.{IsHandedIn}
use Rattle.il_graph.specs.Shown.{Shown, kept}
use Rattle.il_graph.specs.NoFiles.{NoFile}
use Rattle.act_text.specs.declared.act.TextAct.{TextAct}
use Rattle.act_text.specs.declared.act.TextAct.TheVariants as lines
use Rattle.act_text.specs.declared.reply.TextReply.{TextReply}
use Rattle.act_text.specs.declared.reply.TextReply.TheVariants as texts
use Rattle.script_lang.specs.declared.form.TraceForm.{TraceForm}
use Rattle.script_lang.specs.declared.form.TraceForm.TheVariants as forms
use Rattle.trace_run.specs.declared.names.NamedComponent.{NamedComponent}
use Rattle.trace_run.specs.declared.slots.Slot.{Slot}
use Rattle.trace_run.specs.declared.reply.LineAnswer.{LineAnswer}
use Rattle.trace_run.specs.declared.reply.LineAnswer.TheVariants as answers
use Rattle.trace_run.specs.Naming.{Moment, Names, NamedHeader, component_name, is_named, is_numbered, after_taking}
use Rattle.trace_run.specs.Asking.{asked}
use Rattle.trace_run.specs.Replying.{LineReply, Plain, Emptied, Filled, printed, named_why}
use Rattle.trace_run.specs.Lines.{Entry, Takes, Answered}

-- what is kept of the graph, and the components and headers that were made
pub record Parts : Type 0 where
  pub graph : Kept
  pub components : List NamedComponent
  pub slots : List Slot

-- a client of the trace is its progress
abbrev pub client_progress : Progress → Progress
client_progress client = client

-- of a graph without files
abbrev pub GraphShown : Type 0
GraphShown = Shown NoFile NoFile Progress

abbrev pub graph_kept : GraphShown → Kept
graph_kept graph = kept client_progress graph

abbrev pub parts : GraphShown → List NamedComponent → List Slot → Parts
parts graph components slots = record { graph = graph_kept graph; components = components; slots = slots }

abbrev pub held_as : BufferHeader → Held
held_as header = header.held

abbrev pub as_header : Slot → NamedHeader
as_header slot = record { name = slot.name; number = slot.number; hand = option_map held_as slot.hand }

abbrev pub names_in : List NamedComponent → List Slot → Names
names_in components slots = record { components = components; headers = map as_header slots }

-- ---- slots

abbrev pub slot_named : List ℕ → Slot → Bool
slot_named name slot = is_named name (as_header slot)

abbrev pub slot_numbered : ℕ → Slot → Bool
slot_numbered number slot = is_numbered number (as_header slot)

abbrev pub holding : Option BufferHeader → Slot → Slot
holding hand slot = record slot { hand = hand }

-- the slot at the place has that in its hand, and the others are as they were
abbrev pub Rehanded : ℕ → Option BufferHeader → List Slot → List Slot → Type 0
Rehanded place hand old new = MatchOption (slice_get old place) ⊥ (λ slot. new ≡ slice_set old place (holding hand slot))

-- the slot at the place has nothing in its hand
abbrev pub HasEmptyHand : ℕ → List Slot → Type 0
HasEmptyHand place slots = IfSome (slice_get slots place) (λ slot. slot.hand ≡ None)

-- the headers' numbers rise, and all are below the next one
abbrev pub AreRising : ℕ → List Slot → ℕ → Type 0
AreRising from [] next = from ≤ next
AreRising from (slot ∷ slots) next = (from ≤ slot.number) × AreRising (suc slot.number) slots next

-- a header in hand is the slot's, and it may be handed in
abbrev pub IsHand : Look → Slot → Type 0
IsHand l slot = IfSome slot.hand (λ header. (header.held.number ≡ slot.number) × IsHandedIn header l)

pub record Hands (slots : List Slot) (l : Look) : Type 0 where
  pub rising : AreRising 0 slots l.made
  pub each : (place : ℕ) (slot : Slot) → slice_get slots place ≡ Some slot → IsHand l slot

-- ---- a moment

-- each component that was made has a name
abbrev pub AreNamed : List NamedComponent → ℕ → Type 0
AreNamed components numbered = (number : ℕ) → number < numbered → IsSome (component_name components number)

-- each header that was made for the client has a slot
abbrev pub HaveSlots : List Slot → Look → Type 0
HaveSlots slots l = (number : ℕ) (s : HeaderState) → l.headers.header number ≡ Some s → s.home ≡ homes.Client → IsSome (position (slot_numbered number) slots)

-- nothing is due
abbrev pub IsAtRest : Kept → Type 0
IsAtRest graph = first_due graph.looks ≡ None

-- ---- what the end of a trace needs

-- a line was given the handle
abbrev pub IsNamed : List NamedComponent → Handle → Type 0
IsNamed components h = (place : ℕ) × IsSomeAnd (slice_get components place) (λ entry. entry.handle ≡ h)

-- Its client object is in, a line was given its handle, and where it is Invalid nothing is pending.
abbrev pub IsSeated : List NamedComponent → Component → Type 0
IsSeated components c = ((c.client_out ≡ false) × IsNamed components c.handle) × (c.state ≡ states.Invalid → c.pending ≡ None)

-- the handles that lines were given have numbers of their own, below the next one
pub record HaveOwnNumbers (components : List NamedComponent) (numbered : ℕ) : Type 0 where
  pub below : (place : ℕ) (entry : NamedComponent) → slice_get components place ≡ Some entry → entry.handle.generation < numbered
  pub one : (i j : ℕ) (a b : NamedComponent) → slice_get components i ≡ Some a → slice_get components j ≡ Some b → a.handle.generation ≡ b.handle.generation → a.handle ≡ b.handle

-- The header of the slot was made for its port. Where it isn't in hand the client doesn't have it.
pub record IsOfPort (components : List NamedComponent) (l : Look) (slot : Slot) : Type 0 where
  pub named : IsNamed components slot.port.handle
  pub made_for : (s : HeaderState) → l.headers.header slot.number ≡ Some s → is_for (key_of slot.port.handle slot.port.index) s ≡ true
  pub away : slot.hand ≡ None → ¬ (IsWithClient slot.number l)

abbrev pub AreOfPorts : List NamedComponent → Look → List Slot → Type 0
AreOfPorts components l slots = (place : ℕ) (slot : Slot) → slice_get slots place ≡ Some slot → IsOfPort components l slot

-- each component is seated, and each slot's header was made for its port
pub record CanEnd (kept : Parts) : Type 0 where
  pub seated : All (IsSeated kept.components) kept.graph.looks.components
  pub apart : HaveOwnNumbers kept.components kept.graph.looks.numbered
  pub slots : AreOfPorts kept.components kept.graph.looks kept.slots

-- what is kept stands for this moment
pub record IsMoment (kept : Parts) (at : Moment) : Type 0 where
  pub world : Stands kept.graph at.world
  pub rests : IsAtRest kept.graph
  pub names : at.names ≡ names_in kept.components kept.slots
  pub sound : Sound at.world
  pub named : AreNamed kept.components at.world.numbered
  pub known : HaveSlots kept.slots (look at.world)
  pub hands : Hands kept.slots kept.graph.looks
  pub ends : CanEnd kept

-- it stands for some moment
pub record HasMoment (kept : Parts) : Type 0 where
  pub at : Moment
  pub stood : IsMoment kept at

-- From each moment that was stood for, the line leads to one that is stood for now.
abbrev pub Leads : Parts → Parts → TraceForm → LineReply → Type 0
Leads old new form reply = (at : Moment) → IsMoment old at → (next : Moment) × IsMoment new next × Answered at form reply next

-- what an answer means, with what the slots have after the line's acts
abbrev pub Means : List Slot → LineAnswer → LineReply → Type 0
Means slots (answers.Plain said) reply = reply ≡ Plain said
Means slots (answers.Emptied place) reply = IsSomeAnd (slice_get slots place) (λ slot. reply ≡ Emptied slot.name)
Means slots (answers.Filled place) reply = IsSomeAnd (slice_get slots place) (λ slot.
    IsSomeAnd slot.hand (λ header. reply ≡ Filled slot.name header.held.content (has_eos header.held.flags)))

abbrev pub IsMeant : List Slot → LineAnswer → Type 0
IsMeant slots answer = (reply : LineReply) × Means slots answer reply

abbrev pub LeadsTo : Parts → Parts → TraceForm → LineAnswer → Type 0
LeadsTo old new form answer = (reply : LineReply) × Means new.slots answer reply × Leads old new form reply

-- The oldest note is taken, and the client object goes back.
pub record TakenSo (at : Moment) (h : Handle) (reply : LineReply) (next : Moment) : Type 0 where
  pub result : Result Took OmxError
  pub progress : Progress
  pub entries : List Entry
  pub takes : Takes at.names h result progress entries reply
  pub names : next.names ≡ after_taking result at.names
  pub run : Run at.world entries next.world

abbrev pub TakeLeads : Parts → Parts → Handle → LineAnswer → Type 0
TakeLeads old new h answer = (reply : LineReply) × Means new.slots answer reply
    × ((at : Moment) → IsMoment old at → (next : Moment) × IsMoment new next × TakenSo at h reply next)

-- the note as the machine queued it
abbrev pub machine_note : Taken → Note
machine_note (notes.Told event) = Told event
machine_note (notes.EmptyDone header) = EmptyDone header.held.number
machine_note (notes.FillDone header) = FillDone header.held.number

-- the header of the number has a slot, with nothing in its hand
abbrev pub HasEmptySlot : ℕ → List Slot → Type 0
HasEmptySlot number slots = IsSomeAnd (position (slot_numbered number) slots) (λ place. HasEmptyHand place slots)

-- the header in the note has one
abbrev pub HasSlotFor : List Slot → Taken → Type 0
HasSlotFor slots (notes.Told event) = Unit {0}
HasSlotFor slots (notes.EmptyDone header) = HasEmptySlot header.held.number slots
HasSlotFor slots (notes.FillDone header) = HasEmptySlot header.held.number slots

-- The header that came back is in the hand of its slot, at the place.
abbrev pub KeptAt : BufferHeader → ℕ → List Slot → List Slot → Type 0
KeptAt header place old new = (position (slot_numbered header.held.number) old ≡ Some place) × Rehanded place (Some header) old new

-- the note is answered so, and its header is kept
abbrev pub KeptSo : Taken → List Slot → List Slot → LineAnswer → Type 0
KeptSo (notes.Told event) old new answer = (new ≡ old) × (answer ≡ answers.Plain (texts.Event event))
KeptSo (notes.EmptyDone header) old new answer = (place : ℕ) × KeptAt header place old new × (answer ≡ answers.Emptied place)
KeptSo (notes.FillDone header) old new answer = (place : ℕ) × KeptAt header place old new × (answer ≡ answers.Filled place)

-- with some names of components it stands for a moment
abbrev pub HasNamesFor : Kept → List Slot → Type 0
HasNamesFor graph slots = (components : List NamedComponent) × HasMoment (record { graph = graph; components = components; slots = slots })

abbrev pub NamesHeader : TraceForm → Type 0
NamesHeader (forms.Act act) = ⊥
NamesHeader (forms.Get component kind) = ⊥
NamesHeader other = Unit {0}

-- the line takes a header out of the client's hand
abbrev pub TakesHeader : TraceForm → Type 0
TakesHeader (forms.FreeBuf header port) = Unit {0}
TakesHeader (forms.Etb header port bytes eos) = Unit {0}
TakesHeader (forms.Ftb header port) = Unit {0}
TakesHeader other = ⊥

-- ---- an act that makes nothing and hands nothing in

-- a sound world that is stood for, in which nothing is due and each component has a name
pub record IsNamedGraph (graph : Kept) (components : List NamedComponent) : Type 0 where
  pub rests : IsAtRest graph
  pub world : World
  pub stands : Stands graph world
  pub sound : Sound world
  pub named : AreNamed components world.numbered

-- the ports of the answer have names
abbrev pub IsNamedAnswer : List NamedComponent → Acted → Type 0
IsNamedAnswer components acted.Did = Unit {0}
IsNamedAnswer components (acted.Idle why) = IsSome (named_why components why)

-- the act is answered, and the answer is printed so, whatever headers there are
pub record Replied (components : List NamedComponent) (a : Act) (reply : TextReply) (w v : World) : Type 0 where
  pub answer : Reply
  pub step : Step w a answer v
  pub prints : (headers : List NamedHeader) → printed (record { components = components; headers = headers }) answer ≡ Some (Plain reply)

abbrev pub moment_of : World → List NamedComponent → List NamedHeader → Moment
moment_of w components headers = record { world = w; names = record { components = components; headers = headers } }

-- the act that the line asks for is answered so
abbrev pub AskReplied : List NamedComponent → List NamedHeader → TextAct → TextReply → World → World → Type 0
AskReplied components headers act reply w v = Replied components (asked (moment_of w components headers) act) reply w v

-- the line makes one act, takes no note, and moves no work
abbrev pub IsPlain : TextAct → Type 0
IsPlain (lines.Claim component) = ⊥
IsPlain (lines.Finish component) = ⊥
IsPlain (lines.Take component) = ⊥
IsPlain (lines.End component) = ⊥
IsPlain other = Unit {0}

-- the line sets a parameter or a config
abbrev pub IsSetting : TextAct → Type 0
IsSetting (lines.SetPort port format count size) = Unit {0}
IsSetting (lines.SetSupplier port supplier) = Unit {0}
IsSetting (lines.SetPriority component priority) = Unit {0}
IsSetting (lines.Gain component gain) = Unit {0}
IsSetting (lines.Weight port weight) = Unit {0}
IsSetting other = ⊥

-- the line makes or drops a tunnel
abbrev pub IsTunneling : TextAct → Type 0
IsTunneling (lines.Tunnel first second) = Unit {0}
IsTunneling (lines.DropTunnel first second) = Unit {0}
IsTunneling other = ⊥

-- the line sends a command
abbrev pub IsSending : TextAct → Type 0
IsSending (lines.SendState component state) = Unit {0}
IsSending (lines.SendFlush component ports) = Unit {0}
IsSending (lines.SendDisable component ports) = Unit {0}
IsSending (lines.SendEnable component ports) = Unit {0}
IsSending (lines.SendMark component port target value) = Unit {0}
IsSending other = ⊥
