-- How a trace ends: the notes are taken, each component is Invalid, and each header in hand is freed.
use Rattle.std.specs.Prelude.{◌≡◌, ◌⊎◌, ℕ, Bool, true, false, List, All, length, slice_get, None, option_map, unwrap_or, IfSome, IsSome, IsSomeAnd, MatchOption, Ok}
use Rattle.omx_types.specs.declared.handle.Handle.{Handle}
use Rattle.omx_types.specs.declared.state.State.TheVariants as states
use Rattle.omx_types.specs.declared.command.Command.TheVariants.{StateSet}
use Rattle.il_machine.specs.World.{World, port_of}
use Rattle.il_machine.specs.Look.{Look}
use Rattle.il_machine.specs.Answers.{component_named}
use Rattle.il_machine.specs.Buffers.{AtState, IsWithClient, FreeBuffer, free_buffer_refusal}
use Rattle.il_machine.specs.Commands.{SendCommand}
use Rattle.il_machine.specs.Sound.{Sound}
use Rattle.il_machine.specs.Whole.{Kept, Stands, Steps}
use Rattle.graph_core.specs.Changes.{IsHandedIn}
use Rattle.act_text.specs.declared.reply.TextReply.{TextReply}
use Rattle.act_text.specs.declared.reply.TextReply.TheVariants as texts
use Rattle.trace_run.specs.declared.names.NamedComponent.{NamedComponent}
use Rattle.trace_run.specs.declared.reply.LineAnswer.{LineAnswer}
use Rattle.trace_run.specs.declared.reply.LineAnswer.TheVariants as answers
use Rattle.trace_run.specs.declared.slots.Slot.{Slot}
use Rattle.trace_run.specs.Standing.{Hands, CanEnd, HasMoment}

-- whatever names the components have, a moment is stood for still
abbrev pub KeepMoments : Kept → List Slot → Kept → List Slot → Type 0
KeepMoments old slots new news = (components : List NamedComponent) → HasMoment (record { graph = old; components = components; slots = slots }) → HasMoment (record { graph = new; components = components; slots = news })

-- ---- notes

abbrev pub is_event : TextReply → Bool
is_event (texts.Event event) = true
is_event other = false

-- the answer tells a note
abbrev pub is_note : LineAnswer → Bool
is_note (answers.Plain said) = is_event said
is_note (answers.Emptied place) = true
is_note (answers.Filled place) = true

-- how many notes are queued for the component that the handle names
abbrev pub notes_left : Handle → Look → ℕ
notes_left h l = unwrap_or (option_map (λ c. length c.notes) (component_named h l.components)) 0

-- ---- components

-- the component of the handle, if it is there, is Invalid
abbrev pub IsEnded : Handle → Look → Type 0
IsEnded h l = All (λ c. c.handle ≡ h → c.state ≡ states.Invalid) l.components

-- no component's work is out
abbrev pub HaveNoWork : Look → Type 0
HaveNoWork l = All (λ c. c.work ≡ None) l.components

-- a component that is Invalid stays so, and where no work is out, none comes
pub record StayEnded (l m : Look) : Type 0 where
  pub ended : (h : Handle) → IsEnded h l → IsEnded h m
  pub works : HaveNoWork l → HaveNoWork m

-- it was so, and nothing changed; or StateSet(Invalid) was sent to it, and wasn't refused
abbrev pub IsMadeInvalid : Handle → Kept → Kept → Type 0
IsMadeInvalid h old new = ((new ≡ old) × IsEnded h old.looks) ⊎ Steps old new (λ w v. SendCommand w h (StateSet states.Invalid) (Ok tt) v)

-- ---- headers

-- freeing the header in hand isn't refused
abbrev pub IsFreeable : Slot → Look → Type 0
IsFreeable slot l = IfSome slot.hand (λ header. IsHandedIn header l × MatchOption (component_named slot.port.handle l.components) ⊥ (λ c.
    AtState header.held.number l (λ s. free_buffer_refusal c (port_of c slot.port.index) s ≡ None)))

-- The header in hand was freed. Where none was, nothing changed.
abbrev pub IsFreed : Slot → Kept → Kept → Type 0
IsFreed slot old new = MatchOption slot.hand (new ≡ old) (λ header.
    (memory : Bool) × Steps old new (λ w v. FreeBuffer w slot.port.handle slot.port.index header.held.number (Ok memory) v))

-- a slot has the header of the number in hand
abbrev pub IsInHand : ℕ → List Slot → Type 0
IsInHand number slots = (place : ℕ) × IsSomeAnd (slice_get slots place) (λ slot. (slot.number ≡ number) × IsSome slot.hand)

-- Each component is Invalid, and each header that the client has is in the hand of its slot.
pub record CanFree (graph : Kept) (slots : List Slot) : Type 0 where
  pub components : List NamedComponent
  pub world : World
  pub stands : Stands graph world
  pub sound : Sound world
  pub hands : Hands slots graph.looks
  pub ends : CanEnd (record { graph = graph; components = components; slots = slots })
  pub invalid : All (λ c. c.state ≡ states.Invalid) graph.looks.components
  pub works : HaveNoWork graph.looks
  pub all : (number : ℕ) → IsWithClient number graph.looks → IsInHand number slots

-- The client has no header, no work is out, and each client object is in.
pub record IsOver (l : Look) : Type 0 where
  pub works : All (λ c. c.work ≡ None) l.components
  pub headers : (number : ℕ) → ¬ (IsWithClient number l)
  pub clients : All (λ c. c.client_out ≡ false) l.components
