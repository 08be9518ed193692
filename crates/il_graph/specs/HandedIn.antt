-- What calls say of the headers that can be handed in: those that are with the client.
use Rattle.std.specs.Prelude.{◌≢◌, ℕ}
use Rattle.il_machine.specs.Look.{Look}
use Rattle.il_machine.specs.Buffers.{IsWithClient}
use Rattle.header_core.specs.BufferHeader.{BufferHeader}
use Rattle.note_queues.specs.declared.taken.Taken.{Taken}
use Rattle.note_queues.specs.declared.taken.Taken.TheVariants.{Told, EmptyDone, FillDone}
use Rattle.note_queues.specs.declared.taken.Took.{Took}
use Rattle.note_queues.specs.declared.taken.Took.TheVariants as tooks
use Rattle.graph_core.specs.Changes.{IsHandedIn}

-- each header that could be handed in still can be
abbrev pub StayHandedIn : Look → Look → Type 0
StayHandedIn l m = (header : BufferHeader) → IsHandedIn header l → IsHandedIn header m

-- no header comes to the client
abbrev pub NoneComes : Look → Look → Type 0
NoneComes l m = (number : ℕ) → IsWithClient number m → IsWithClient number l

-- The client has the headers that it had, and no other.
pub record KeepsHandedIn (l m : Look) : Type 0 where
  pub stay : StayHandedIn l m
  pub come : NoneComes l m

-- It has each of them but the one that the call was given, and no other.
pub record KeepsOthersHandedIn (given : BufferHeader) (l m : Look) : Type 0 where
  pub stay : (header : BufferHeader) → header.held.number ≢ given.held.number → IsHandedIn header l → IsHandedIn header m
  pub come : NoneComes l m

-- the client has the header no more
abbrev pub IsTakenIn : BufferHeader → Look → Type 0
IsTakenIn header m = ¬ (IsWithClient header.held.number m)

-- The header came to the client, and no other did: it can be handed in, and it is another one than each that could be handed in before.
pub record IsHandedOut (l m : Look) (header : BufferHeader) : Type 0 where
  pub handed : IsHandedIn header m
  pub other : (before : BufferHeader) → IsHandedIn before l → before.held.number ≢ header.held.number
  pub come : (number : ℕ) → number ≢ header.held.number → IsWithClient number m → IsWithClient number l

abbrev pub IsNoteHandedOut : Look → Look → Taken → Type 0
IsNoteHandedOut l m (Told event) = NoneComes l m
IsNoteHandedOut l m (EmptyDone header) = IsHandedOut l m header
IsNoteHandedOut l m (FillDone header) = IsHandedOut l m header

-- so did the header in the note that was taken, if one is in it
abbrev pub IsTookHandedOut : {C : Type 0} → Look → Look → Took C → Type 0
IsTookHandedOut l m (tooks.Call call) = IsNoteHandedOut l m call.taken
IsTookHandedOut l m tooks.None = NoneComes l m
IsTookHandedOut l m tooks.Busy = NoneComes l m
