-- What the changes of a graph say of what they answer.
use Rattle.std.specs.Prelude.{◌≡◌, ℕ, true, false, List, Option, Some, None, slice_get}
use Rattle.omx_types.specs.declared.command.Note.TheVariants as notes
use Rattle.il_machine.specs.World.{Component, World}
use Rattle.il_machine.specs.Look.{Look}
use Rattle.il_machine.specs.Ports.{accepting}
use Rattle.il_machine.specs.declared.port.Port.{Port}
use Rattle.il_machine.specs.Buffers.{AtHeader, AtState, held, has_no_block, has_no_number}
use Rattle.il_machine.specs.declared.header.Owner.TheVariants as owners
use Rattle.il_machine.specs.Notes.{with_given, with_client}
use Rattle.header_core.specs.BufferHeader.{BufferHeader, is_clients}
use Rattle.note_queues.specs.declared.taken.Taken.{Taken}
use Rattle.note_queues.specs.declared.taken.Taken.TheVariants.{Told, EmptyDone, FillDone}
use Rattle.note_queues.specs.declared.taken.Took.{Took}
use Rattle.note_queues.specs.declared.taken.Took.TheVariants as tooks
use Rattle.port_stock.specs.Conditions.{Fits, IsHeaderOf}

-- The header has the graph's key, and is one of the client's, with its own size and memory: the condition of each call that is given it.
abbrev pub IsHandedIn : BufferHeader → Look → Type 0
IsHandedIn header l = (header.key ≡ l.key) × AtState header.held.number l (λ s. (s.owner ≡ owners.Client) × IsHeaderOf s header)

-- A header of the client's memory, or of a block, may be made for the client port: what `use_refusal` and `allocate_refusal` leave.
pub record IsMakable (l : Look) (c : Component) (p : Port) (memory : Option (List ℕ)) : Type 0 where
  pub alone : p.state.link ≡ None
  pub accepts : accepting l.headers c p ≡ true
  pub numbers : has_no_number l ≡ false
  pub fits : Fits memory p.setting.definition.size
  pub block : memory ≡ None → has_no_block l.headers ≡ false

-- the note was the oldest one, and what it takes along is the world's, with the world's key
abbrev pub TakesNote : World → ℕ → Component → Taken → World → Type 0
TakesNote w i c (Told event) v = (slice_get c.notes 0 ≡ Some (notes.Told event)) × (v ≡ with_given i c (notes.Told event) w)
TakesNote w i c (EmptyDone header) v =
    let note = notes.EmptyDone header.held.number in
    (slice_get c.notes 0 ≡ Some note) × AtHeader header.held.number w (λ r. (held r ≡ header.held) × (r.state.client_memory ≡ is_clients header.store)) × (v ≡ with_client header.held.number (with_given i c note w)) × (header.key ≡ w.key)
TakesNote w i c (FillDone header) v =
    let note = notes.FillDone header.held.number in
    (slice_get c.notes 0 ≡ Some note) × AtHeader header.held.number w (λ r. (held r ≡ header.held) × (r.state.client_memory ≡ is_clients header.store)) × (v ≡ with_client header.held.number (with_given i c note w)) × (header.key ≡ w.key)

abbrev pub Takes : {C : Type 0} → World → ℕ → Component → Took C → World → Type 0
Takes w i c tooks.Busy v = (c.client_out ≡ true) × (v ≡ w)
Takes w i c tooks.None v = (c.client_out ≡ false) × (slice_get c.notes 0 ≡ None) × (v ≡ w)
Takes w i c (tooks.Call call) v = (c.client_out ≡ false) × TakesNote w i c call.taken v

-- no note was taken
abbrev pub OnNoNote : {C : Type 0} → Took C → Type 0 → Type 0
OnNoNote (tooks.Call call) P = Unit {0}
OnNoNote tooks.None P = P
OnNoNote tooks.Busy P = P
