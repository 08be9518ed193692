-- A graph ends: the headers in notes are unmade, and those that wait in lists go with the stock.
use Rattle.std.specs.Prelude.{◌≡◌, ℕ, ◌+◌, Bool, false, not, ◌&&◌, nat_eq, List, [], ◌∷◌, ◌++◌, All, None, is_none, is_some, MatchOption}
use Rattle.il_machine.specs.declared.header.HeaderState.{HeaderState}
use Rattle.il_machine.specs.declared.header.Queue.TheVariants.{Out}
use Rattle.il_machine.specs.Buffers.{IsWithClient}
use Rattle.il_machine.specs.Headers.{weight}
use Rattle.il_machine.specs.Lists.{holds_at}
use Rattle.il_machine.specs.Look.{Look}
use Rattle.il_machine.specs.Stock.{Stocked, header_unmade}
use Rattle.il_machine.specs.Whole.{Noticed}
use Rattle.header_core.specs.BufferHeader.{BufferHeader}
use Rattle.note_queues.specs.declared.taken.Taken.{Taken}
use Rattle.note_queues.specs.declared.taken.Taken.TheVariants.{Told, EmptyDone, FillDone}
use Rattle.il_component.specs.Entries.{Entry}
use Rattle.port_stock.specs.Kept.{is_waiting}
use Rattle.port_stock.specs.Entries.{Each}
use Rattle.graph_core.specs.Entries.{held_by}

-- nothing is out: no header is with the client, no client object and no work is out, and no component has a file
pub record IsAllIn (l : Look) : Type 0 where
  pub headers : (number : ℕ) → ¬ (IsWithClient number l)
  pub clients : All (λ c. c.client_out ≡ false) l.components
  pub works : All (λ c. c.work ≡ None) l.components
  pub files : All (λ c. c.file ≡ None) l.components

-- neither the client object nor a work of the component is out, and it has no file
abbrev pub is_in : {C : Type 0} → Entry C → Bool
is_in e = not (is_none e.queues.client) && not (is_some e.work) && is_none e.file

-- ---- headers in notes

-- the header is one of the stock's, in no list
abbrev pub IsHeldOut : Stocked → Noticed → Type 0
IsHeldOut s h = (h.key ≡ s.key) × MatchOption (s.headers.header h.held.number) ⊥ (λ x. (x.queue ≡ Out) × (h.held.size ≡ x.size) × (h.client_memory ≡ x.client_memory))

abbrev pub is_outside : HeaderState → Bool
is_outside x = not (is_waiting x.queue)

-- how often the number is one of theirs
abbrev pub held_times : ℕ → List Noticed → ℕ
held_times number [] = 0
held_times number (h ∷ hs) = weight (nat_eq h.held.number number) + held_times number hs

-- they are the headers that are in no list, each once
pub record AreOutside (hs : List Noticed) (s : Stocked) : Type 0 where
  pub each : Each (IsHeldOut s) hs
  pub once : (number : ℕ) → held_times number hs ≡ weight (holds_at (s.headers.header number) is_outside)

-- the component's headers in notes are, with some others, those that are in no list
abbrev pub AreSomeOutside : {C : Type 0} → Entry C → Stocked → Type 0
AreSomeOutside e s = (rest : List Noticed) × AreOutside (rest ++ held_by e) s

-- Whatever others there are, they are all outside where they were so with the component's.
abbrev pub LeavesOthers : {C : Type 0} → Entry C → Stocked → Entry C → Stocked → Type 0
LeavesOthers e s d t = (rest : List Noticed) → AreOutside (rest ++ held_by e) s → AreOutside (rest ++ held_by d) t

-- ---- a note that is taken

abbrev pub OnHeader : Taken → (BufferHeader → Type 0) → Type 0
OnHeader (Told event) P = Unit {0}
OnHeader (EmptyDone header) P = P header
OnHeader (FillDone header) P = P header

-- its header, if it has one, is unmade
abbrev pub without_taken : Taken → Stocked → Stocked
without_taken (Told event) s = s
without_taken (EmptyDone header) s = header_unmade header.held.number s
without_taken (FillDone header) s = header_unmade header.held.number s
