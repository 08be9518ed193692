-- Headers that are with the client: which of them an act takes in, and which header it gives.
use Rattle.std.specs.Prelude.{◌≡◌, ℕ, true, false, Option, Some, None, option_map, Ok}
use Rattle.il_machine.specs.declared.header.HeaderState.{HeaderState}
use Rattle.il_machine.specs.declared.header.Owner.TheVariants as owners
use Rattle.il_machine.specs.World.{World}
use Rattle.il_machine.specs.Headers.{state_given}
use Rattle.il_machine.specs.Look.{Look, look}
use Rattle.il_machine.specs.Buffers.{Held, AtState}
use Rattle.il_machine.specs.Notes.{Taken, TakenEvent, TakenEmpty, TakenFilled, TookNote}
use Rattle.il_machine.specs.Acts.{Act, Reply}
use Rattle.il_machine.specs.Acts as acts
use Rattle.history_laws.specs.Memory.{HasMemory}

-- the header of the number is with the client, and this is known of it
abbrev pub IsClients : Look → ℕ → HeaderState → Type 0
IsClients l number s = (l.headers.header number ≡ Some s) × (s.owner ≡ owners.Client)

-- the number of the header that the act took in; one that was refused took none
abbrev pub taken_in : Act → Reply → Option ℕ
taken_in (acts.FreeBuffer h port header) (acts.Freed (Ok memory)) = Some header
taken_in (acts.EmptyThisBuffer h port header) (acts.Plain (Ok done)) = Some header.number
taken_in (acts.FillThisBuffer h port header) (acts.Plain (Ok done)) = Some header.number
taken_in _ _ = None

abbrev pub header_in : Taken → Option Held
header_in (TakenEvent event) = None
header_in (TakenEmpty header) = Some header
header_in (TakenFilled header) = Some header

-- the header that the act gave to the client
abbrev pub given_out : Act → Reply → Option Held
given_out (acts.AllocateBuffer h port) (acts.Allocated (Ok header)) = Some header
given_out (acts.UseBuffer h port bytes) (acts.Used (Ok header)) = Some header
given_out (acts.TakeNote h) (acts.Took (Ok (TookNote taken))) = header_in taken
given_out _ _ = None

abbrev pub number_out : Act → Reply → Option ℕ
number_out a r = option_map (λ header. header.number) (given_out a r)

-- A header that is made has a block of the graph's or the client's own memory. One in a note is as it was, but for its owner.
abbrev pub IsMadeBy : World → Act → ℕ → HeaderState → Type 0
IsMadeBy w (acts.AllocateBuffer h port) number s = s.client_memory ≡ false
IsMadeBy w (acts.UseBuffer h port bytes) number s = s.client_memory ≡ true
IsMadeBy w _ number s = AtState number (look w) (λ was. s ≡ state_given owners.Client was)

-- In v the header is the client's, with its own size and memory, since the act was done in w. There no header of its number was the client's.
pub record IsGiven (w : World) (a : Act) (v : World) (header : Held) : Type 0 where
  pub state : HeaderState
  pub clients : IsClients (look v) header.number state
  pub new : (was : HeaderState) → ¬ (IsClients (look w) header.number was)
  pub size : header.size ≡ state.size
  pub memory : HasMemory v header.number header.memory
  pub made : IsMadeBy w a header.number state
