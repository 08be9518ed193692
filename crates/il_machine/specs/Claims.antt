-- A component's work is claimed: the headers for one step of its part go out.
use Rattle.std.specs.Prelude.{◌≡◌, ℕ, ◌+◌, Bool, false, not, ◌&&◌, ◌||◌, nat_lt, List, [], ◌∷◌, ◌++◌, length, map, filter, slice_index_or, Option, Some, None, is_some, Result, Ok, if◌then◌else◌}
use Rattle.std.specs.List.{list_any}
use Rattle.omx_types.specs.declared.handle.Handle.{Handle}
use Rattle.omx_types.specs.declared.error.OmxError.{OmxError}
use Rattle.part_api.specs.Terms.{Terms}
use Rattle.il_machine.specs.declared.port.Port.{Port}
use Rattle.il_machine.specs.declared.header.Owner.TheVariants as owners
use Rattle.il_machine.specs.States.{is_executing}
use Rattle.il_machine.specs.Lists.{first_of_these, is_empty}
use Rattle.il_machine.specs.Kinds.{is_auto, is_late}
use Rattle.il_machine.specs.Settings.{same_format}
use Rattle.il_machine.specs.World.{Component, HeaderRecord, Picked, Work, World, number_of, ports_of, with_component}
use Rattle.il_machine.specs.Headers.{Seen, seen, find_header, changed, given_to}
use Rattle.il_machine.specs.Look.{Look, look}
use Rattle.il_machine.specs.Ports.{is_at_rest, is_input_port, is_open}
use Rattle.il_machine.specs.Room.{room}
use Rattle.il_machine.specs.Due.{each_port, ClosesTo}
use Rattle.il_machine.specs.Parts.{factors_by, terms_of, file_format}
use Rattle.il_machine.specs.Buffers.{Held, held}
use Rattle.il_machine.specs.Answers.{plain, Resolving}

-- a header of a work as its holder sees it, with its port's number
pub record CarriedHeader : Type 0 where
  pub port : ℕ
  pub header : Held

-- a work as its holder sees it
pub record WorkSeen : Type 0 where
  pub component : ℕ
  -- what is set of its part, with the factors of the claim
  pub terms : Terms
  -- by rising port
  pub headers : List CarriedHeader
  pub announces : Bool

-- the work, or why there is none
pub data Claimed : Type 0 where
  ClaimedWork : (work : WorkSeen) → Claimed
  ClaimedBusy : Claimed
  ClaimedNotRunning : Claimed
  ClaimedEnded : Claimed
  ClaimedHeld : (port : ℕ) → Claimed
  ClaimedNoData : (port : ℕ) → Claimed
  ClaimedNoRoom : (port : ℕ) → Claimed
  ClaimedEvents : (room need : ℕ) → Claimed

-- ---- what a work takes

-- the input has ended
abbrev pub has_ended : Component → ℕ → Bool
has_ended c port = slice_index_or c.part.ended_inputs port false

-- the output of a late source that isn't held, and has another format than its file
abbrev pub is_unannounced : Component → Port → Bool
is_unannounced c p = is_late c.settings.kind && not p.state.held && not (same_format p.setting.definition.format (file_format c.file))

-- a late source has to tell that its output has another format than its file
abbrev pub must_announce : Component → Bool
must_announce c = list_any (is_unannounced c) (ports_of c)

abbrev pub gives_header : Component → Port → Bool
gives_header c p = not (is_input_port p && has_ended c p.key.port)

-- the ports whose front goes out: each output, and each input that hasn't ended; none for an announcement
abbrev pub wanted : Component → List Port
wanted c = if must_announce c then [] else filter (gives_header c) (ports_of c)

-- ---- the answers without a work

abbrev pub is_output_port : Port → Bool
is_output_port p = not (is_input_port p)

-- Executing with nothing pending, and each port is enabled, steady and not flushing
abbrev pub is_claimable : Component → Bool
is_claimable c = is_executing c.state && is_at_rest c && each_port c is_open

-- it is held, or its format isn't known yet
abbrev pub held_test : Component → Port → Bool × Claimed
held_test c p = (not (must_announce c) && (p.state.held || is_auto p.setting.definition.format), ClaimedHeld p.key.port)

abbrev pub data_test : Seen → Port → Bool × Claimed
data_test headers p = (is_empty (headers.todo p.key), ClaimedNoData p.key.port)

abbrev pub room_test : Seen → Port → Bool × Claimed
room_test headers p = (is_empty (headers.todo p.key), ClaimedNoRoom p.key.port)

-- a place for each header, and two
abbrev pub reserve_for : List Port → ℕ
reserve_for ports = length ports + 2

abbrev pub claim_idle : Look → Component → Option Claimed
claim_idle l c = first_of_these
    ((is_some c.work, ClaimedBusy)
    ∷ (not (is_claimable c), ClaimedNotRunning)
    ∷ (c.part.ended || c.part.failed, ClaimedEnded)
    ∷ map (held_test c) (ports_of c)
    ++ map (data_test l.headers) (filter is_input_port (wanted c))
    ++ map (room_test l.headers) (filter is_output_port (wanted c))
    ++ (nat_lt (room c) (reserve_for (wanted c)), ClaimedEvents (room c) (reserve_for (wanted c)))
    ∷ [])

-- ---- the work

abbrev pub first_picked : Port → List ℕ → List Picked → List Picked
first_picked p [] rest = rest
first_picked p (number ∷ numbers) rest = record { port = p.key.port; number = number } ∷ rest

-- the front of each port's todo
abbrev pub picked : Seen → List Port → List Picked
picked headers [] = []
picked headers (p ∷ ports) = first_picked p (headers.todo p.key) (picked headers ports)

abbrev pub work_of : Seen → Component → Work
work_of headers c = record { headers = picked headers (wanted c); gain = c.settings.gain; weights = c.settings.weights; announces = must_announce c }

-- each header has the work of the component of the number as its owner
abbrev pub all_given_out : ℕ → List Picked → List HeaderRecord → List HeaderRecord
all_given_out number [] headers = headers
all_given_out number (x ∷ xs) headers = all_given_out number xs (changed x.number (given_to (owners.Work number)) headers)

abbrev pub with_work : ℕ → Component → Work → World → World
with_work i c work w = record (with_component i (record c { work = Some work }) w) { headers = all_given_out (number_of c) work.headers w.headers }

abbrev pub carried_by : ℕ → Option HeaderRecord → List CarriedHeader → List CarriedHeader
carried_by port None rest = rest
carried_by port (Some r) rest = record { port = port; header = held r } ∷ rest

-- the headers of a work with what they carry
abbrev pub carried : List HeaderRecord → List Picked → List CarriedHeader
carried headers [] = []
carried headers (x ∷ xs) = carried_by x.port (find_header x.number headers) (carried headers xs)

-- what is set of the component's part, with the factors of the claim
abbrev pub terms_in : Component → Work → Terms
terms_in c work = record (terms_of c) { factors = factors_by c.settings.kind work.gain work.weights }

abbrev pub seen_work : Component → Work → List HeaderRecord → WorkSeen
seen_work c work headers = record {
  component = number_of c;
  terms = terms_in c work;
  headers = carried headers work.headers;
  announces = work.announces;
}

-- ---- claim

-- An answer without a work leaves the world as it was. Else the work is out.
abbrev pub Claims : Option Claimed → ℕ → Component → World → Result Claimed OmxError → World → Type 0
Claims (Some idle) i c w result v = (result ≡ Ok idle) × (v ≡ w)
Claims None i c w result v =
    let work = work_of (seen w.headers) c in
    (result ≡ Ok (ClaimedWork (seen_work c work w.headers))) × ClosesTo (with_work i c work w) v

abbrev pub Claim : World → Handle → Result Claimed OmxError → World → Type 0
Claim w h result v = Resolving plain w h result v (λ i c. Claims (claim_idle (look w) c) i c w result v)
