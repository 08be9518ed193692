-- Lists of calls, and what becomes of a request on them.
use Rattle.std.specs.Prelude.{◌≡◌, ◌≢◌, ℕ, zero, suc, ◌-◌, ◌<◌, true, false, ◌||◌, ◌==◌, if◌then◌else◌, List, [], ◌∷◌, ◌++◌, filter, Contains, Option, Some, None}
use Rattle.std.specs.List.{All, flat_map, list_any}
use Rattle.clock_core.specs.Clock.{State, after_call, before_last_notes, fulfilled, has_id, is_due, next_moment, note_at, notes_now, notes_of, notes_of_call, notes_passing, opening, refusal_of, state_after}
use Rattle.clock_core.specs.declared.act.ClockAct.{ClockAct}
use Rattle.clock_core.specs.declared.act.ClockAct.TheVariants.{Ask, Cancel}
use Rattle.clock_core.specs.declared.act.ClockRefusal.{ClockRefusal}
use Rattle.clock_core.specs.declared.act.Fulfilled.{Fulfilled}
use Rattle.clock_core.specs.declared.act.Request.{Request}
use Rattle.clock_core.specs.declared.act.TimedAct.{TimedAct}

abbrev pub state_after_calls : State → List TimedAct → State
state_after_calls state [] = state
state_after_calls state (call ∷ calls) = state_after_calls (after_call state call.wall call.act) calls

-- the state that a list of calls leads to
abbrev pub reached : List TimedAct → State
reached calls = state_after_calls opening calls

abbrev pub notes_of_calls : State → List TimedAct → List Fulfilled
notes_of_calls state [] = []
notes_of_calls state (call ∷ calls) = notes_of_call state call.wall call.act ++ notes_of_calls (after_call state call.wall call.act) calls

-- the clock at each moment that passes, before what is due is fulfilled
abbrev pub moments_passing : ℕ → State → List State
moments_passing zero state = []
moments_passing (suc moments) state = next_moment state ∷ moments_passing moments (fulfilled (next_moment state))

-- the moments up to an accepted call's, and then that one once more, after the act
abbrev pub moments_of : State → ℕ → ClockAct → List State
moments_of state wall act = moments_passing (wall - state.wall) state ++ before_last_notes state wall act ∷ []

abbrev pub moments_unless : Option ClockRefusal → List State → List State
moments_unless None moments = moments
moments_unless (Some refusal) moments = []

abbrev pub moments_of_call : State → ℕ → ClockAct → List State
moments_of_call state wall act = moments_unless (refusal_of state wall act) (moments_of state wall act)

abbrev pub moments_of_calls : State → List TimedAct → List State
moments_of_calls state [] = []
moments_of_calls state (call ∷ calls) = moments_of_call state call.wall call.act ++ moments_of_calls (after_call state call.wall call.act) calls

-- calls are made, and then some more moments pass
abbrev pub notes_along : State → List TimedAct → ℕ → List Fulfilled
notes_along state calls more = notes_of_calls state calls ++ notes_passing more (state_after_calls state calls)

abbrev pub moments_along : State → List TimedAct → ℕ → List State
moments_along state calls more = moments_of_calls state calls ++ moments_passing more (state_after_calls state calls)

-- the act neither asks for a request of that id nor cancels it
abbrev pub IsOther : ℕ → ClockAct → Type 0
IsOther id (Ask other media) = other ≢ id
IsOther id (Cancel other) = other ≢ id
IsOther id act = Unit {0}

-- nor does any accepted call
abbrev pub AreOthers : ℕ → State → List TimedAct → Type 0
AreOthers id state [] = Unit {0}
AreOthers id state (call ∷ calls) =
    (refusal_of state call.wall call.act ≡ None → IsOther id call.act) × AreOthers id (after_call state call.wall call.act) calls

abbrev pub notes_with : ℕ → List Fulfilled → List Fulfilled
notes_with id = filter (λ (note : Fulfilled). note.id == id)

abbrev pub notes_with_either : ℕ → ℕ → List Fulfilled → List Fulfilled
notes_with_either one two = filter (λ (note : Fulfilled). (note.id == one) || (note.id == two))

-- the request's note at the first of the moments at which it is due; none, if it is due at none
abbrev pub note_at_first : Request → List State → List Fulfilled
note_at_first request [] = []
note_at_first request (moment ∷ moments) = if is_due moment request then note_at moment.wall request ∷ [] else note_at_first request moments

-- from an accepted call that asks for it until one asks for or cancels its id, a request has one note, at the first
-- moment at which it is due, and none where it is due at none
abbrev pub IsFulfilledOnce : State → ℕ → Request → Type 0
IsFulfilledOnce state wall request =
    refusal_of state wall (Ask request.id request.media) ≡ None →
    (calls : List TimedAct) (more : ℕ) → AreOthers request.id (state_after state wall (Ask request.id request.media)) calls →
    notes_with request.id (notes_of state wall (Ask request.id request.media) ++ notes_along (state_after state wall (Ask request.id request.media)) calls more)
    ≡ note_at_first request (before_last_notes state wall (Ask request.id request.media) ∷ moments_along (state_after state wall (Ask request.id request.media)) calls more)

-- an id with no request outstanding has no note, until one is asked for
abbrev pub HasNoNotes : State → ℕ → Type 0
HasNoNotes state id =
    list_any (has_id id) state.requests ≡ false → (calls : List TimedAct) (more : ℕ) → AreOthers id state calls →
    notes_with id (notes_along state calls more) ≡ []

-- of two requests that are outstanding together, the one with the lesser media time has its note first
abbrev pub IsFulfilledFirst : State → Request → Request → Type 0
IsFulfilledFirst state one two =
    Contains state.requests one → Contains state.requests two → one.media < two.media →
    (calls : List TimedAct) (more : ℕ) → AreOthers one.id state calls → AreOthers two.id state calls →
    notes_with_either one.id two.id (notes_along state calls more) ≡ note_at_first one (moments_along state calls more) ++ note_at_first two (moments_along state calls more)

-- the same for two that are outstanding together right after an accepted call's act, also where the call itself fulfils one
abbrev pub IsFulfilledFirstFromAct : State → ℕ → ClockAct → Request → Request → Type 0
IsFulfilledFirstFromAct state wall act one two =
    refusal_of state wall act ≡ None →
    Contains (before_last_notes state wall act).requests one → Contains (before_last_notes state wall act).requests two → one.media < two.media →
    (calls : List TimedAct) (more : ℕ) → AreOthers one.id (state_after state wall act) calls → AreOthers two.id (state_after state wall act) calls →
    notes_with_either one.id two.id (notes_now (before_last_notes state wall act) ++ notes_along (state_after state wall act) calls more)
    ≡ note_at_first one (before_last_notes state wall act ∷ moments_along (state_after state wall act) calls more)
    ++ note_at_first two (before_last_notes state wall act ∷ moments_along (state_after state wall act) calls more)

-- of two requests that are outstanding at a moment, the one with the lesser media time is due there if the other one is,
-- and has its note first
abbrev pub IsByMedia : State → Type 0
IsByMedia moment =
    (one two : Request) → Contains moment.requests one → Contains moment.requests two → one.media < two.media →
    (is_due moment two ≡ true → is_due moment one ≡ true)
    × (notes_with_either one.id two.id (notes_now moment) ≡ note_at_first one (moment ∷ []) ++ note_at_first two (moment ∷ []))

-- what holds of each list of calls on a new clock
pub record IsLawful (calls : List TimedAct) : Type 0 where
  -- at each moment all that is due is fulfilled, and nothing else ever
  pub moments : (more : ℕ) → notes_along opening calls more ≡ flat_map notes_now (moments_along opening calls more)
  pub by_media : (more : ℕ) → All IsByMedia (moments_along opening calls more)
  -- and of what is asked for or outstanding after them
  pub once : (wall : ℕ) (request : Request) → IsFulfilledOnce (reached calls) wall request
  pub unasked : (id : ℕ) → HasNoNotes (reached calls) id
  pub lesser_first : (one two : Request) → IsFulfilledFirst (reached calls) one two
  pub lesser_first_from_act : (wall : ℕ) (act : ClockAct) (one two : Request) → IsFulfilledFirstFromAct (reached calls) wall act one two

abbrev pub and_then : List TimedAct → ℕ → ClockAct → List TimedAct
and_then calls wall act = calls ++ record { wall = wall; act = act } ∷ []

-- a call after a list of calls makes a longer one, with its notes behind theirs, which is lawful
pub record GoesOn (before : List TimedAct) (wall : ℕ) (act : ClockAct) (after : State) (notes : List Fulfilled) : Type 0 where
  pub state : after ≡ reached (and_then before wall act)
  pub told : notes_of_calls opening (and_then before wall act) ≡ notes_of_calls opening before ++ notes
  pub lawful : IsLawful (and_then before wall act)
