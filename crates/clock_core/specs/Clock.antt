-- The clock that goes from moment to moment, one at a time.
use Rattle.std.specs.Prelude.{ℕ, zero, suc, ◌+◌, ◌-◌, ◌≤◌, ◌^◌, min, Bool, false, not, ◌==◌, nat_lt, nat_le, if◌then◌else◌, List, [], ◌∷◌, ◌++◌, map, filter, length, Option, Some, None, Result, Ok, Err}
use Rattle.std.specs.List.{list_any}
use Rattle.std.specs.Int.{bit_at}
use Rattle.clock_core.specs.Pace.{media_at}
use Rattle.clock_core.specs.declared.act.ClockAct.{ClockAct}
use Rattle.clock_core.specs.declared.act.ClockAct.TheVariants.{Start, Stop, Scale, Wait, Port, Ask, Cancel}
use Rattle.clock_core.specs.declared.act.ClockRefusal.{ClockRefusal}
use Rattle.clock_core.specs.declared.act.ClockRefusal.TheVariants.{Backwards, BadScale, BadMask, NotWaiting, Taken, Full, Unknown}
use Rattle.clock_core.specs.declared.act.Fulfilled.{Fulfilled}
use Rattle.clock_core.specs.declared.act.Request.{Request}
use Rattle.clock_core.specs.declared.motion.Motion.{Motion}
use Rattle.clock_core.specs.declared.motion.Motion.TheVariants.{Stopped, Running, Waiting}
use Rattle.clock_core.specs.declared.pace.Pace.{Pace}

-- the wall moment that was reached, the scale, how the media time goes, and the outstanding requests,
-- by rising media time and then in the order of asking
pub record State : Type 0 where
  pub wall : ℕ
  pub scale : ℕ
  pub motion : Motion
  pub requests : List Request

abbrev pub opening : State
opening = record { wall = 0; scale = 65536; motion = Stopped; requests = [] }

-- only a running clock's media time goes on
abbrev pub pace_of : Motion → ℕ → Option Pace
pace_of Stopped scale = None
pace_of (Running since media) scale = Some (record { since = since; media = media; scale = scale })
pace_of (Waiting ports least) scale = None

-- whether a media time is reached
abbrev pub is_reached : Option Pace → ℕ → ℕ → Bool
is_reached None wall media = false
is_reached (Some pace) wall media = nat_le media (media_at pace wall)

-- whether a request is due at a moment
abbrev pub is_due_at : Option Pace → ℕ → Request → Bool
is_due_at pace wall request = is_reached pace wall request.media

-- whether a request is due now
abbrev pub is_due : State → Request → Bool
is_due state = is_due_at (pace_of state.motion state.scale) state.wall

abbrev pub note_at : ℕ → Request → Fulfilled
note_at wall request = record { id = request.id; wall = wall }

-- each request that is due is fulfilled
abbrev pub notes_now : State → List Fulfilled
notes_now state = map (note_at state.wall) (filter (is_due state) state.requests)

abbrev pub fulfilled : State → State
fulfilled state = record {
  wall = state.wall;
  scale = state.scale;
  motion = state.motion;
  requests = filter (λ (request : Request). not (is_due state request)) state.requests;
}

abbrev pub next_moment : State → State
next_moment state = record { wall = state.wall + 1; scale = state.scale; motion = state.motion; requests = state.requests }

-- that many moments pass, and what is due at each is fulfilled
abbrev pub passed : ℕ → State → State
passed zero state = state
passed (suc moments) state = passed moments (fulfilled (next_moment state))

abbrev pub notes_passing : ℕ → State → List Fulfilled
notes_passing zero state = []
notes_passing (suc moments) state = notes_now (next_moment state) ++ notes_passing moments (fulfilled (next_moment state))

-- a request behind all whose media time isn't above its own
abbrev pub queued : Request → List Request → List Request
queued request [] = request ∷ []
queued request (first ∷ requests) =
    if nat_le first.media request.media then first ∷ queued request requests else request ∷ first ∷ requests

abbrev pub has_id : ℕ → Request → Bool
has_id id request = request.id == id

-- the motion at a moment goes on from there with another scale
abbrev pub rescaled : ℕ → ℕ → Motion → Motion
rescaled wall scale (Running since media) = Running wall (media_at (record { since = since; media = media; scale = scale }) wall)
rescaled wall scale other = other

abbrev pub least_of : Option ℕ → ℕ → ℕ
least_of None media = media
least_of (Some least) media = min least media

-- a port has told: it leaves the mask, and the last one lets the clock run from the least media time
abbrev pub answered : ℕ → ℕ → ℕ → Motion → Motion
answered wall port media (Waiting ports least) =
    if ports - 2 ^ port == 0 then Running wall (least_of least media) else Waiting (ports - 2 ^ port) (Some (least_of least media))
answered wall port media other = other

abbrev pub scale_after : ClockAct → ℕ → ℕ
scale_after (Scale scale) _ = scale
scale_after other scale = scale

abbrev pub motion_after : ClockAct → ℕ → ℕ → Motion → Motion
motion_after (Start media) wall scale motion = Running wall media
motion_after Stop wall scale motion = Stopped
motion_after (Scale _) wall scale motion = rescaled wall scale motion
motion_after (Wait mask) wall scale motion = Waiting mask None
motion_after (Port port media) wall scale motion = answered wall port media motion
motion_after other wall scale motion = motion

abbrev pub requests_after : ClockAct → List Request → List Request
requests_after (Ask id media) requests = queued (record { id = id; media = media }) requests
requests_after (Cancel id) requests = filter (λ (request : Request). not (has_id id request)) requests
requests_after other requests = requests

-- what an act does by itself
abbrev pub acted : ClockAct → State → State
acted act state = record {
  wall = state.wall;
  scale = scale_after act state.scale;
  motion = motion_after act state.wall state.scale state.motion;
  requests = requests_after act state.requests;
}

-- whether the clock waits for a port
abbrev pub waits_for : Motion → ℕ → Bool
waits_for (Waiting ports least) port = bit_at ports port == 1
waits_for other port = false

abbrev pub refusal_of_request : ℕ → List Request → Option ClockRefusal
refusal_of_request id requests =
    if list_any (has_id id) requests then Some Taken else if nat_lt (length requests) 64 then None else Some Full

abbrev pub refusal_of_act : Motion → List Request → ClockAct → Option ClockRefusal
refusal_of_act motion requests (Scale scale) = if nat_lt 1048576 scale then Some BadScale else None
refusal_of_act motion requests (Wait mask) = if mask == 0 then Some BadMask else None
refusal_of_act motion requests (Port port media) = if waits_for motion port then None else Some NotWaiting
refusal_of_act motion requests (Ask id media) = refusal_of_request id requests
refusal_of_act motion requests (Cancel id) = if list_any (has_id id) requests then None else Some Unknown
refusal_of_act motion requests other = None

-- why a call is refused; time can't go back
abbrev pub refusal_of : State → ℕ → ClockAct → Option ClockRefusal
refusal_of state wall act = if nat_lt wall state.wall then Some (Backwards state.wall) else refusal_of_act state.motion state.requests act

-- all moments up to the wall pass, and then the act is done
abbrev pub before_last_notes : State → ℕ → ClockAct → State
before_last_notes state wall act = acted act (passed (wall - state.wall) state)

-- an accepted call: what is due after its act is fulfilled at once
abbrev pub state_after : State → ℕ → ClockAct → State
state_after state wall act = fulfilled (before_last_notes state wall act)

abbrev pub notes_of : State → ℕ → ClockAct → List Fulfilled
notes_of state wall act = notes_passing (wall - state.wall) state ++ notes_now (before_last_notes state wall act)

-- a refused call changes nothing, and gives no note
abbrev pub state_unless : Option ClockRefusal → State → State → State
state_unless None after before = after
state_unless (Some refusal) after before = before

abbrev pub notes_unless : Option ClockRefusal → List Fulfilled → List Fulfilled
notes_unless None notes = notes
notes_unless (Some refusal) notes = []

abbrev pub answer_unless : Option ClockRefusal → List Fulfilled → Result ℕ ClockRefusal
answer_unless None notes = Ok (length notes)
answer_unless (Some refusal) notes = Err refusal

abbrev pub after_call : State → ℕ → ClockAct → State
after_call state wall act = state_unless (refusal_of state wall act) (state_after state wall act) state

abbrev pub notes_of_call : State → ℕ → ClockAct → List Fulfilled
notes_of_call state wall act = notes_unless (refusal_of state wall act) (notes_of state wall act)

abbrev pub answer_of_call : State → ℕ → ClockAct → Result ℕ ClockRefusal
answer_of_call state wall act = answer_unless (refusal_of state wall act) (notes_of state wall act)

-- the media time of an act is at most 2 ^ 53
abbrev pub HasMediaWithin : ClockAct → Type 0
HasMediaWithin (Start media) = media ≤ 2 ^ 53
HasMediaWithin (Port port media) = media ≤ 2 ^ 53
HasMediaWithin (Ask id media) = media ≤ 2 ^ 53
HasMediaWithin other = Unit {0}
