-- What becomes of some requests of a clock, along a list of calls.
use Rattle.std.proofs.Common.{◌≡◌, ℕ, zero, suc, ◌-◌, ◌≤◌, List, [], ◌∷◌, ◌++◌, refl, sym, ap, ◌∙◌, append_assoc, arith}
use Rattle.std.specs.Prelude.{filter, map, not, nat_le, ◌==◌, ◌||◌, Bool, true, false, Option, Some, None, if◌then◌else◌}
use Rattle.std.specs.List.{flat_map, list_any}
use Rattle.std.proofs.lemmas.Grind.{common_steps, flat_map-append}
use Rattle.std.proofs.lemmas.List.Concat.{flat_map-cons}
use Rattle.std.proofs.lemmas.List.Elements.{filter-append}
use Rattle.clock_core.specs.Calls.{AreOthers, HasNoNotes, IsFulfilledFirst, IsFulfilledOnce, IsOther, moments_along, moments_of, moments_of_call, moments_of_calls, moments_passing, moments_unless, note_at_first, notes_along, notes_of_calls, reached, state_after_calls}
use Rattle.clock_core.specs.Clock.{State, after_call, before_last_notes, fulfilled, has_id, is_due, is_reached, next_moment, note_at, notes_now, notes_of, notes_of_call, notes_passing, notes_unless, opening, pace_of, passed, refusal_of, requests_after, state_after, state_unless}
use Rattle.clock_core.specs.Due.{AreInOrder}
use Rattle.clock_core.specs.Pace.{media_at}
use Rattle.clock_core.specs.declared.act.ClockAct.{ClockAct}
use Rattle.clock_core.specs.declared.act.ClockAct.TheVariants.{Start, Stop, Scale, Wait, Port, Ask, Cancel, Pass}
use Rattle.clock_core.specs.declared.act.ClockRefusal.{ClockRefusal}
use Rattle.clock_core.specs.declared.act.ClockRefusal.TheVariants.{Taken}
use Rattle.clock_core.specs.declared.act.Fulfilled.{Fulfilled}
use Rattle.clock_core.specs.declared.act.Request.{Request}
use Rattle.clock_core.specs.declared.act.TimedAct.{TimedAct}
use Rattle.clock_core.specs.declared.pace.Pace.{Pace}
use Rattle.clock_core.proofs.Accepting.{accepted-act, act-ordered, not-refused}
use Rattle.clock_core.proofs.Ordering.{AreInOrder-filter}
use Rattle.clock_core.proofs.Picking.{AreDistinct, AreDistinct-filter, AreDistinct-queued, absent-none, either-both, eq-false, eq-true, filter-comm, noted, noted-notes, queued-alone, with_ids, with_ids-cancelled, with_ids-queued}

-- ---- requests that go along moments

abbrev pub due_notes : State → List Request → List Fulfilled
due_notes moment requests = map (note_at moment.wall) (filter (is_due moment) requests)

abbrev pub undue : State → List Request → List Request
undue moment = filter (λ (request : Request). not (is_due moment request))

abbrev pub notes_from : List State → List Request → List Fulfilled
notes_from [] requests = []
notes_from (moment ∷ moments) requests = due_notes moment requests ++ notes_from moments (undue moment requests)

abbrev pub left_from : List State → List Request → List Request
left_from [] requests = requests
left_from (moment ∷ moments) requests = left_from moments (undue moment requests)

pub notes_from-append : (first second : List State) (requests : List Request) → notes_from (first ++ second) requests ≡ notes_from first requests ++ notes_from second (left_from first requests)
notes_from-append [] second requests = refl
notes_from-append (moment ∷ first) second requests =
    ap (λ (notes : List Fulfilled). due_notes moment requests ++ notes) (notes_from-append first second (undue moment requests))
    ∙ sym (append_assoc (due_notes moment requests) (notes_from first (undue moment requests)) (notes_from second (left_from first (undue moment requests))))

pub left_from-append : (first second : List State) (requests : List Request) → left_from (first ++ second) requests ≡ left_from second (left_from first requests)
left_from-append [] second requests = refl
left_from-append (moment ∷ first) second requests = left_from-append first second (undue moment requests)

pub notes_from-none : (moments : List State) → notes_from moments [] ≡ []
notes_from-none [] = refl
notes_from-none (moment ∷ moments) = notes_from-none moments

pub left_from-none : (moments : List State) → left_from moments [] ≡ []
left_from-none [] = refl
left_from-none (moment ∷ moments) = left_from-none moments

pub notes_from-one : (request : Request) (moments : List State) → notes_from moments (request ∷ []) ≡ note_at_first request moments
notes_from-one request [] = refl
notes_from-one request (moment ∷ moments) =
    elim (is_due moment request) as (λ b. map (note_at moment.wall) (if b then request ∷ [] else []) ++ notes_from moments (if (not b) then request ∷ [] else [])
    ≡ (if b then note_at moment.wall request ∷ [] else note_at_first request moments)) [
      | true ↦ ap (λ (notes : List Fulfilled). note_at moment.wall request ∷ notes) (notes_from-none moments)
      | false ↦ notes_from-one request moments
    ]

-- a lesser media time is reached where a greater one is
pub reached-lesser : (pace : Option Pace) (wall one two : ℕ) → one ≤ two → is_reached pace wall two ≡ true → is_reached pace wall one ≡ true
reached-lesser None wall one two h reached = reached
reached-lesser (Some pace) wall one two h reached = le-true one two (media_at pace wall) h reached
  where
    le-true : (a b c : ℕ) → a ≤ b → nat_le b c ≡ true → nat_le a c ≡ true
    le-true a b c h k = grind (arith, common_steps)

pub notes_from-two : (one two : Request) (moments : List State) → one.media ≤ two.media → notes_from moments (one ∷ two ∷ []) ≡ note_at_first one moments ++ note_at_first two moments
notes_from-two one two [] less = refl
notes_from-two one two (moment ∷ moments) less =
    at (notes_from-two one two moments less) (is_due moment one) (is_due moment two) (reached-lesser (pace_of moment.motion moment.scale) moment.wall one.media two.media less)
  where
    false-true : false ≡ true → ⊥
    false-true h = cc

    at : notes_from moments (one ∷ two ∷ []) ≡ note_at_first one moments ++ note_at_first two moments → (a b : Bool) → (b ≡ true → a ≡ true) →
        map (note_at moment.wall) (if a then one ∷ (if b then two ∷ [] else []) else (if b then two ∷ [] else []))
        ++ notes_from moments (if (not a) then one ∷ (if (not b) then two ∷ [] else []) else (if (not b) then two ∷ [] else []))
        ≡ (if a then note_at moment.wall one ∷ [] else note_at_first one moments) ++ (if b then note_at moment.wall two ∷ [] else note_at_first two moments)
    at later true true h = ap (λ (notes : List Fulfilled). note_at moment.wall one ∷ note_at moment.wall two ∷ notes) (notes_from-none moments)
    at later true false h = ap (λ (notes : List Fulfilled). note_at moment.wall one ∷ notes) (notes_from-one two moments)
    at later false true h = absurd (false-true (h refl))
    at later false false h = later

-- ---- the picked requests go as in a clock of their own

pub now-noted : (p : ℕ → Bool) (state : State) → noted p (notes_now state) ≡ due_notes state (with_ids p state.requests)
now-noted p state =
    noted-notes p state.wall (filter (is_due state) state.requests) ∙ ap (map (note_at state.wall)) (filter-comm (λ (r : Request). p r.id) (is_due state) state.requests)

pub now-left : (p : ℕ → Bool) (state : State) → with_ids p (fulfilled state).requests ≡ undue state (with_ids p state.requests)
now-left p state = filter-comm (λ (r : Request). p r.id) (λ (request : Request). not (is_due state request)) state.requests

pub passing-noted : (p : ℕ → Bool) (n : ℕ) (state : State) → noted p (notes_passing n state) ≡ notes_from (moments_passing n state) (with_ids p state.requests)
passing-noted p zero state = refl
passing-noted p (suc n) state =
    filter-append (λ (note : Fulfilled). p note.id) (notes_now (next_moment state)) (notes_passing n (fulfilled (next_moment state)))
    ∙ (ap (λ (notes : List Fulfilled). notes ++ noted p (notes_passing n (fulfilled (next_moment state)))) (now-noted p (next_moment state))
    ∙ ap (λ (notes : List Fulfilled). due_notes (next_moment state) (with_ids p state.requests) ++ notes)
    (passing-noted p n (fulfilled (next_moment state)) ∙ ap (notes_from (moments_passing n (fulfilled (next_moment state)))) (now-left p (next_moment state))))

pub passing-left : (p : ℕ → Bool) (n : ℕ) (state : State) → with_ids p (passed n state).requests ≡ left_from (moments_passing n state) (with_ids p state.requests)
passing-left p zero state = refl
passing-left p (suc n) state =
    passing-left p n (fulfilled (next_moment state)) ∙ ap (left_from (moments_passing n (fulfilled (next_moment state)))) (now-left p (next_moment state))

-- an act that leaves the picked requests
abbrev pub Leaves : (ℕ → Bool) → ClockAct → Type 0
Leaves p (Ask id media) = p id ≡ false
Leaves p (Cancel id) = p id ≡ false
Leaves p other = Unit {0}

pub act-leaves : (p : ℕ → Bool) (act : ClockAct) (requests : List Request) → Leaves p act → with_ids p (requests_after act requests) ≡ with_ids p requests
act-leaves p (Ask id media) requests h = with_ids-queued p (record { id = id; media = media }) requests h
act-leaves p (Cancel id) requests h = with_ids-cancelled p id requests h
act-leaves p (Start media) requests h = refl
act-leaves p Stop requests h = refl
act-leaves p (Scale scale) requests h = refl
act-leaves p (Wait mask) requests h = refl
act-leaves p (Port port media) requests h = refl
act-leaves p Pass requests h = refl

pub before_last-left : (p : ℕ → Bool) (state : State) (wall : ℕ) (act : ClockAct) → Leaves p act →
    with_ids p (before_last_notes state wall act).requests ≡ left_from (moments_passing (wall - state.wall) state) (with_ids p state.requests)
before_last-left p state wall act leaves = act-leaves p act (passed (wall - state.wall) state).requests leaves ∙ passing-left p (wall - state.wall) state

pub accepted-noted : (p : ℕ → Bool) (state : State) (wall : ℕ) (act : ClockAct) → Leaves p act → noted p (notes_of state wall act) ≡ notes_from (moments_of state wall act) (with_ids p state.requests)
accepted-noted p state wall act leaves =
    filter-append (λ (note : Fulfilled). p note.id) (notes_passing (wall - state.wall) state) (notes_now (before_last_notes state wall act))
    ∙ (ap (λ (notes : List Fulfilled). notes ++ noted p (notes_now (before_last_notes state wall act))) (passing-noted p (wall - state.wall) state)
    ∙ (ap (λ (notes : List Fulfilled). notes_from (moments_passing (wall - state.wall) state) (with_ids p state.requests) ++ notes)
    (now-noted p (before_last_notes state wall act)
    ∙ (ap (due_notes (before_last_notes state wall act)) (before_last-left p state wall act leaves)
    ∙ sym (append-none (due_notes (before_last_notes state wall act) (left_from (moments_passing (wall - state.wall) state) (with_ids p state.requests))))))
    ∙ sym (notes_from-append (moments_passing (wall - state.wall) state) (before_last_notes state wall act ∷ []) (with_ids p state.requests))))
  where
    append-none : (notes : List Fulfilled) → notes ++ [] ≡ notes
    append-none [] = refl
    append-none (note ∷ notes) = ap (λ (xs : List Fulfilled). note ∷ xs) (append-none notes)

pub accepted-left : (p : ℕ → Bool) (state : State) (wall : ℕ) (act : ClockAct) → Leaves p act → with_ids p (state_after state wall act).requests ≡ left_from (moments_of state wall act) (with_ids p state.requests)
accepted-left p state wall act leaves =
    now-left p (before_last_notes state wall act)
    ∙ (ap (undue (before_last_notes state wall act)) (before_last-left p state wall act leaves)
    ∙ sym (left_from-append (moments_passing (wall - state.wall) state) (before_last_notes state wall act ∷ []) (with_ids p state.requests)))

pub call-noted : (p : ℕ → Bool) (state : State) (wall : ℕ) (act : ClockAct) (refusal : Option ClockRefusal) → (refusal ≡ None → Leaves p act) →
    noted p (notes_unless refusal (notes_of state wall act)) ≡ notes_from (moments_unless refusal (moments_of state wall act)) (with_ids p state.requests)
call-noted p state wall act None leaves = accepted-noted p state wall act (leaves refl)
call-noted p state wall act (Some refusal) leaves = refl

pub call-left : (p : ℕ → Bool) (state : State) (wall : ℕ) (act : ClockAct) (refusal : Option ClockRefusal) → (refusal ≡ None → Leaves p act) →
    with_ids p (state_unless refusal (state_after state wall act) state).requests ≡ left_from (moments_unless refusal (moments_of state wall act)) (with_ids p state.requests)
call-left p state wall act None leaves = accepted-left p state wall act (leaves refl)
call-left p state wall act (Some refusal) leaves = refl

-- ---- along calls

abbrev pub LeaveAll : (ℕ → Bool) → State → List TimedAct → Type 0
LeaveAll p state [] = Unit {0}
LeaveAll p state (call ∷ calls) = (refusal_of state call.wall call.act ≡ None → Leaves p call.act) × LeaveAll p (after_call state call.wall call.act) calls

pub calls-left : (p : ℕ → Bool) (calls : List TimedAct) (state : State) → LeaveAll p state calls →
    with_ids p (state_after_calls state calls).requests ≡ left_from (moments_of_calls state calls) (with_ids p state.requests)
calls-left p [] state leave = refl
calls-left p (call ∷ calls) state leave =
    calls-left p calls (after_call state call.wall call.act) leave.1
    ∙ (ap (left_from (moments_of_calls (after_call state call.wall call.act) calls)) (call-left p state call.wall call.act (refusal_of state call.wall call.act) leave.0)
    ∙ sym (left_from-append (moments_of_call state call.wall call.act) (moments_of_calls (after_call state call.wall call.act) calls) (with_ids p state.requests)))

pub calls-noted : (p : ℕ → Bool) (calls : List TimedAct) (state : State) → LeaveAll p state calls →
    noted p (notes_of_calls state calls) ≡ notes_from (moments_of_calls state calls) (with_ids p state.requests)
calls-noted p [] state leave = refl
calls-noted p (call ∷ calls) state leave =
    filter-append (λ (note : Fulfilled). p note.id) (notes_of_call state call.wall call.act) (notes_of_calls (after_call state call.wall call.act) calls)
    ∙ (ap (λ (notes : List Fulfilled). notes ++ noted p (notes_of_calls (after_call state call.wall call.act) calls)) (call-noted p state call.wall call.act (refusal_of state call.wall call.act) leave.0)
    ∙ (ap (λ (notes : List Fulfilled). notes_from (moments_of_call state call.wall call.act) (with_ids p state.requests) ++ notes)
    (calls-noted p calls (after_call state call.wall call.act) leave.1
    ∙ ap (notes_from (moments_of_calls (after_call state call.wall call.act) calls)) (call-left p state call.wall call.act (refusal_of state call.wall call.act) leave.0))
    ∙ sym (notes_from-append (moments_of_call state call.wall call.act) (moments_of_calls (after_call state call.wall call.act) calls) (with_ids p state.requests))))

pub along-noted : (p : ℕ → Bool) (calls : List TimedAct) (more : ℕ) (state : State) → LeaveAll p state calls →
    noted p (notes_along state calls more) ≡ notes_from (moments_along state calls more) (with_ids p state.requests)
along-noted p calls more state leave =
    filter-append (λ (note : Fulfilled). p note.id) (notes_of_calls state calls) (notes_passing more (state_after_calls state calls))
    ∙ (ap (λ (notes : List Fulfilled). notes ++ noted p (notes_passing more (state_after_calls state calls))) (calls-noted p calls state leave)
    ∙ (ap (λ (notes : List Fulfilled). notes_from (moments_of_calls state calls) (with_ids p state.requests) ++ notes)
    (passing-noted p more (state_after_calls state calls) ∙ ap (notes_from (moments_passing more (state_after_calls state calls))) (calls-left p calls state leave))
    ∙ sym (notes_from-append (moments_of_calls state calls) (moments_passing more (state_after_calls state calls)) (with_ids p state.requests))))

-- acts on other ids
pub other-leaves : (id : ℕ) (act : ClockAct) → IsOther id act → Leaves (λ (x : ℕ). x == id) act
other-leaves id (Ask other media) h = eq-false other id h
other-leaves id (Cancel other) h = eq-false other id h
other-leaves id (Start media) h = tt
other-leaves id Stop h = tt
other-leaves id (Scale scale) h = tt
other-leaves id (Wait mask) h = tt
other-leaves id (Port port media) h = tt
other-leaves id Pass h = tt

pub others-leave : (id : ℕ) (calls : List TimedAct) (state : State) → AreOthers id state calls → LeaveAll (λ (x : ℕ). x == id) state calls
others-leave id [] state others = tt
others-leave id (call ∷ calls) state others =
    (λ accepted. other-leaves id call.act (others.0 accepted), others-leave id calls (after_call state call.wall call.act) others.1)

pub either-leaves : (one two : ℕ) (act : ClockAct) → Leaves (λ (x : ℕ). x == one) act → Leaves (λ (x : ℕ). x == two) act → Leaves (λ (x : ℕ). (x == one) || (x == two)) act
either-leaves one two (Ask other media) h k = ap (λ (b : Bool). b || (other == two)) h ∙ k
either-leaves one two (Cancel other) h k = ap (λ (b : Bool). b || (other == two)) h ∙ k
either-leaves one two (Start media) h k = tt
either-leaves one two Stop h k = tt
either-leaves one two (Scale scale) h k = tt
either-leaves one two (Wait mask) h k = tt
either-leaves one two (Port port media) h k = tt
either-leaves one two Pass h k = tt

pub both-leave : (one two : ℕ) (calls : List TimedAct) (state : State) → AreOthers one state calls → AreOthers two state calls → LeaveAll (λ (x : ℕ). (x == one) || (x == two)) state calls
both-leave one two [] state first second = tt
both-leave one two (call ∷ calls) state first second = (
  λ accepted. either-leaves one two call.act (other-leaves one call.act (first.0 accepted)) (other-leaves two call.act (second.0 accepted)),
  both-leave one two calls (after_call state call.wall call.act) first.1 second.1,
)

-- ---- what holds of each state that is reached

pub record IsTidy (requests : List Request) : Type 0 where
  pub ordered : AreInOrder requests
  pub distinct : AreDistinct requests

pub tidy-filter : (q : Request → Bool) (requests : List Request) → IsTidy requests → IsTidy (filter q requests)
tidy-filter q requests tidy = record { ordered = AreInOrder-filter q requests tidy.ordered; distinct = AreDistinct-filter q requests tidy.distinct }

pub tidy-passed : (n : ℕ) (state : State) → IsTidy state.requests → IsTidy (passed n state).requests
tidy-passed zero state tidy = tidy
tidy-passed (suc n) state tidy = tidy-passed n (fulfilled (next_moment state)) (tidy-filter _ state.requests tidy)

-- one that may be asked for isn't there
pub asked-absent : (state : State) (wall id media : ℕ) → refusal_of state wall (Ask id media) ≡ None → filter (has_id id) state.requests ≡ []
asked-absent state wall id media accepted =
    absent-none id state.requests (not-refused (list_any (has_id id) state.requests) Taken _ (accepted-act state wall (Ask id media) accepted)).0

pub passed-absent : (id n : ℕ) (state : State) → filter (has_id id) state.requests ≡ [] → filter (has_id id) (passed n state).requests ≡ []
passed-absent id n state none = passing-left (λ (x : ℕ). x == id) n state ∙ (ap (left_from (moments_passing n state)) none ∙ left_from-none (moments_passing n state))

pub tidy-acted : (state : State) (wall : ℕ) (act : ClockAct) → refusal_of state wall act ≡ None → IsTidy state.requests → IsTidy (before_last_notes state wall act).requests
tidy-acted state wall act accepted tidy = record {
  ordered = act-ordered act (passed (wall - state.wall) state).requests (tidy-passed (wall - state.wall) state tidy).ordered;
  distinct = distinct-acted act accepted;
}
  where
    before : AreDistinct (passed (wall - state.wall) state).requests
    before = (tidy-passed (wall - state.wall) state tidy).distinct

    distinct-acted : (a : ClockAct) → refusal_of state wall a ≡ None → AreDistinct (requests_after a (passed (wall - state.wall) state).requests)
    distinct-acted (Ask id media) h =
        AreDistinct-queued (record { id = id; media = media }) (passed (wall - state.wall) state).requests
        (passed-absent id (wall - state.wall) state (asked-absent state wall id media h)) before
    distinct-acted (Cancel id) h = AreDistinct-filter (λ (request : Request). not (has_id id request)) (passed (wall - state.wall) state).requests before
    distinct-acted (Start media) h = before
    distinct-acted Stop h = before
    distinct-acted (Scale scale) h = before
    distinct-acted (Wait mask) h = before
    distinct-acted (Port port media) h = before
    distinct-acted Pass h = before

pub tidy-call : (state : State) (wall : ℕ) (act : ClockAct) (refusal : Option ClockRefusal) → refusal_of state wall act ≡ refusal → IsTidy state.requests →
    IsTidy (state_unless refusal (state_after state wall act) state).requests
tidy-call state wall act None is tidy = tidy-filter _ (before_last_notes state wall act).requests (tidy-acted state wall act is tidy)
tidy-call state wall act (Some refusal) is tidy = tidy

pub tidy-calls : (calls : List TimedAct) (state : State) → IsTidy state.requests → IsTidy (state_after_calls state calls).requests
tidy-calls [] state tidy = tidy
tidy-calls (call ∷ calls) state tidy = tidy-calls calls (after_call state call.wall call.act) (tidy-call state call.wall call.act (refusal_of state call.wall call.act) refl tidy)

-- ---- the laws

pub passing-moments : (n : ℕ) (state : State) → notes_passing n state ≡ flat_map notes_now (moments_passing n state)
passing-moments zero state = refl
passing-moments (suc n) state =
    ap (λ (notes : List Fulfilled). notes_now (next_moment state) ++ notes) (passing-moments n (fulfilled (next_moment state)))
    ∙ sym (flat_map-cons notes_now (next_moment state) (moments_passing n (fulfilled (next_moment state))))

pub call-moments : (state : State) (wall : ℕ) (act : ClockAct) (refusal : Option ClockRefusal) → notes_unless refusal (notes_of state wall act) ≡ flat_map notes_now (moments_unless refusal (moments_of state wall act))
call-moments state wall act None =
    ap (λ (notes : List Fulfilled). notes ++ notes_now (before_last_notes state wall act)) (passing-moments (wall - state.wall) state)
    ∙ (ap (λ (notes : List Fulfilled). flat_map notes_now (moments_passing (wall - state.wall) state) ++ notes) (sym (flat_map_one (before_last_notes state wall act)))
    ∙ sym (flat_map-append notes_now (moments_passing (wall - state.wall) state) (before_last_notes state wall act ∷ [])))
  where
    append-none : (notes : List Fulfilled) → notes ++ [] ≡ notes
    append-none [] = refl
    append-none (note ∷ notes) = ap (λ (xs : List Fulfilled). note ∷ xs) (append-none notes)

    flat_map_one : (moment : State) → flat_map notes_now (moment ∷ []) ≡ notes_now moment
    flat_map_one moment = flat_map-cons notes_now moment [] ∙ append-none (notes_now moment)
call-moments state wall act (Some refusal) = refl

pub calls-moments : (calls : List TimedAct) (state : State) → notes_of_calls state calls ≡ flat_map notes_now (moments_of_calls state calls)
calls-moments [] state = refl
calls-moments (call ∷ calls) state =
    ap (λ (notes : List Fulfilled). notes ++ notes_of_calls (after_call state call.wall call.act) calls) (call-moments state call.wall call.act (refusal_of state call.wall call.act))
    ∙ (ap (λ (notes : List Fulfilled). flat_map notes_now (moments_of_call state call.wall call.act) ++ notes) (calls-moments calls (after_call state call.wall call.act))
    ∙ sym (flat_map-append notes_now (moments_of_call state call.wall call.act) (moments_of_calls (after_call state call.wall call.act) calls)))

pub along-moments : (calls : List TimedAct) (more : ℕ) (state : State) → notes_along state calls more ≡ flat_map notes_now (moments_along state calls more)
along-moments calls more state =
    ap (λ (notes : List Fulfilled). notes ++ notes_passing more (state_after_calls state calls)) (calls-moments calls state)
    ∙ (ap (λ (notes : List Fulfilled). flat_map notes_now (moments_of_calls state calls) ++ notes) (passing-moments more (state_after_calls state calls))
    ∙ sym (flat_map-append notes_now (moments_of_calls state calls) (moments_passing more (state_after_calls state calls))))

pub fulfilled-once : (state : State) (wall : ℕ) (request : Request) → IsFulfilledOnce state wall request
fulfilled-once state wall request accepted calls more others =
    filter-append (λ (note : Fulfilled). note.id == request.id) (notes_of state wall act) (notes_along (state_after state wall act) calls more)
    ∙ (ap (λ (notes : List Fulfilled). notes ++ noted p (notes_along (state_after state wall act) calls more)) asked-notes
    ∙ (ap (λ (notes : List Fulfilled). due_notes (before_last_notes state wall act) (request ∷ []) ++ notes)
    (along-noted p calls more (state_after state wall act) (others-leave request.id calls (state_after state wall act) others)
    ∙ ap (notes_from (moments_along (state_after state wall act) calls more)) (now-left p (before_last_notes state wall act) ∙ ap (undue (before_last_notes state wall act)) alone))
    ∙ notes_from-one request (before_last_notes state wall act ∷ moments_along (state_after state wall act) calls more)))
  where
    act : ClockAct
    act = Ask request.id request.media

    p : ℕ → Bool
    p = λ (x : ℕ). x == request.id

    absent : with_ids p state.requests ≡ []
    absent = asked-absent state wall request.id request.media accepted

    alone : with_ids p (before_last_notes state wall act).requests ≡ request ∷ []
    alone = queued-alone p request (passed (wall - state.wall) state).requests (eq-true request.id) (passed-absent request.id (wall - state.wall) state absent)

    asked-notes : noted p (notes_of state wall act) ≡ due_notes (before_last_notes state wall act) (request ∷ [])
    asked-notes =
        filter-append (λ (note : Fulfilled). p note.id) (notes_passing (wall - state.wall) state) (notes_now (before_last_notes state wall act))
        ∙ (ap (λ (notes : List Fulfilled). notes ++ noted p (notes_now (before_last_notes state wall act)))
        (passing-noted p (wall - state.wall) state ∙ (ap (notes_from (moments_passing (wall - state.wall) state)) absent ∙ notes_from-none (moments_passing (wall - state.wall) state)))
        ∙ (now-noted p (before_last_notes state wall act) ∙ ap (due_notes (before_last_notes state wall act)) alone))

pub has-no_notes : (state : State) (id : ℕ) → HasNoNotes state id
has-no_notes state id absent calls more others =
    along-noted (λ (x : ℕ). x == id) calls more state (others-leave id calls state others)
    ∙ (ap (notes_from (moments_along state calls more)) (absent-none id state.requests absent) ∙ notes_from-none (moments_along state calls more))

pub fulfilled-first : (before : List TimedAct) (one two : Request) → IsFulfilledFirst (reached before) one two
fulfilled-first before one two first second less calls more others_one others_two =
    along-noted (λ (x : ℕ). (x == one.id) || (x == two.id)) calls more state (both-leave one.id two.id calls state others_one others_two)
    ∙ (ap (notes_from (moments_along state calls more)) (either-both one two state.requests tidy.distinct tidy.ordered first second less)
    ∙ notes_from-two one two (moments_along state calls more) (omega (arith, less)))
  where
    state : State
    state = reached before

    tidy : IsTidy state.requests
    tidy = tidy-calls before opening (record { ordered = tt; distinct = tt })
