-- What an accepted call comes to, by division.
use Rattle.std.proofs.Common.{◌≡◌, ℕ, ◌+◌, ◌-◌, ◌*◌, ◌/◌, ◌^◌, ◌<◌, ◌≤◌, List, [], ◌++◌, length, take, drop, refl, sym, ap, ◌∙◌, length-append, arith}
use Rattle.std.specs.Prelude.{not, ◌==◌, nat_lt, Bool, true, false, Option, Some, None, if◌then◌else◌}
use Rattle.std.specs.List.{list_any}
use Rattle.std.proofs.lemmas.Grind.{common_steps}
use Rattle.std.proofs.lemmas.List.{take-append-drop, drop-drop, length-map}
use Rattle.std.proofs.Math.Nat.{mul-le-mul_left, div-le_of_le-mul}
use Rattle.clock_core.specs.Clock.{State, acted, before_last_notes, fulfilled, has_id, is_due, least_of, motion_after, notes_now, notes_of, pace_of, passed, refusal_of, refusal_of_act, refusal_of_request, requests_after, rescaled, scale_after, state_after, answered, HasMediaWithin}
use Rattle.clock_core.specs.Due.{AreInOrder, due_until, left_after, note_from, notes_until}
use Rattle.clock_core.specs.Kept.{IsKept, IsReachable, IsWithin, HasRoomFor}
use Rattle.clock_core.specs.Pace.{media_at}
use Rattle.clock_core.specs.declared.act.ClockAct.{ClockAct}
use Rattle.clock_core.specs.declared.act.ClockAct.TheVariants.{Start, Stop, Scale, Wait, Port, Ask, Cancel, Pass}
use Rattle.clock_core.specs.declared.act.ClockRefusal.{ClockRefusal}
use Rattle.clock_core.specs.declared.act.ClockRefusal.TheVariants.{Backwards, BadScale, Taken, Full}
use Rattle.clock_core.specs.declared.act.Fulfilled.{Fulfilled}
use Rattle.clock_core.specs.declared.act.Request.{Request}
use Rattle.clock_core.specs.declared.motion.Motion.{Motion}
use Rattle.clock_core.specs.declared.motion.Motion.TheVariants.{Stopped, Running, Waiting}
use Rattle.clock_core.specs.declared.pace.Pace.{Pace}
use Rattle.clock_core.proofs.DueLaws.{due-stands, left-stands, due-left, length-due-left}
use Rattle.clock_core.proofs.Ordering.{AreInOrder-filter, AreInOrder-queued, length-queued, length-filter_le}
use Rattle.clock_core.proofs.Passing.{at_moment, passing-notes, passing-state, here-notes}

-- a test that leads to no refusal
pub not-refused : (b : Bool) (refusal : ClockRefusal) (other : Option ClockRefusal) → (if b then Some refusal else other) ≡ None → (b ≡ false) × (other ≡ None)
not-refused true refusal other h = absurd (some-none h)
  where
    some-none : Some refusal ≡ None → ⊥
    some-none e = cc
not-refused false refusal other h = (refl, h)

pub passes-test : (b : Bool) (refusal : ClockRefusal) → (if b then None else Some refusal) ≡ None → b ≡ true
passes-test true refusal h = refl
passes-test false refusal h = absurd (some-none h)
  where
    some-none : Some refusal ≡ None → ⊥
    some-none e = cc

pub lt-of_true : (a b : ℕ) → nat_lt a b ≡ true → a < b
lt-of_true a b h = grind (arith, common_steps)

pub le-of_false : (a b : ℕ) → nat_lt a b ≡ false → b ≤ a
le-of_false a b h = grind (arith, common_steps)

-- an accepted call isn't before the last one
pub accepted-later : (state : State) (wall : ℕ) (act : ClockAct) → refusal_of state wall act ≡ None → state.wall ≤ wall
accepted-later state wall act h = le-of_false wall state.wall (not-refused (nat_lt wall state.wall) (Backwards state.wall) (refusal_of_act state.motion state.requests act) h).0

pub accepted-act : (state : State) (wall : ℕ) (act : ClockAct) → refusal_of state wall act ≡ None → refusal_of_act state.motion state.requests act ≡ None
accepted-act state wall act h = (not-refused (nat_lt wall state.wall) (Backwards state.wall) (refusal_of_act state.motion state.requests act) h).1

-- each request is due or left
pub length-until : (pace : Option Pace) (wall : ℕ) (requests : List Request) → length (due_until pace wall requests) + length (left_after pace wall requests) ≡ length requests
length-until None wall requests = omega (arith, ap length (due-stands wall requests), ap length (left-stands wall requests))
length-until (Some pace) wall requests = length-due-left (media_at pace wall) requests

pub due-left_until : (pace : Option Pace) (wall : ℕ) (requests : List Request) → due_until pace wall (left_after pace wall requests) ≡ []
due-left_until None wall requests = due-stands wall (left_after None wall requests)
due-left_until (Some pace) wall requests = due-left (media_at pace wall) requests

pub asked-room : (id : ℕ) (requests : List Request) → refusal_of_request id requests ≡ None → length requests < 64
asked-room id requests h =
    lt-of_true (length requests) 64
    (passes-test (nat_lt (length requests) 64) Full (not-refused (list_any (has_id id) requests) Taken (if nat_lt (length requests) 64 then None else Some Full) h).1)

pub act-room : (motion : Motion) (requests rest : List Request) (act : ClockAct) → refusal_of_act motion requests act ≡ None → length rest ≤ length requests → HasRoomFor act rest
act-room motion requests rest (Start media) h fewer = tt
act-room motion requests rest Stop h fewer = tt
act-room motion requests rest (Scale scale) h fewer = tt
act-room motion requests rest (Wait mask) h fewer = tt
act-room motion requests rest (Port port media) h fewer = tt
act-room motion requests rest (Ask id media) h fewer = omega (arith, asked-room id requests h)
act-room motion requests rest (Cancel id) h fewer = tt
act-room motion requests rest Pass h fewer = tt

-- an act keeps the order, and adds one request at most
pub act-ordered : (act : ClockAct) (requests : List Request) → AreInOrder requests → AreInOrder (requests_after act requests)
act-ordered (Start media) requests ordered = ordered
act-ordered Stop requests ordered = ordered
act-ordered (Scale scale) requests ordered = ordered
act-ordered (Wait mask) requests ordered = ordered
act-ordered (Port port media) requests ordered = ordered
act-ordered (Ask id media) requests ordered = AreInOrder-queued (record { id = id; media = media }) requests ordered
act-ordered (Cancel id) requests ordered = AreInOrder-filter _ requests ordered
act-ordered Pass requests ordered = ordered

pub act-few : (motion : Motion) (requests rest : List Request) (gone : ℕ) (act : ClockAct) → refusal_of_act motion requests act ≡ None → length requests ≤ 64 → gone + length rest ≡ length requests →
    gone + length (requests_after act rest) ≤ 64
act-few motion requests rest gone (Start media) h few parts = omega arith
act-few motion requests rest gone Stop h few parts = omega arith
act-few motion requests rest gone (Scale scale) h few parts = omega arith
act-few motion requests rest gone (Wait mask) h few parts = omega arith
act-few motion requests rest gone (Port port media) h few parts = omega arith
act-few motion requests rest gone (Ask id media) h few parts = omega (arith, asked-room id requests h, length-queued (record { id = id; media = media }) rest)
act-few motion requests rest gone (Cancel id) h few parts = omega (arith, length-filter_le (λ (request : Request). not (has_id id request)) rest)
act-few motion requests rest gone Pass h few parts = omega arith

-- the scale stays within its limit
pub act-scale : (motion : Motion) (requests : List Request) (scale : ℕ) (act : ClockAct) → refusal_of_act motion requests act ≡ None → scale ≤ 2 ^ 20 → scale_after act scale ≤ 2 ^ 20
act-scale motion requests scale (Start media) h slow = slow
act-scale motion requests scale Stop h slow = slow
act-scale motion requests scale (Scale next) h slow = le-of_false 1048576 next (not-refused (nat_lt 1048576 next) BadScale None h).0
act-scale motion requests scale (Wait mask) h slow = slow
act-scale motion requests scale (Port port media) h slow = slow
act-scale motion requests scale (Ask id media) h slow = slow
act-scale motion requests scale (Cancel id) h slow = slow
act-scale motion requests scale Pass h slow = slow

-- a media time that can be reached stays one
pub reachable-later : (motion : Motion) (early late : ℕ) → early ≤ late → IsReachable early motion → IsReachable late motion
reachable-later Stopped early late h reachable = tt
reachable-later (Running since media) early late h reachable = (omega (arith, reachable.0), reachable.1)
reachable-later (Waiting ports least) early late h reachable = reachable

-- sixteen times the moments is the most that passes
pub media_at-bound : (elapsed scale : ℕ) → scale ≤ 2 ^ 20 → elapsed * scale / 65536 ≤ 16 * elapsed
media_at-bound elapsed scale h =
    let product : elapsed * scale ≤ elapsed * 1048576 = mul-le-mul_left elapsed h in
    div-le_of_le-mul 65536 {m = elapsed * scale} {n = 16 * elapsed} (omega (arith, product))

pub least-within : (least : Option ℕ) (media : ℕ) → IsWithin least → media ≤ 2 ^ 53 → least_of least media ≤ 2 ^ 53
least-within None media h k = k
least-within (Some other) media h k = omega (arith, h, k)

pub answered-reachable : (motion : Motion) (wall port media : ℕ) → IsReachable wall motion → media ≤ 2 ^ 53 → IsReachable wall (answered wall port media motion)
answered-reachable Stopped wall port media reachable h = tt
answered-reachable (Running since from) wall port media reachable h = reachable
answered-reachable (Waiting ports least) wall port media reachable h =
    elim (ports - 2 ^ port == 0) as (λ last. IsReachable wall (if last then Running wall (least_of least media) else Waiting (ports - 2 ^ port) (Some (least_of least media)))) [
      | true ↦ (omega arith, omega (arith, least-within least media reachable h))
      | false ↦ least-within least media reachable h
    ]

pub rescaled-reachable : (motion : Motion) (wall scale : ℕ) → scale ≤ 2 ^ 20 → IsReachable wall motion → IsReachable wall (rescaled wall scale motion)
rescaled-reachable Stopped wall scale slow reachable = tt
rescaled-reachable (Running since media) wall scale slow reachable = (omega arith, omega (arith, reachable.0, reachable.1, media_at-bound (wall - since) scale slow))
rescaled-reachable (Waiting ports least) wall scale slow reachable = reachable

pub act-reachable : (motion : Motion) (wall scale : ℕ) (act : ClockAct) → scale ≤ 2 ^ 20 → HasMediaWithin act → IsReachable wall motion → IsReachable wall (motion_after act wall scale motion)
act-reachable motion wall scale (Start media) slow within reachable = (omega arith, omega (arith, within))
act-reachable motion wall scale Stop slow within reachable = tt
act-reachable motion wall scale (Scale next) slow within reachable = rescaled-reachable motion wall scale slow reachable
act-reachable motion wall scale (Wait mask) slow within reachable = tt
act-reachable motion wall scale (Port port media) slow within reachable = answered-reachable motion wall port media reachable within
act-reachable motion wall scale (Ask id media) slow within reachable = reachable
act-reachable motion wall scale (Cancel id) slow within reachable = reachable
act-reachable motion wall scale Pass slow within reachable = reachable

-- what is left when the act is done
abbrev pub left_at : State → ℕ → List Request
left_at state wall = left_after (pace_of state.motion state.scale) wall state.requests

abbrev pub acted_at : State → ℕ → ClockAct → State
acted_at state wall act =
    record { wall = wall; scale = scale_after act state.scale; motion = motion_after act wall state.scale state.motion; requests = requests_after act (left_at state wall) }

pub before_last_notes-is : (state : State) (wall : ℕ) (act : ClockAct) → IsKept state → state.wall ≤ wall → before_last_notes state wall act ≡ acted_at state wall act
before_last_notes-is state wall act kept later =
    let reached : state.wall + (wall - state.wall) ≡ wall = omega (arith, later) in
    ap (acted act)
    (passing-state state.motion (wall - state.wall) state.wall state.scale state.requests kept.none_due
    ∙ ap (λ (w : ℕ). at_moment w state.scale state.motion (left_after (pace_of state.motion state.scale) w state.requests)) reached)

pub state_after-is : (state : State) (wall : ℕ) (act : ClockAct) → IsKept state → state.wall ≤ wall → state_after state wall act ≡ fulfilled (acted_at state wall act)
state_after-is state wall act kept later = ap fulfilled (before_last_notes-is state wall act kept later)

pub notes_of-is : (state : State) (wall : ℕ) (act : ClockAct) → IsKept state → state.wall ≤ wall → HasMediaWithin act →
    notes_of state wall act ≡ notes_until (pace_of state.motion state.scale) state.wall wall state.requests
    ++ notes_until (pace_of (motion_after act wall state.scale state.motion) (scale_after act state.scale)) wall wall (requests_after act (left_at state wall))
notes_of-is state wall act kept later within =
    let reached : state.wall + (wall - state.wall) ≡ wall = omega (arith, later) in
    ap (λ (notes : List Fulfilled). notes ++ notes_now (before_last_notes state wall act))
    (passing-notes state.motion (wall - state.wall) state.wall state.scale state.requests kept.motion kept.ordered kept.none_due
    ∙ ap (λ (w : ℕ). notes_until (pace_of state.motion state.scale) state.wall w state.requests) reached)
    ∙ ap (λ (notes : List Fulfilled). notes_until (pace_of state.motion state.scale) state.wall wall state.requests ++ notes)
    (ap notes_now (before_last_notes-is state wall act kept later)
    ∙ here-notes (motion_after act wall state.scale state.motion) wall (scale_after act state.scale) (requests_after act (left_at state wall))
    (act-reachable state.motion wall state.scale act kept.scale within (reachable-later state.motion state.wall wall later kept.motion)))

-- a clock is kept by an accepted call
pub accepted-kept : (state : State) (wall : ℕ) (act : ClockAct) → IsKept state → wall ≤ 2 ^ 53 → HasMediaWithin act → refusal_of state wall act ≡ None → IsKept (fulfilled (acted_at state wall act))
accepted-kept state wall act kept limit within accepted =
    let later : state.wall ≤ wall = accepted-later state wall act accepted in
    let act_accepted : refusal_of_act state.motion state.requests act ≡ None = accepted-act state wall act accepted in
    let parts : length (due_until (pace_of state.motion state.scale) wall state.requests) + length (left_at state wall) ≡ length state.requests = length-until (pace_of state.motion state.scale) wall state.requests in
    let few : length (due_until (pace_of state.motion state.scale) wall state.requests) + length (requests_after act (left_at state wall)) ≤ 64 = act-few state.motion state.requests (left_at state wall) (length (due_until (pace_of state.motion state.scale) wall state.requests)) act act_accepted kept.few parts in
    let fewer : length (fulfilled (acted_at state wall act)).requests ≤ length (requests_after act (left_at state wall)) = length-filter_le (λ (request : Request). not (is_due (acted_at state wall act) request)) (requests_after act (left_at state wall)) in
    record {
      wall = limit;
      scale = act-scale state.motion state.requests state.scale act act_accepted kept.scale;
      motion = act-reachable state.motion wall state.scale act kept.scale within (reachable-later state.motion state.wall wall later kept.motion);
      few = omega (arith, few, fewer);
      ordered = AreInOrder-filter _ (requests_after act (left_at state wall)) (act-ordered act (left_at state wall) (AreInOrder-filter _ state.requests kept.ordered));
      none_due = due-left_until (pace_of (motion_after act wall state.scale state.motion) (scale_after act state.scale)) wall (requests_after act (left_at state wall));
    }

-- the notes of two runs, one behind the other, at the front of what was there
pub joined : (before between after : List Fulfilled) (first second : List Fulfilled) (p r : ℕ) → take p between ≡ first → drop p between ≡ drop p before → take r after ≡ take p between ++ second → drop r after ≡ drop r between →
    p ≤ r → r ≡ length (first ++ second) → after ≡ (first ++ second) ++ drop (length (first ++ second)) before
joined before between after first second p r taken rest all behind h count =
    let gap : r ≡ p + (r - p) = omega (arith, h) in
    let tail : drop r between ≡ drop r before =
    ap (λ (n : ℕ). drop n between) gap ∙ (sym (drop-drop (r - p) p between) ∙ (ap (drop (r - p)) rest ∙ (drop-drop (r - p) p before ∙ sym (ap (λ (n : ℕ). drop n before) gap)))) in
    sym (take-append-drop r after)
    ∙ (ap (λ (front : List Fulfilled). front ++ drop r after) (all ∙ ap (λ (front : List Fulfilled). front ++ second) taken)
    ∙ (ap (λ (back : List Fulfilled). (first ++ second) ++ back) (behind ∙ tail)
    ∙ ap (λ (n : ℕ). (first ++ second) ++ drop n before) count))

-- the fields at the end
pub final-is : (state : State) (wall : ℕ) (act : ClockAct) (first second : Option Pace) (kept changed last : List Request) (motion : Motion) (scale : ℕ) →
    first ≡ pace_of state.motion state.scale → kept ≡ left_after first wall state.requests → motion ≡ motion_after act wall state.scale state.motion → scale ≡ scale_after act state.scale →
    changed ≡ requests_after act kept → second ≡ pace_of motion scale → last ≡ left_after second wall changed → at_moment wall scale motion last ≡ fulfilled (acted_at state wall act)
final-is state wall act first second kept changed last motion scale a b c d e f g = rw (g, f, e, d, c, b, a) refl

-- the notes at the end
pub final-notes : (first second : Option Pace) (earliest wall : ℕ) (requests changed : List Request) (before between after : List Fulfilled) (p r : ℕ) →
    p ≡ 0 + length (due_until first wall requests) → take p between ≡ take 0 before ++ notes_until first earliest wall requests → drop p between ≡ drop p before →
    r ≡ p + length (due_until second wall changed) → take r after ≡ take p between ++ notes_until second wall wall changed → drop r after ≡ drop r between →
    (r ≡ length (notes_until first earliest wall requests ++ notes_until second wall wall changed))
    × (after ≡ (notes_until first earliest wall requests ++ notes_until second wall wall changed) ++ drop (length (notes_until first earliest wall requests ++ notes_until second wall wall changed)) before)
final-notes first second earliest wall requests changed before between after p r passed taken rest more all behind =
    let count : r ≡ length (notes_until first earliest wall requests ++ notes_until second wall wall changed) =
    omega (arith, length-append (notes_until first earliest wall requests) (notes_until second wall wall changed), length-map (due_until first wall requests) (note_from first earliest), length-map (due_until second wall changed) (note_from second wall)) in
    (count, joined before between after (notes_until first earliest wall requests) (notes_until second wall wall changed) p r taken rest all behind (omega arith) count)

-- they are those of the definition
pub final-notes_are : (state : State) (wall : ℕ) (act : ClockAct) (first second : Option Pace) (kept changed : List Request) (motion : Motion) (scale : ℕ) →
    IsKept state → state.wall ≤ wall → HasMediaWithin act →
    first ≡ pace_of state.motion state.scale → kept ≡ left_after first wall state.requests → motion ≡ motion_after act wall state.scale state.motion → scale ≡ scale_after act state.scale →
    changed ≡ requests_after act kept → second ≡ pace_of motion scale →
    notes_until first state.wall wall state.requests ++ notes_until second wall wall changed ≡ notes_of state wall act
final-notes_are state wall act first second kept changed motion scale is_kept later within a b c d e f =
    rw (f, e, d, c, b, a) (sym (notes_of-is state wall act is_kept later within))
