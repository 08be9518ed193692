-- What division finds is what the clock comes to that goes from moment to moment.
use Rattle.std.proofs.Common.{◌≡◌, ℕ, zero, suc, ◌+◌, ◌<◌, ◌≤◌, List, [], ◌++◌, refl, sym, ap, inl, inr, ◌∙◌, add-zero, arith}
use Rattle.std.specs.Prelude.{map, max, Option, Some, None}
use Rattle.std.proofs.lemmas.Bool.{cases_lt}
use Rattle.std.proofs.lemmas.List.{map-append}
use Rattle.clock_core.specs.Clock.{State, note_at, notes_now, passed, notes_passing, pace_of}
use Rattle.clock_core.specs.Due.{AllFrom, AreInOrder, due_until, left_after, notes_until, note_from}
use Rattle.clock_core.specs.Kept.{IsReachable}
use Rattle.clock_core.specs.Pace.{media_at, first_at}
use Rattle.clock_core.specs.declared.act.Fulfilled.{Fulfilled}
use Rattle.clock_core.specs.declared.act.Request.{Request}
use Rattle.clock_core.specs.declared.motion.Motion.{Motion}
use Rattle.clock_core.specs.declared.motion.Motion.TheVariants.{Stopped, Running, Waiting}
use Rattle.clock_core.specs.declared.pace.Pace.{Pace}
use Rattle.clock_core.proofs.DueLaws.{due, left, due-stands, left-stands, above-due, due-none_from, left-all_from, due-split, left-split, due-left, map-due, from-zero}
use Rattle.clock_core.proofs.Ordering.{AreInOrder-filter}
use Rattle.clock_core.proofs.PaceLaws.{media_at-mono, first_at-le, first_at-reaches}

-- a clock at a moment
abbrev pub at_moment : ℕ → ℕ → Motion → List Request → State
at_moment wall scale motion requests = record { wall = wall; scale = scale; motion = motion; requests = requests }

-- the note of a request that is due, but wasn't at an earlier moment, has a later one
pub first_at-after : (pace : Pace) (media wall until : ℕ) → pace.since ≤ until → media_at pace wall + 1 ≤ media → media ≤ media_at pace until → wall < first_at pace media
first_at-after pace media wall until from above reached = elim (cases_lt wall (first_at pace media)) [
  | inl later ↦ later
  | inr early ↦ absurd (too_early (media_at-mono pace (first_at pace media) wall early) (first_at-reaches pace media until from reached))
]
  where
    too_early : media_at pace (first_at pace media) ≤ media_at pace wall → media ≤ media_at pace (first_at pace media) → ⊥
    too_early h k = omega (arith, h, k, above)

-- the notes at the next moment
pub notes-next : (pace : Pace) (wall : ℕ) (requests : List Request) → pace.since ≤ wall → AllFrom (media_at pace wall + 1) requests →
    map (note_at (wall + 1)) (due (media_at pace (wall + 1)) requests) ≡ map (note_from (Some pace) wall) (due (media_at pace (wall + 1)) requests)
notes-next pace wall requests from above =
    map-due (note_at (wall + 1)) (note_from (Some pace) wall) (media_at pace wall + 1) (media_at pace (wall + 1)) requests same above
  where
    same : (r : Request) → media_at pace wall + 1 ≤ r.media → r.media ≤ media_at pace (wall + 1) → note_at (wall + 1) r ≡ note_from (Some pace) wall r
    same r low reached =
        let late : wall < first_at pace r.media = first_at-after pace r.media wall (wall + 1) (omega arith) low reached in
        let early : first_at pace r.media ≤ wall + 1 = first_at-le pace r.media (wall + 1) (omega arith) reached in
        let moment : wall + 1 ≡ max (first_at pace r.media) wall = omega (arith, late, early) in
        ap (λ (n : ℕ). let note : Fulfilled = record { id = r.id; wall = n } in note) moment

-- the notes at later ones
pub notes-later : (pace : Pace) (wall until : ℕ) (requests : List Request) → pace.since ≤ until → AllFrom (media_at pace (wall + 1) + 1) requests →
    map (note_from (Some pace) (wall + 1)) (due (media_at pace until) requests) ≡ map (note_from (Some pace) wall) (due (media_at pace until) requests)
notes-later pace wall until requests from above =
    map-due (note_from (Some pace) (wall + 1)) (note_from (Some pace) wall) (media_at pace (wall + 1) + 1) (media_at pace until) requests same above
  where
    same : (r : Request) → media_at pace (wall + 1) + 1 ≤ r.media → r.media ≤ media_at pace until → note_from (Some pace) (wall + 1) r ≡ note_from (Some pace) wall r
    same r low reached =
        let late : wall + 1 < first_at pace r.media = first_at-after pace r.media (wall + 1) until from low reached in
        let moment : max (first_at pace r.media) (wall + 1) ≡ max (first_at pace r.media) wall = omega (arith, late) in
        ap (λ (n : ℕ). let note : Fulfilled = record { id = r.id; wall = n } in note) moment

-- the notes of what is due right now
pub notes-here : (pace : Pace) (wall : ℕ) (requests : List Request) → pace.since ≤ wall →
    map (note_at wall) (due (media_at pace wall) requests) ≡ map (note_from (Some pace) wall) (due (media_at pace wall) requests)
notes-here pace wall requests from =
    map-due (note_at wall) (note_from (Some pace) wall) 0 (media_at pace wall) requests same (from-zero requests)
  where
    same : (r : Request) → 0 ≤ r.media → r.media ≤ media_at pace wall → note_at wall r ≡ note_from (Some pace) wall r
    same r low reached =
        let early : first_at pace r.media ≤ wall = first_at-le pace r.media wall from reached in
        let moment : wall ≡ max (first_at pace r.media) wall = omega (arith, early) in
        ap (λ (n : ℕ). let note : Fulfilled = record { id = r.id; wall = n } in note) moment

-- a running clock
pub running-notes : (n wall scale since media : ℕ) (requests : List Request) → since ≤ wall → AreInOrder requests →
    (let pace : Pace = record { since = since; media = media; scale = scale } in AllFrom (media_at pace wall + 1) requests) →
    (let pace : Pace = record { since = since; media = media; scale = scale } in
    notes_passing n (at_moment wall scale (Running since media) requests) ≡ notes_until (Some pace) wall (wall + n) requests)
running-notes zero wall scale since media requests from ordered above =
    let pace : Pace = record { since = since; media = media; scale = scale } in
    sym (ap (λ (w : ℕ). notes_until (Some pace) wall w requests) (add-zero wall) ∙ ap (map (note_from (Some pace) wall)) (due-none_from (media_at pace wall) requests above))
running-notes (suc n) wall scale since media requests from ordered above =
    let pace : Pace = record { since = since; media = media; scale = scale } in
    let rest : List Request = left (media_at pace (wall + 1)) requests in
    let later : wall + 1 + n ≡ wall + suc n = omega arith in
    let rest_above : AllFrom (media_at pace (wall + 1) + 1) rest = above-due (media_at pace (wall + 1)) rest (due-left (media_at pace (wall + 1)) requests) in
    let rest_ordered : AreInOrder rest = AreInOrder-filter _ requests ordered in
    ap (λ (notes : List Fulfilled). map (note_at (wall + 1)) (due (media_at pace (wall + 1)) requests) ++ notes)
    (running-notes n (wall + 1) scale since media rest (omega arith) rest_ordered rest_above
    ∙ (notes-later pace wall (wall + 1 + n) rest (omega arith) rest_above
    ∙ ap (λ (w : ℕ). map (note_from (Some pace) wall) (due (media_at pace w) rest)) later))
    ∙ (ap (λ (notes : List Fulfilled). notes ++ map (note_from (Some pace) wall) (due (media_at pace (wall + suc n)) rest)) (notes-next pace wall requests from above)
    ∙ (sym (map-append (note_from (Some pace) wall) (due (media_at pace (wall + 1)) requests) (due (media_at pace (wall + suc n)) rest))
    ∙ ap (map (note_from (Some pace) wall)) (sym (due-split (media_at pace (wall + 1)) (media_at pace (wall + suc n)) requests (media_at-mono pace (wall + 1) (wall + suc n) (omega arith)) ordered))))

pub running-passed : (n wall scale since media : ℕ) (requests : List Request) →
    (let pace : Pace = record { since = since; media = media; scale = scale } in AllFrom (media_at pace wall + 1) requests) →
    (let pace : Pace = record { since = since; media = media; scale = scale } in
    passed n (at_moment wall scale (Running since media) requests) ≡ at_moment (wall + n) scale (Running since media) (left_after (Some pace) (wall + n) requests))
running-passed zero wall scale since media requests above =
    let pace : Pace = record { since = since; media = media; scale = scale } in
    sym (ap (λ (w : ℕ). at_moment w scale (Running since media) (left_after (Some pace) w requests)) (add-zero wall)
    ∙ ap (at_moment wall scale (Running since media)) (left-all_from (media_at pace wall) requests above))
running-passed (suc n) wall scale since media requests above =
    let pace : Pace = record { since = since; media = media; scale = scale } in
    let rest : List Request = left (media_at pace (wall + 1)) requests in
    let later : wall + 1 + n ≡ wall + suc n = omega arith in
    let rest_above : AllFrom (media_at pace (wall + 1) + 1) rest = above-due (media_at pace (wall + 1)) rest (due-left (media_at pace (wall + 1)) requests) in
    running-passed n (wall + 1) scale since media rest rest_above
    ∙ (ap (λ (w : ℕ). at_moment w scale (Running since media) (left_after (Some pace) w rest)) later
    ∙ ap (at_moment (wall + suc n) scale (Running since media)) (sym (left-split (media_at pace (wall + 1)) (media_at pace (wall + suc n)) requests (media_at-mono pace (wall + 1) (wall + suc n) (omega arith)))))

-- a clock that stands
pub standing-notes : (n wall scale : ℕ) (motion : Motion) (requests : List Request) → pace_of motion scale ≡ None → notes_passing n (at_moment wall scale motion requests) ≡ []
standing-notes zero wall scale motion requests none = refl
standing-notes (suc n) wall scale motion requests none =
    ap (λ (p : Option Pace). map (note_at (wall + 1)) (due_until p (wall + 1) requests) ++ notes_passing n (at_moment (wall + 1) scale motion (left_after (pace_of motion scale) (wall + 1) requests))) none
    ∙ (ap (λ (xs : List Request). map (note_at (wall + 1)) xs ++ notes_passing n (at_moment (wall + 1) scale motion (left_after (pace_of motion scale) (wall + 1) requests))) (due-stands (wall + 1) requests)
    ∙ standing-notes n (wall + 1) scale motion (left_after (pace_of motion scale) (wall + 1) requests) none)

pub standing-passed : (n wall scale : ℕ) (motion : Motion) (requests : List Request) → pace_of motion scale ≡ None → passed n (at_moment wall scale motion requests) ≡ at_moment (wall + n) scale motion requests
standing-passed zero wall scale motion requests none = ap (λ (w : ℕ). at_moment w scale motion requests) (sym (add-zero wall))
standing-passed (suc n) wall scale motion requests none =
    let later : wall + 1 + n ≡ wall + suc n = omega arith in
    ap (λ (p : Option Pace). passed n (at_moment (wall + 1) scale motion (left_after p (wall + 1) requests))) none
    ∙ (ap (λ (xs : List Request). passed n (at_moment (wall + 1) scale motion xs)) (left-stands (wall + 1) requests)
    ∙ (standing-passed n (wall + 1) scale motion requests none ∙ ap (λ (w : ℕ). at_moment w scale motion requests) later))

-- any clock
pub passing-notes : (motion : Motion) (n wall scale : ℕ) (requests : List Request) → IsReachable wall motion → AreInOrder requests → due_until (pace_of motion scale) wall requests ≡ [] →
    notes_passing n (at_moment wall scale motion requests) ≡ notes_until (pace_of motion scale) wall (wall + n) requests
passing-notes Stopped n wall scale requests reachable ordered none =
    standing-notes n wall scale Stopped requests refl ∙ sym (ap (map (note_from None wall)) (due-stands (wall + n) requests))
passing-notes (Running since media) n wall scale requests reachable ordered none =
    let pace : Pace = record { since = since; media = media; scale = scale } in
    running-notes n wall scale since media requests reachable.0 ordered (above-due (media_at pace wall) requests none)
passing-notes (Waiting ports least) n wall scale requests reachable ordered none =
    standing-notes n wall scale (Waiting ports least) requests refl ∙ sym (ap (map (note_from None wall)) (due-stands (wall + n) requests))

pub passing-state : (motion : Motion) (n wall scale : ℕ) (requests : List Request) → due_until (pace_of motion scale) wall requests ≡ [] →
    passed n (at_moment wall scale motion requests) ≡ at_moment (wall + n) scale motion (left_after (pace_of motion scale) (wall + n) requests)
passing-state Stopped n wall scale requests none =
    standing-passed n wall scale Stopped requests refl ∙ ap (at_moment (wall + n) scale Stopped) (sym (left-stands (wall + n) requests))
passing-state (Running since media) n wall scale requests none =
    let pace : Pace = record { since = since; media = media; scale = scale } in
    running-passed n wall scale since media requests (above-due (media_at pace wall) requests none)
passing-state (Waiting ports least) n wall scale requests none =
    standing-passed n wall scale (Waiting ports least) requests refl ∙ ap (at_moment (wall + n) scale (Waiting ports least)) (sym (left-stands (wall + n) requests))

-- right after an act
pub here-notes : (motion : Motion) (wall scale : ℕ) (requests : List Request) → IsReachable wall motion →
    notes_now (at_moment wall scale motion requests) ≡ notes_until (pace_of motion scale) wall wall requests
here-notes Stopped wall scale requests reachable =
    ap (map (note_at wall)) (due-stands wall requests) ∙ sym (ap (map (note_from None wall)) (due-stands wall requests))
here-notes (Running since media) wall scale requests reachable =
    let pace : Pace = record { since = since; media = media; scale = scale } in notes-here pace wall requests reachable.0
here-notes (Waiting ports least) wall scale requests reachable =
    ap (map (note_at wall)) (due-stands wall requests) ∙ sym (ap (map (note_from None wall)) (due-stands wall requests))
