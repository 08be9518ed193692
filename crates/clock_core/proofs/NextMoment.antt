-- The moment of the front request is the next one at which one is fulfilled.
use Rattle.std.proofs.Common.{◌≡◌, ℕ, ◌+◌, ◌-◌, ◌*◌, ◌/◌, ◌^◌, ◌<◌, ◌≤◌, List, [], ◌∷◌, refl, sym, ap, subst, inl, inr, ◌∙◌, arith}
use Rattle.std.specs.Prelude.{map, nat_le, Bool, true, false, Option, Some, None, if◌then◌else◌, IfSome, IsNone, ◌↔◌}
use Rattle.std.proofs.lemmas.Bool.{cases_lt, le-leb}
use Rattle.std.proofs.Math.Nat.{mul-le-mul_left}
use Rattle.clock_core.specs.Clock.{State, notes_passing, pace_of}
use Rattle.clock_core.specs.Due.{note_from}
use Rattle.clock_core.specs.Kept.{IsKept}
use Rattle.clock_core.specs.Next.{IsNextWall, HasNoNext, front_moment}
use Rattle.clock_core.specs.Pace.{media_at, first_at, first_within, IsFirst}
use Rattle.clock_core.specs.declared.act.Fulfilled.{Fulfilled}
use Rattle.clock_core.specs.declared.act.Request.{Request}
use Rattle.clock_core.specs.declared.motion.Motion.{Motion}
use Rattle.clock_core.specs.declared.motion.Motion.TheVariants.{Stopped, Running, Waiting}
use Rattle.clock_core.specs.declared.pace.Pace.{Pace}
use Rattle.clock_core.proofs.DueLaws.{due, above-due, above-false, due-front, due-above, due-none}
use Rattle.clock_core.proofs.PaceLaws.{first_at-IsFirst, first_at-le, le-div, media_at-mono}
use Rattle.clock_core.proofs.Passing.{at_moment, passing-notes, first_at-after}

-- a running clock at a pace
abbrev pub running : Pace → ℕ → List Request → State
running pace wall requests = at_moment wall pace.scale (Running pace.since pace.media) requests

-- the front request is the first one to be fulfilled
pub front-next : (pace : Pace) (wall : ℕ) (first : Request) (rest : List Request) (until : ℕ) → IsKept (running pace wall (first ∷ rest)) → pace.since ≤ until → first.media ≤ media_at pace until →
    IsNextWall (running pace wall (first ∷ rest)) (first_at pace first.media)
front-next pace wall first rest until kept from reached = record {
  later = late;
  quiet = quiet-until;
  fulfils = loud;
}
  where
    is : IsFirst pace first.media (first_at pace first.media)
    is = first_at-IsFirst pace first.media until from reached

    late : wall < first_at pace first.media
    late = first_at-after pace first.media wall until from (above-due (media_at pace wall) (first ∷ rest) kept.none_due).0 reached

    notes : (n : ℕ) → notes_passing n (running pace wall (first ∷ rest)) ≡ map (note_from (Some pace) wall) (due (media_at pace (wall + n)) (first ∷ rest))
    notes n = passing-notes (Running pace.since pace.media) n wall pace.scale (first ∷ rest) kept.motion kept.ordered kept.none_due

    quiet-until : (n : ℕ) → wall + n < first_at pace first.media → notes_passing n (running pace wall (first ∷ rest)) ≡ []
    quiet-until n before =
        let above : media_at pace (wall + n) < first.media = is.before (wall + n) before (omega (arith, kept.motion.0)) in
        notes n ∙ ap (map (note_from (Some pace) wall)) (due-above (media_at pace (wall + n)) first rest above ∙ due-none (media_at pace (wall + n)) first.media rest above kept.ordered.0)

    some-none : (note : Fulfilled) (others : List Fulfilled) → note ∷ others ≡ [] → ⊥
    some-none note others h = cc

    loud : notes_passing (first_at pace first.media - wall) (running pace wall (first ∷ rest)) ≡ [] → ⊥
    loud empty =
        let moment : wall + (first_at pace first.media - wall) ≡ first_at pace first.media = omega (arith, late) in
        some-none _ _
        (sym (notes (first_at pace first.media - wall) ∙ (ap (λ (w : ℕ). map (note_from (Some pace) wall) (due (media_at pace w) (first ∷ rest))) moment
        ∙ ap (map (note_from (Some pace) wall)) (due-front (media_at pace (first_at pace first.media)) first rest is.reached))) ∙ empty)

-- at a scale above zero each media time is reached some day
pub reached-some_day : (pace : Pace) (media : ℕ) → 0 < pace.scale → media ≤ media_at pace (pace.since + media * 65536)
reached-some_day pace media some =
    let moments : pace.since + media * 65536 - pace.since ≡ media * 65536 = omega arith in
    let product : media * 65536 * 1 ≤ media * 65536 * pace.scale = mul-le-mul_left (media * 65536) some in
    let quotient : media ≤ media * 65536 * pace.scale / 65536 = le-div media (media * 65536 * pace.scale) (omega (arith, product)) in
    let same : (pace.since + media * 65536 - pace.since) * pace.scale / 65536 ≡ media * 65536 * pace.scale / 65536 = ap (λ (n : ℕ). n * pace.scale / 65536) moments in
    omega (arith, quotient, same)

-- at scale zero it stands
pub stands-at_zero : (pace : Pace) (wall : ℕ) → pace.scale ≡ 0 → media_at pace wall ≡ pace.media
stands-at_zero pace wall none =
    ap (λ (scale : ℕ). pace.media + (wall - pace.since) * scale / 65536) none ∙ zero-product (wall - pace.since)
  where
    zero-product : (n : ℕ) → pace.media + n * 0 / 65536 ≡ pace.media
    zero-product n = omega arith

-- two next moments are one
pub next-unique : (state : State) (one other : ℕ) → IsNextWall state one → IsNextWall state other → one < other → ⊥
next-unique state one other first second h =
    first.fulfils (second.quiet (one - state.wall) (omega (arith, first.later, h)))

-- what `next_wall` says of its answer
pub record Says (state : State) (answer : Option ℕ) : Type 0 where
  pub next : IfSome answer (IsNextWall state)
  pub within : IfSome answer (λ (wall : ℕ). wall ≤ 2 ^ 53)
  pub none : IsNone answer ↔ HasNoNext state

pub far-says : (pace : Pace) (wall : ℕ) (first : Request) (rest : List Request) → IsKept (running pace wall (first ∷ rest)) → media_at pace (2 ^ 53) < first.media → HasNoNext (running pace wall (first ∷ rest))
far-says pace wall first rest kept far = elim (cases_lt 0 pace.scale) [
  | inr none ↦ inr (inl (omega (arith, none)))
  | inl some ↦
      let next : IsNextWall (running pace wall (first ∷ rest)) (first_at pace first.media) =
      front-next pace wall first rest (pace.since + first.media * 65536) kept (omega arith) (reached-some_day pace first.media some) in
      let is : IsFirst pace first.media (first_at pace first.media) = first_at-IsFirst pace first.media (pace.since + first.media * 65536) (omega arith) (reached-some_day pace first.media some) in
      inr (inr (inr (first_at pace first.media, next, late is)))
]
  where
    contradict : (x y z : ℕ) → x ≤ y → y ≤ z → z < x → ⊥
    contradict x y z h k l = omega arith

    late : IsFirst pace first.media (first_at pace first.media) → 2 ^ 53 < first_at pace first.media
    late is = elim (cases_lt (2 ^ 53) (first_at pace first.media)) [
      | inl above ↦ above
      | inr early ↦ absurd (contradict _ _ _ is.reached (media_at-mono pace (first_at pace first.media) (2 ^ 53) early) far)
    ]

pub near-says : (pace : Pace) (wall : ℕ) (first : Request) (rest : List Request) → IsKept (running pace wall (first ∷ rest)) → first.media ≤ media_at pace (2 ^ 53) → HasNoNext (running pace wall (first ∷ rest)) → ⊥
near-says pace wall first rest kept near (inl not_running) = not_running tt
near-says pace wall first rest kept near (inr (inl none)) =
    let above = (above-due (media_at pace wall) (first ∷ rest) kept.none_due).0 in
    omega (arith, above, near, stands-at_zero pace wall none, stands-at_zero pace (2 ^ 53) none)
near-says pace wall first rest kept near (inr (inr (inl empty))) = some-none empty
  where
    some-none : first ∷ rest ≡ [] → ⊥
    some-none h = cc
near-says pace wall first rest kept near (inr (inr (inr (other, next, late)))) =
    let from : pace.since ≤ 2 ^ 53 = omega (arith, kept.motion.0, kept.wall) in
    let here : IsNextWall (running pace wall (first ∷ rest)) (first_at pace first.media) = front-next pace wall first rest (2 ^ 53) kept from near in
    let early : first_at pace first.media ≤ 2 ^ 53 = first_at-le pace first.media (2 ^ 53) from near in
    next-unique (running pace wall (first ∷ rest)) (first_at pace first.media) other here next (omega (arith, early, late))

pub none-says : (state : State) → HasNoNext state → Says state None
none-says state cause = record { next = tt; within = tt; none = (λ _. cause, λ _. refl) }

pub running-says : (pace : Pace) (wall : ℕ) (requests : List Request) → IsKept (running pace wall requests) → Says (running pace wall requests) (front_moment (Some pace) requests)
running-says pace wall [] kept = none-says (running pace wall []) (inr (inr (inl refl)))
running-says pace wall (first ∷ rest) kept = elim (cases_lt (media_at pace (2 ^ 53)) first.media) [
  | inl far ↦ subst (Says (running pace wall (first ∷ rest))) (sym (answer false (above-false first.media (media_at pace (2 ^ 53)) far))) (none-says (running pace wall (first ∷ rest)) (far-says pace wall first rest kept far))
  | inr near ↦ subst (Says (running pace wall (first ∷ rest))) (sym (answer true (le-leb first.media (media_at pace (2 ^ 53)) near))) (near-one near)
]
  where
    answer : (b : Bool) → nat_le first.media (media_at pace (2 ^ 53)) ≡ b → first_within pace first.media ≡ (if b then Some (first_at pace first.media) else None)
    answer b is = ap (λ (test : Bool). if test then Some (first_at pace first.media) else None) is

    not-none : IsNone (Some (first_at pace first.media)) → ⊥
    not-none h = cc

    near-one : first.media ≤ media_at pace (2 ^ 53) → Says (running pace wall (first ∷ rest)) (Some (first_at pace first.media))
    near-one near =
        let from : pace.since ≤ 2 ^ 53 = omega (arith, kept.motion.0, kept.wall) in
        record {
          next = front-next pace wall first rest (2 ^ 53) kept from near;
          within = first_at-le pace first.media (2 ^ 53) from near;
          none = (λ h. absurd (not-none h), λ cause. absurd (near-says pace wall first rest kept near cause));
        }

pub next-says : (motion : Motion) (wall scale : ℕ) (requests : List Request) → IsKept (at_moment wall scale motion requests) → Says (at_moment wall scale motion requests) (front_moment (pace_of motion scale) requests)
next-says Stopped wall scale requests kept = none-says (at_moment wall scale Stopped requests) (inl (λ h. h))
next-says (Running since media) wall scale requests kept = running-says (record { since = since; media = media; scale = scale }) wall requests kept
next-says (Waiting ports least) wall scale requests kept = none-says (at_moment wall scale (Waiting ports least) requests) (inl (λ h. h))
