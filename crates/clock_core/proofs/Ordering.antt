-- What keeps the order of requests.
use Rattle.std.proofs.Common.{◌≡◌, ℕ, ◌+◌, ◌≤◌, List, [], ◌∷◌, length, refl, sym, ap, subst, inl, inr, arith}
use Rattle.std.specs.Prelude.{filter, Bool, true, false, if◌then◌else◌}
use Rattle.std.proofs.lemmas.Bool.{cases_lt}
use Rattle.clock_core.specs.Clock.{queued}
use Rattle.clock_core.specs.Due.{AllFrom, AreInOrder}
use Rattle.clock_core.specs.declared.act.Request.{Request}
use Rattle.clock_core.proofs.QueueLaws.{queued-behind, queued-before}

pub AllFrom-filter : (p : Request → Bool) (media : ℕ) (requests : List Request) → AllFrom media requests → AllFrom media (filter p requests)
AllFrom-filter p media [] all = tt
AllFrom-filter p media (first ∷ rest) all = elim (p first) as (λ stays. AllFrom media (if stays then first ∷ filter p rest else filter p rest)) [
  | true ↦ (all.0, AllFrom-filter p media rest all.1)
  | false ↦ AllFrom-filter p media rest all.1
]

pub AreInOrder-filter : (p : Request → Bool) (requests : List Request) → AreInOrder requests → AreInOrder (filter p requests)
AreInOrder-filter p [] ordered = tt
AreInOrder-filter p (first ∷ rest) ordered = elim (p first) as (λ stays. AreInOrder (if stays then first ∷ filter p rest else filter p rest)) [
  | true ↦ (AllFrom-filter p first.media rest ordered.0, AreInOrder-filter p rest ordered.1)
  | false ↦ AreInOrder-filter p rest ordered.1
]

pub length-filter_le : (p : Request → Bool) (requests : List Request) → length (filter p requests) ≤ length requests
length-filter_le p [] = omega arith
length-filter_le p (first ∷ rest) = elim (p first) as (λ stays. length (if stays then first ∷ filter p rest else filter p rest) ≤ length (first ∷ rest)) [
  | true ↦ omega (arith, length-filter_le p rest)
  | false ↦ omega (arith, length-filter_le p rest)
]

pub AllFrom-weaken : (low media : ℕ) (requests : List Request) → low ≤ media → AllFrom media requests → AllFrom low requests
AllFrom-weaken low media [] h all = tt
AllFrom-weaken low media (first ∷ rest) h all = (omega (arith, all.0), AllFrom-weaken low media rest h all.1)

pub AllFrom-queued : (media : ℕ) (request : Request) (requests : List Request) → media ≤ request.media → AllFrom media requests → AllFrom media (queued request requests)
AllFrom-queued media request [] h all = (h, tt)
AllFrom-queued media request (first ∷ rest) h all = elim (cases_lt request.media first.media) [
  | inl above ↦ subst (AllFrom media) (sym (queued-before request first rest above)) (h, all)
  | inr not_above ↦ subst (AllFrom media) (sym (queued-behind request first rest not_above)) (all.0, AllFrom-queued media request rest h all.1)
]

pub AreInOrder-queued : (request : Request) (requests : List Request) → AreInOrder requests → AreInOrder (queued request requests)
AreInOrder-queued request [] ordered = (tt, tt)
AreInOrder-queued request (first ∷ rest) ordered = elim (cases_lt request.media first.media) [
  | inl above ↦ subst AreInOrder (sym (queued-before request first rest above)) ((omega arith, AllFrom-weaken request.media first.media rest (omega arith) ordered.0), ordered)
  | inr not_above ↦ subst AreInOrder (sym (queued-behind request first rest not_above)) (AllFrom-queued first.media request rest not_above ordered.0, AreInOrder-queued request rest ordered.1)
]

pub length-queued : (request : Request) (requests : List Request) → length (queued request requests) ≡ length requests + 1
length-queued request [] = refl
length-queued request (first ∷ rest) = elim (cases_lt request.media first.media) [
  | inl above ↦ omega (arith, ap length (queued-before request first rest above))
  | inr not_above ↦ omega (arith, ap length (queued-behind request first rest not_above), length-queued request rest)
]
