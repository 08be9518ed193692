-- The front of an ordered list is due first.
use Rattle.std.proofs.Common.{◌≡◌, ℕ, ◌+◌, ◌<◌, ◌≤◌, List, [], ◌∷◌, ◌++◌, length, refl, sym, ap, subst, inl, inr, ◌∙◌, arith}
use Rattle.std.specs.Prelude.{filter, map, not, nat_le, if◌then◌else◌, Bool, false, None}
use Rattle.std.proofs.lemmas.Bool.{le-leb, cases_lt}
use Rattle.std.proofs.lemmas.Grind.{common_steps}
use Rattle.clock_core.specs.Due.{AllFrom, AreInOrder, FrontIs, due_until, left_after}
use Rattle.clock_core.specs.declared.act.Fulfilled.{Fulfilled}
use Rattle.clock_core.specs.declared.act.Request.{Request}

-- whether a media time is reached
abbrev pub is_by : ℕ → Request → Bool
is_by reached request = nat_le request.media reached

abbrev pub due : ℕ → List Request → List Request
due reached = filter (is_by reached)

abbrev pub left : ℕ → List Request → List Request
left reached = filter (λ (request : Request). not (is_by reached request))

pub above-false : (media reached : ℕ) → reached < media → nat_le media reached ≡ false
above-false media reached h = grind (arith, common_steps)

pub due-front : (reached : ℕ) (first : Request) (rest : List Request) → first.media ≤ reached → due reached (first ∷ rest) ≡ first ∷ due reached rest
due-front reached first rest h = ap (λ (b : Bool). if b then first ∷ due reached rest else due reached rest) (le-leb first.media reached h)

pub left-front : (reached : ℕ) (first : Request) (rest : List Request) → first.media ≤ reached → left reached (first ∷ rest) ≡ left reached rest
left-front reached first rest h = ap (λ (b : Bool). if (not b) then first ∷ left reached rest else left reached rest) (le-leb first.media reached h)

pub due-above : (reached : ℕ) (first : Request) (rest : List Request) → reached < first.media → due reached (first ∷ rest) ≡ due reached rest
due-above reached first rest h = ap (λ (b : Bool). if b then first ∷ due reached rest else due reached rest) (above-false first.media reached h)

pub left-above : (reached : ℕ) (first : Request) (rest : List Request) → reached < first.media → left reached (first ∷ rest) ≡ first ∷ left reached rest
left-above reached first rest h = ap (λ (b : Bool). if (not b) then first ∷ left reached rest else left reached rest) (above-false first.media reached h)

-- where none is below a media time that isn't reached, none is due
pub due-none : (reached media : ℕ) (requests : List Request) → reached < media → AllFrom media requests → due reached requests ≡ []
due-none reached media [] h all = refl
due-none reached media (first ∷ rest) h all = due-above reached first rest (omega (arith, all.0)) ∙ due-none reached media rest h all.1

pub left-all : (reached media : ℕ) (requests : List Request) → reached < media → AllFrom media requests → left reached requests ≡ requests
left-all reached media [] h all = refl
left-all reached media (first ∷ rest) h all =
    left-above reached first rest (omega (arith, all.0)) ∙ ap (λ (xs : List Request). first ∷ xs) (left-all reached media rest h all.1)

-- where the front isn't due, none is
pub due-at_end : (reached : ℕ) (requests : List Request) → AreInOrder requests → FrontIs reached requests None → due reached requests ≡ []
due-at_end reached requests ordered (inl none) = ap (due reached) none
due-at_end reached requests ordered (inr (first, rest, is, above)) =
    let order : AreInOrder (first ∷ rest) = subst AreInOrder is ordered in
    ap (due reached) is ∙ (due-above reached first rest above ∙ due-none reached first.media rest above order.0)

pub left-at_end : (reached : ℕ) (requests : List Request) → AreInOrder requests → FrontIs reached requests None → left reached requests ≡ requests
left-at_end reached requests ordered (inl none) = ap (left reached) none ∙ sym none
left-at_end reached requests ordered (inr (first, rest, is, above)) =
    let order : AreInOrder (first ∷ rest) = subst AreInOrder is ordered in
    ap (left reached) is ∙ (left-above reached first rest above
    ∙ (ap (λ (xs : List Request). first ∷ xs) (left-all reached first.media rest above order.0) ∙ sym is))

-- where nothing goes on, nothing is due
pub due-stands : (wall : ℕ) (requests : List Request) → due_until None wall requests ≡ []
due-stands wall [] = refl
due-stands wall (first ∷ rest) = due-stands wall rest

pub left-stands : (wall : ℕ) (requests : List Request) → left_after None wall requests ≡ requests
left-stands wall [] = refl
left-stands wall (first ∷ rest) = ap (λ (xs : List Request). first ∷ xs) (left-stands wall rest)

-- where none is due, each is above what is reached
pub above-due : (reached : ℕ) (requests : List Request) → due reached requests ≡ [] → AllFrom (reached + 1) requests
above-due reached [] none = tt
above-due reached (first ∷ rest) none = elim (cases_lt reached first.media) [
  | inl above ↦ (omega arith, above-due reached rest (sym (due-above reached first rest above) ∙ none))
  | inr not_above ↦ absurd (some-none (sym (due-front reached first rest not_above) ∙ none))
]
  where
    some-none : first ∷ due reached rest ≡ [] → ⊥
    some-none h = cc

pub due-none_from : (reached : ℕ) (requests : List Request) → AllFrom (reached + 1) requests → due reached requests ≡ []
due-none_from reached requests all = due-none reached (reached + 1) requests (omega arith) all

pub left-all_from : (reached : ℕ) (requests : List Request) → AllFrom (reached + 1) requests → left reached requests ≡ requests
left-all_from reached requests all = left-all reached (reached + 1) requests (omega arith) all

-- what is due late is due early, or is due late of what is left early
pub due-split : (early late : ℕ) (requests : List Request) → early ≤ late → AreInOrder requests → due late requests ≡ due early requests ++ due late (left early requests)
due-split early late [] h ordered = refl
due-split early late (first ∷ rest) h ordered = elim (cases_lt early first.media) [
  | inl above ↦
      sym (ap (λ (xs : List Request). xs ++ due late (left early (first ∷ rest))) (due-above early first rest above ∙ due-none early first.media rest above ordered.0)
      ∙ ap (due late) (left-above early first rest above ∙ ap (λ (xs : List Request). first ∷ xs) (left-all early first.media rest above ordered.0)))
  | inr not_above ↦
      due-front late first rest (omega arith)
      ∙ (ap (λ (xs : List Request). first ∷ xs) (due-split early late rest h ordered.1)
      ∙ sym (ap (λ (xs : List Request). xs ++ due late (left early (first ∷ rest))) (due-front early first rest not_above)
      ∙ ap (λ (xs : List Request). (first ∷ due early rest) ++ due late xs) (left-front early first rest not_above)))
]

pub left-split : (early late : ℕ) (requests : List Request) → early ≤ late → left late requests ≡ left late (left early requests)
left-split early late [] h = refl
left-split early late (first ∷ rest) h = elim (cases_lt early first.media) [
  | inl above ↦ elim (cases_lt late first.media) [
    | inl far ↦ left-above late first rest far ∙ (ap (λ (xs : List Request). first ∷ xs) (left-split early late rest h)
        ∙ sym (ap (left late) (left-above early first rest above) ∙ left-above late first (left early rest) far))
    | inr near ↦ left-front late first rest near ∙ (left-split early late rest h
        ∙ sym (ap (left late) (left-above early first rest above) ∙ left-front late first (left early rest) near))
  ]
  | inr not_above ↦
      left-front late first rest (omega arith) ∙ (left-split early late rest h ∙ ap (left late) (sym (left-front early first rest not_above)))
]

-- what is left isn't due
pub due-left : (reached : ℕ) (requests : List Request) → due reached (left reached requests) ≡ []
due-left reached [] = refl
due-left reached (first ∷ rest) = elim (cases_lt reached first.media) [
  | inl above ↦ ap (due reached) (left-above reached first rest above) ∙ (due-above reached first (left reached rest) above ∙ due-left reached rest)
  | inr not_above ↦ ap (due reached) (left-front reached first rest not_above) ∙ due-left reached rest
]

-- each request is due or left
pub length-due-left : (reached : ℕ) (requests : List Request) → length (due reached requests) + length (left reached requests) ≡ length requests
length-due-left reached [] = refl
length-due-left reached (first ∷ rest) = elim (cases_lt reached first.media) [
  | inl above ↦ omega (arith, ap length (due-above reached first rest above), ap length (left-above reached first rest above), length-due-left reached rest)
  | inr not_above ↦ omega (arith, ap length (due-front reached first rest not_above), ap length (left-front reached first rest not_above), length-due-left reached rest)
]

-- notes that agree on what is due
pub map-due : (f g : Request → Fulfilled) (low reached : ℕ) (requests : List Request) → ((r : Request) → low ≤ r.media → r.media ≤ reached → f r ≡ g r) → AllFrom low requests →
    map f (due reached requests) ≡ map g (due reached requests)
map-due f g low reached [] same all = refl
map-due f g low reached (first ∷ rest) same all = elim (cases_lt reached first.media) [
  | inl above ↦ ap (map f) (due-above reached first rest above) ∙ (map-due f g low reached rest same all.1 ∙ sym (ap (map g) (due-above reached first rest above)))
  | inr not_above ↦ ap (map f) (due-front reached first rest not_above)
      ∙ (ap (λ (note : Fulfilled). note ∷ map f (due reached rest)) (same first all.0 not_above)
      ∙ (ap (λ (notes : List Fulfilled). g first ∷ notes) (map-due f g low reached rest same all.1)
      ∙ sym (ap (map g) (due-front reached first rest not_above))))
]

pub from-zero : (requests : List Request) → AllFrom 0 requests
from-zero [] = tt
from-zero (first ∷ rest) = (omega arith, from-zero rest)
