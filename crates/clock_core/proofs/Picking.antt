-- The requests with some ids, picked from a queue.
use Rattle.std.proofs.Common.{◌≡◌, ℕ, ◌<◌, ◌≤◌, List, [], ◌∷◌, refl, sym, ap, subst, inl, inr, ◌∙◌, arith}
use Rattle.std.specs.Prelude.{filter, map, not, ◌==◌, ◌||◌, ◌⊎◌, Bool, true, false, Contains, if◌then◌else◌}
use Rattle.std.specs.List.{list_any}
use Rattle.std.proofs.lemmas.Bool.{cases_lt}
use Rattle.std.proofs.lemmas.Grind.{common_steps}
use Rattle.std.proofs.lemmas.List.Elements.{Contains-append_cases, Contains-push_cases}
use Rattle.clock_core.specs.Clock.{has_id, note_at, queued}
use Rattle.clock_core.specs.Due.{AllFrom, AreInOrder}
use Rattle.clock_core.specs.declared.act.Fulfilled.{Fulfilled}
use Rattle.clock_core.specs.declared.act.Request.{Request}
use Rattle.clock_core.proofs.QueueLaws.{queued-behind, queued-before}

abbrev pub with_ids : (ℕ → Bool) → List Request → List Request
with_ids p = filter (λ (request : Request). p request.id)

abbrev pub noted : (ℕ → Bool) → List Fulfilled → List Fulfilled
noted p = filter (λ (note : Fulfilled). p note.id)

pub yes-or_no : (b : Bool) → (b ≡ true) ⊎ (b ≡ false)
yes-or_no true = inl refl
yes-or_no false = inr refl

pub not-both : {b : Bool} → b ≡ true → b ≡ false → ⊥
not-both h k = cc

pub eq-of_true : (a b : ℕ) → (a == b) ≡ true → a ≡ b
eq-of_true a b h = grind (arith, common_steps)

pub eq-false : (a b : ℕ) → ((a ≡ b) → ⊥) → (a == b) ≡ false
eq-false a b h = grind (arith, common_steps)

pub eq-true : (a : ℕ) → (a == a) ≡ true
eq-true a = grind (arith, common_steps)

pub filter-yes : (p : Request → Bool) (x : Request) (xs : List Request) → p x ≡ true → filter p (x ∷ xs) ≡ x ∷ filter p xs
filter-yes p x xs h = ap (λ (b : Bool). if b then x ∷ filter p xs else filter p xs) h

pub filter-no : (p : Request → Bool) (x : Request) (xs : List Request) → p x ≡ false → filter p (x ∷ xs) ≡ filter p xs
filter-no p x xs h = ap (λ (b : Bool). if b then x ∷ filter p xs else filter p xs) h

pub filter-comm : (p q : Request → Bool) (xs : List Request) → filter p (filter q xs) ≡ filter q (filter p xs)
filter-comm p q [] = refl
filter-comm p q (x ∷ xs) = elim (yes-or_no (p x)) [
  | inl py ↦ elim (yes-or_no (q x)) [
    | inl qy ↦ ap (filter p) (filter-yes q x xs qy) ∙ (filter-yes p x (filter q xs) py ∙ (ap (λ (ys : List Request). x ∷ ys) (filter-comm p q xs)
        ∙ sym (ap (filter q) (filter-yes p x xs py) ∙ filter-yes q x (filter p xs) qy)))
    | inr qn ↦ ap (filter p) (filter-no q x xs qn) ∙ (filter-comm p q xs ∙ sym (ap (filter q) (filter-yes p x xs py) ∙ filter-no q x (filter p xs) qn))
  ]
  | inr pn ↦ elim (yes-or_no (q x)) [
    | inl qy ↦ ap (filter p) (filter-yes q x xs qy) ∙ (filter-no p x (filter q xs) pn ∙ (filter-comm p q xs ∙ sym (ap (filter q) (filter-no p x xs pn))))
    | inr qn ↦ ap (filter p) (filter-no q x xs qn) ∙ (filter-comm p q xs ∙ sym (ap (filter q) (filter-no p x xs pn)))
  ]
]

pub noted-notes : (p : ℕ → Bool) (wall : ℕ) (xs : List Request) → noted p (map (note_at wall) xs) ≡ map (note_at wall) (with_ids p xs)
noted-notes p wall [] = refl
noted-notes p wall (x ∷ xs) =
    elim (p x.id) as (λ b. (if b then note_at wall x ∷ noted p (map (note_at wall) xs) else noted p (map (note_at wall) xs)) ≡ map (note_at wall) (if b then x ∷ with_ids p xs else with_ids p xs)) [
      | true ↦ ap (λ (notes : List Fulfilled). note_at wall x ∷ notes) (noted-notes p wall xs)
      | false ↦ noted-notes p wall xs
    ]

-- one with another id goes in or is taken out unseen
pub with_ids-queued : (p : ℕ → Bool) (request : Request) (xs : List Request) → p request.id ≡ false → with_ids p (queued request xs) ≡ with_ids p xs
with_ids-queued p request [] h = filter-no (λ (r : Request). p r.id) request [] h
with_ids-queued p request (x ∷ xs) h = elim (cases_lt request.media x.media) [
  | inl above ↦ ap (with_ids p) (queued-before request x xs above) ∙ filter-no (λ (r : Request). p r.id) request (x ∷ xs) h
  | inr not_above ↦ ap (with_ids p) (queued-behind request x xs not_above) ∙ ap (λ (ys : List Request). if p x.id then x ∷ ys else ys) (with_ids-queued p request xs h)
]

pub with_ids-cancelled : (p : ℕ → Bool) (id : ℕ) (xs : List Request) → p id ≡ false → with_ids p (filter (λ (request : Request). not (has_id id request)) xs) ≡ with_ids p xs
with_ids-cancelled p id [] h = refl
with_ids-cancelled p id (x ∷ xs) h = elim (yes-or_no (x.id == id)) [
  | inl same ↦
      ap (with_ids p) (filter-no (λ (request : Request). not (has_id id request)) x xs (ap not same))
      ∙ (with_ids-cancelled p id xs h ∙ sym (filter-no (λ (r : Request). p r.id) x xs (ap p (eq-of_true x.id id same) ∙ h)))
  | inr other ↦
      ap (with_ids p) (filter-yes (λ (request : Request). not (has_id id request)) x xs (ap not other))
      ∙ ap (λ (ys : List Request). if p x.id then x ∷ ys else ys) (with_ids-cancelled p id xs h)
]

-- where none is picked, the first one isn't, nor is one of the others
pub none-parts : (p : ℕ → Bool) (x : Request) (xs : List Request) → with_ids p (x ∷ xs) ≡ [] → (p x.id ≡ false) × (with_ids p xs ≡ [])
none-parts p x xs = elim (p x.id) as (λ b. (if b then x ∷ with_ids p xs else with_ids p xs) ≡ [] → (b ≡ false) × (with_ids p xs ≡ [])) [
  | true ↦ λ h. absurd (some-none h)
  | false ↦ λ h. (refl, h)
]
  where
    some-none : x ∷ with_ids p xs ≡ [] → ⊥
    some-none h = cc

pub absent-none : (id : ℕ) (xs : List Request) → list_any (has_id id) xs ≡ false → filter (has_id id) xs ≡ []
absent-none id [] h = refl
absent-none id (x ∷ xs) h = elim (x.id == id) as (λ b. (b || list_any (has_id id) xs) ≡ false → (if b then x ∷ filter (has_id id) xs else filter (has_id id) xs) ≡ []) [
  | true ↦ λ k. absurd (not-both refl k)
  | false ↦ λ k. absent-none id xs k
] h

-- one that goes in alone is alone
pub queued-alone : (p : ℕ → Bool) (request : Request) (xs : List Request) → p request.id ≡ true → with_ids p xs ≡ [] → with_ids p (queued request xs) ≡ request ∷ []
queued-alone p request [] h none = filter-yes (λ (r : Request). p r.id) request [] h
queued-alone p request (x ∷ xs) h none = elim (cases_lt request.media x.media) [
  | inl above ↦ ap (with_ids p) (queued-before request x xs above) ∙ (filter-yes (λ (r : Request). p r.id) request (x ∷ xs) h ∙ ap (λ (ys : List Request). request ∷ ys) none)
  | inr not_above ↦ ap (with_ids p) (queued-behind request x xs not_above)
      ∙ (filter-no (λ (r : Request). p r.id) x (queued request xs) (none-parts p x xs none).0 ∙ queued-alone p request xs h (none-parts p x xs none).1)
]

-- no id is there twice
abbrev pub AreDistinct : List Request → Type 0
AreDistinct [] = Unit {0}
AreDistinct (x ∷ xs) = (filter (has_id x.id) xs ≡ []) × AreDistinct xs

pub AreDistinct-filter : (q : Request → Bool) (xs : List Request) → AreDistinct xs → AreDistinct (filter q xs)
AreDistinct-filter q [] distinct = tt
AreDistinct-filter q (x ∷ xs) distinct = elim (q x) as (λ b. AreDistinct (if b then x ∷ filter q xs else filter q xs)) [
  | true ↦ (filter-comm (has_id x.id) q xs ∙ ap (filter q) distinct.0, AreDistinct-filter q xs distinct.1)
  | false ↦ AreDistinct-filter q xs distinct.1
]

pub AreDistinct-queued : (request : Request) (xs : List Request) → filter (has_id request.id) xs ≡ [] → AreDistinct xs → AreDistinct (queued request xs)
AreDistinct-queued request [] none distinct = (refl, tt)
AreDistinct-queued request (x ∷ xs) none distinct = elim (cases_lt request.media x.media) [
  | inl above ↦ subst AreDistinct (sym (queued-before request x xs above)) (none, distinct)
  | inr not_above ↦ subst AreDistinct (sym (queued-behind request x xs not_above))
      (with_ids-queued (λ (id : ℕ). id == x.id) request xs (flipped x.id request.id parts.0) ∙ distinct.0, AreDistinct-queued request xs parts.1 distinct.1)
]
  where
    parts : ((x.id == request.id) ≡ false) × (filter (has_id request.id) xs ≡ [])
    parts = none-parts (λ (id : ℕ). id == request.id) x xs none

    flipped : (a b : ℕ) → (a == b) ≡ false → (b == a) ≡ false
    flipped a b h = grind (arith, common_steps)

-- ---- what a queue contains

pub Contains-cases : (x y : Request) (xs : List Request) → Contains (x ∷ xs) y → (x ≡ y) ⊎ Contains xs y
Contains-cases x y xs h = elim (Contains-append_cases (x ∷ []) xs y h) [
  | inl here ↦ elim (Contains-push_cases [] x y here) [
    | inl nowhere ↦ absurd (Contains-none y nowhere)
    | inr same ↦ inl same
  ]
  | inr later ↦ inr later
]
  where
    Contains-none : (z : Request) → Contains [] z → ⊥
    Contains-none z (k, small, is) = omega (arith, small)

pub none-contained : (p : ℕ → Bool) (x : Request) (xs : List Request) → with_ids p xs ≡ [] → Contains xs x → p x.id ≡ false
none-contained p x [] none (k, small, is) = absurd (omega (arith, small))
none-contained p x (y ∷ ys) none h = elim (Contains-cases y x ys h) [
  | inl same ↦ ap (λ (r : Request). p r.id) (sym same) ∙ (none-parts p y ys none).0
  | inr later ↦ none-contained p x ys (none-parts p y ys none).1 later
]

pub AllFrom-contained : (media : ℕ) (x : Request) (xs : List Request) → AllFrom media xs → Contains xs x → media ≤ x.media
AllFrom-contained media x [] all (k, small, is) = absurd (omega (arith, small))
AllFrom-contained media x (y ∷ ys) all h = elim (Contains-cases y x ys h) [
  | inl same ↦ subst (λ (r : Request). media ≤ r.media) same all.0
  | inr later ↦ AllFrom-contained media x ys all.1 later
]

pub contained-alone : (x : Request) (xs : List Request) → AreDistinct xs → Contains xs x → filter (has_id x.id) xs ≡ x ∷ []
contained-alone x [] distinct (k, small, is) = absurd (omega (arith, small))
contained-alone x (y ∷ ys) distinct h = elim (Contains-cases y x ys h) [
  | inl same ↦
      filter-yes (has_id x.id) y ys (ap (λ (r : Request). r.id == x.id) same ∙ eq-true x.id)
      ∙ (ap (λ (r : Request). r ∷ filter (has_id x.id) ys) same ∙ ap (λ (zs : List Request). x ∷ zs) (ap (λ (r : Request). filter (has_id r.id) ys) (sym same) ∙ distinct.0))
  | inr later ↦
      filter-no (has_id x.id) y ys (eq-false y.id x.id (λ e. not-both (ap (λ (id : ℕ). x.id == id) e ∙ eq-true x.id) (none-contained (λ (id : ℕ). id == y.id) x ys distinct.0 later)))
      ∙ contained-alone x ys distinct.1 later
]

-- one of the first id isn't there
pub either-second : (one two : ℕ) (xs : List Request) → filter (has_id one) xs ≡ [] → with_ids (λ (id : ℕ). (id == one) || (id == two)) xs ≡ filter (has_id two) xs
either-second one two [] none = refl
either-second one two (x ∷ xs) none =
    ap (λ (b : Bool). if (b || (x.id == two)) then x ∷ with_ids (λ (id : ℕ). (id == one) || (id == two)) xs else with_ids (λ (id : ℕ). (id == one) || (id == two)) xs) parts.0
    ∙ ap (λ (ys : List Request). if (x.id == two) then x ∷ ys else ys) (either-second one two xs parts.1)
  where
    parts : ((x.id == one) ≡ false) × (filter (has_id one) xs ≡ [])
    parts = none-parts (λ (id : ℕ). id == one) x xs none

-- two of a queue are picked by rising media time
pub either-both : (one two : Request) (xs : List Request) → AreDistinct xs → AreInOrder xs → Contains xs one → Contains xs two → one.media < two.media →
    with_ids (λ (id : ℕ). (id == one.id) || (id == two.id)) xs ≡ one ∷ two ∷ []
either-both one two [] distinct ordered (k, small, is) second less = absurd (omega (arith, small))
either-both one two (x ∷ xs) distinct ordered first second less =
    cases (λ one_later two_later. either-both one two xs distinct.1 ordered.1 one_later two_later less) (Contains-cases x one xs first) (Contains-cases x two xs second)
  where
    apart : (y : Request) → Contains xs y → (x.id == y.id) ≡ false
    apart y there = eq-false x.id y.id (λ e. not-both (ap (λ (id : ℕ). y.id == id) e ∙ eq-true y.id) (none-contained (λ (id : ℕ). id == x.id) y xs distinct.0 there))

    cases : (Contains xs one → Contains xs two → with_ids (λ (id : ℕ). (id == one.id) || (id == two.id)) xs ≡ one ∷ two ∷ []) →
        (x ≡ one) ⊎ Contains xs one → (x ≡ two) ⊎ Contains xs two → with_ids (λ (id : ℕ). (id == one.id) || (id == two.id)) (x ∷ xs) ≡ one ∷ two ∷ []
    cases later_both (inl is_one) (inl is_two) = absurd (omega (arith, less, ap (λ (r : Request). r.media) (sym is_one ∙ is_two)))
    cases later_both (inl is_one) (inr later) =
        filter-yes (λ (r : Request). (r.id == one.id) || (r.id == two.id)) x xs (ap (λ (b : Bool). b || (x.id == two.id)) (ap (λ (r : Request). r.id == one.id) is_one ∙ eq-true one.id))
        ∙ (ap (λ (r : Request). r ∷ with_ids (λ (id : ℕ). (id == one.id) || (id == two.id)) xs) is_one
        ∙ ap (λ (ys : List Request). one ∷ ys)
        (either-second one.id two.id xs (ap (λ (r : Request). filter (has_id r.id) xs) (sym is_one) ∙ distinct.0) ∙ contained-alone two xs distinct.1 later))
    cases later_both (inr later) (inl is_two) = absurd (omega (arith, less, AllFrom-contained x.media one xs ordered.0 later, ap (λ (r : Request). r.media) is_two))
    cases later_both (inr one_later) (inr two_later) =
        filter-no (λ (r : Request). (r.id == one.id) || (r.id == two.id)) x xs
        (ap (λ (b : Bool). b || (x.id == two.id)) (apart one one_later) ∙ apart two two_later)
        ∙ later_both one_later two_later
