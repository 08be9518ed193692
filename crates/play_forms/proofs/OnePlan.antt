-- A script has one plan or one fault.
use Rattle.std.proofs.Common.{◌≡◌, ◌⊎◌, inl, inr, ℕ, zero, suc, ◌+◌, ◌<◌, ◌≤◌, true, false, not, List, [], ◌∷◌, ◌++◌, length, take, Some, refl, sym, ◌∙◌, ap, subst, arith}
use Rattle.std.specs.Prelude.{slice_get}
use Rattle.std.proofs.lemmas.Bool.{cases_lt}
use Rattle.std.proofs.lemmas.List.Sums.{sum_by-take-le}
use Rattle.std.proofs.lemmas.Option.{slice_get_within}
use Rattle.script_lang.specs.declared.play_line.PartLine.{PartLine}
use Rattle.play_forms.specs.declared.joint.Joint.{Joint}
use Rattle.play_forms.specs.Joints.{AllJoin, AllLinked, IsOpen, IsTooMany, IsTwice, can_join, headers_of, is_linked}
use Rattle.play_forms.specs.Placing.{ArePlaced, IsCycle, IsNext, IsOrder, can_place, has_place, is_fed}
use Rattle.play_forms.proofs.Places.{Some_same, and_both, both, not_true}

-- ---- numbers and fronts

-- the one before the other, or they are one
pub apart_or_one : (n m : ℕ) → (n < m) ⊎ ((n ≡ m) ⊎ (m < n))
apart_or_one n m = elim (cases_lt n m) [ inl less ↦ inl less | inr h ↦ elim (cases_lt m n) [ inl more ↦ inr (inr more) | inr h' ↦ inr (inl (omega arith)) ] ]

front_of_front : {A : Type 0} (xs : List A) (k n : ℕ) → k ≤ n → take k (take n xs) ≡ take k xs
front_of_front xs zero n below = refl
front_of_front [] (suc k) zero below = absurd (omega arith)
front_of_front [] (suc k) (suc n) below = refl
front_of_front (x ∷ xs) (suc k) zero below = absurd (omega arith)
front_of_front (x ∷ xs) (suc k) (suc n) below = ap (λ rest. x ∷ rest) (front_of_front xs k n (omega arith))

pub in_front : {A : Type 0} (xs : List A) (n k : ℕ) (x : A) → k < n → slice_get xs k ≡ Some x → slice_get (take n xs) k ≡ Some x
in_front xs zero k x below e = absurd (omega arith)
in_front [] (suc n) k x below e = absurd cc
in_front (y ∷ xs) (suc n) zero x below e = e
in_front (y ∷ xs) (suc n) (suc k) x below e = in_front xs n k x (omega arith) e

pub has_element : {A : Type 0} (xs : List A) (k : ℕ) → k < length xs → (x : A) × (slice_get xs k ≡ Some x)
has_element [] k below = absurd (omega arith)
has_element (x ∷ xs) zero below = (x, refl)
has_element (x ∷ xs) (suc k) below = has_element xs k (omega arith)

front_more : {A : Type 0} (xs : List A) (k : ℕ) (x : A) → slice_get xs k ≡ Some x → take (suc k) xs ≡ take k xs ++ (x ∷ [])
front_more [] k x e = absurd cc
front_more (y ∷ xs) zero x e = let same : y ≡ x = Some_same y x e in rw same refl
front_more (y ∷ xs) (suc k) x e = ap (λ rest. y ∷ rest) (front_more xs k x e)

whole_front : {A : Type 0} (xs : List A) → take (length xs) xs ≡ xs
whole_front [] = refl
whole_front (x ∷ xs) = ap (λ rest. x ∷ rest) (whole_front xs)

-- ---- one link that can't be

pub joined_not_twice : {P : Type 0} (parts : List PartLine) (joints : List Joint) (line : ℕ) → AllJoin parts joints → IsTwice parts joints line → P
joined_not_twice parts joints line all twice =
    both (can_join parts (take twice.number joints) twice.joint) (all twice.number twice.joint twice.there) twice.clashes

twice_before : {P : Type 0} (parts : List PartLine) (joints : List Joint) (line other : ℕ) (one : IsTwice parts joints line) (two : IsTwice parts joints other) → one.number < two.number → P
twice_before parts joints line other one two less =
    let there = in_front joints two.number one.number one.joint less one.there in
    let front : take one.number (take two.number joints) ≡ take one.number joints = front_of_front joints one.number two.number (omega arith) in
    let joins : can_join parts (take one.number joints) one.joint ≡ true =
    subst (λ earlier. can_join parts earlier one.joint ≡ true) front (two.first one.number one.joint there) in
    both (can_join parts (take one.number joints) one.joint) joins one.clashes

pub one_twice : (parts : List PartLine) (joints : List Joint) (line other : ℕ) → IsTwice parts joints line → IsTwice parts joints other → line ≡ other
one_twice parts joints line other one two =
    elim (apart_or_one one.number two.number) [
      | inl less ↦ twice_before parts joints line other one two less
      | inr rest ↦ elim rest [
        | inl same ↦
            let joint : one.joint ≡ two.joint = Some_same one.joint two.joint (sym one.there ∙ ap (slice_get joints) same ∙ two.there) in
            one.its_line ∙ ap (λ (j : Joint). j.line) joint ∙ sym two.its_line
        | inr more ↦ twice_before parts joints other line two one more
      ]
    ]

-- ---- one open port

pub linked_not_open : {P : Type 0} (parts : List PartLine) (joints : List Joint) (line port : ℕ) → AllLinked parts joints → IsOpen parts joints line port → P
linked_not_open parts joints line port all open_one =
    both (is_linked joints open_one.place port) (all open_one.place open_one.part open_one.there port open_one.its_port) open_one.open_there

open_before : {P : Type 0} (parts : List PartLine) (joints : List Joint) (line port other_line other : ℕ) (one : IsOpen parts joints line port) (two : IsOpen parts joints other_line other)
    → one.place < two.place → P
open_before parts joints line port other_line other one two less =
    both (is_linked joints one.place port) (two.first one.place one.part (in_front parts two.place one.place one.part less one.there) port one.its_port) one.open_there

pub one_open : (parts : List PartLine) (joints : List Joint) (line port other_line other : ℕ) → IsOpen parts joints line port → IsOpen parts joints other_line other
    → (line ≡ other_line) × (port ≡ other)
one_open parts joints line port other_line other one two =
    elim (apart_or_one one.place two.place) [
      | inl less ↦ open_before parts joints line port other_line other one two less
      | inr rest ↦ elim rest [
        | inl same ↦
            let part : one.part ≡ two.part = Some_same one.part two.part (sym one.there ∙ ap (slice_get parts) same ∙ two.there) in (
              one.its_line ∙ ap (λ (p : PartLine). p.line) part ∙ sym two.its_line,
              elim (apart_or_one port other) [
                | inl less ↦ both (is_linked joints two.place port) (two.least port less) (subst (λ place. is_linked joints place port ≡ false) same one.open_there)
                | inr rest' ↦ elim rest' [
                  | inl same' ↦ same'
                  | inr more ↦ both (is_linked joints one.place other) (one.least other more) (subst (λ place. is_linked joints place other ≡ false) (sym same) two.open_there)
                ]
              ],
            )
        | inr more ↦ open_before parts joints other_line other line port two one more
      ]
    ]

-- ---- one link up to which there are too many headers

fewer_in_front : (joints : List Joint) (k n : ℕ) → k ≤ n → headers_of (take k joints) ≤ headers_of (take n joints)
fewer_in_front joints k n below =
    subst (λ front. headers_of front ≤ headers_of (take n joints)) (front_of_front joints k n below) (sum_by-take-le (λ (joint : Joint). joint.count) (take n joints) k)

pub few_not_many : {P : Type 0} (joints : List Joint) (line : ℕ) → headers_of joints ≤ 1024 → IsTooMany joints line → P
few_not_many joints line few many =
    let less = sum_by-take-le (λ (joint : Joint). joint.count) joints (many.number + 1) in
    let over = many.over in
    absurd (omega arith)

many_before : {P : Type 0} (joints : List Joint) (line other : ℕ) (one : IsTooMany joints line) (two : IsTooMany joints other) → one.number < two.number → P
many_before joints line other one two less =
    let fewer = fewer_in_front joints (one.number + 1) two.number (omega arith) in
    let over = one.over in
    let few = two.first in
    absurd (omega arith)

pub one_many : (joints : List Joint) (line other : ℕ) → IsTooMany joints line → IsTooMany joints other → line ≡ other
one_many joints line other one two =
    elim (apart_or_one one.number two.number) [
      | inl less ↦ many_before joints line other one two less
      | inr rest ↦ elim rest [
        | inl same ↦
            let joint : one.joint ≡ two.joint = Some_same one.joint two.joint (sym one.there ∙ ap (slice_get joints) same ∙ two.there) in
            one.its_line ∙ ap (λ (j : Joint). j.line) joint ∙ sym two.its_line
        | inr more ↦ many_before joints other line two one more
      ]
    ]

-- ---- one order of placing

one_next : (joints : List Joint) (count : ℕ) (placed : List ℕ) (p q : ℕ) → IsNext joints count placed p → IsNext joints count placed q → p ≡ q
one_next joints count placed p q one two =
    elim (apart_or_one p q) [
      | inl less ↦ both (can_place joints placed p) one.can (two.first p less)
      | inr rest ↦ elim rest [ inl same ↦ same | inr more ↦ both (can_place joints placed q) two.can (one.first q more) ]
    ]

placed_alike : (joints : List Joint) (count : ℕ) (xs ys : List ℕ) → ArePlaced joints count xs → ArePlaced joints count ys
    → (k : ℕ) → k ≤ length xs → k ≤ length ys → take k xs ≡ take k ys
placed_alike joints count xs ys are are' zero in_xs in_ys = refl
placed_alike joints count xs ys are are' (suc k) in_xs in_ys =
    let x = has_element xs k (omega arith) in
    let y = has_element ys k (omega arith) in
    let before : take k xs ≡ take k ys = placed_alike joints count xs ys are are' k (omega arith) (omega arith) in
    let same : x.0 ≡ y.0 = one_next joints count (take k ys) x.0 y.0 (subst (λ placed. IsNext joints count placed x.0) before (are k x.0 x.1)) (are' k y.0 y.1) in
    front_more xs k x.0 x.1 ∙ ap (λ front. front ++ (x.0 ∷ [])) before ∙ ap (λ p. take k ys ++ (p ∷ [])) same ∙ sym (front_more ys k y.0 y.1)

-- behind the first list the second goes on
goes_further : (joints : List Joint) (count : ℕ) (xs ys : List ℕ) → ArePlaced joints count xs → ArePlaced joints count ys → length xs < length ys
    → (p : ℕ) × IsNext joints count xs p
goes_further joints count xs ys are are' longer =
    let p = has_element ys (length xs) longer in
    let front : take (length xs) ys ≡ xs = sym (placed_alike joints count xs ys are are' (length xs) (omega arith) (omega arith)) ∙ whole_front xs in
    (p.0, subst (λ placed. IsNext joints count placed p.0) front (are' (length xs) p.0 p.1))

same_length : (joints : List Joint) (count : ℕ) (xs ys : List ℕ) → ArePlaced joints count xs → ArePlaced joints count ys → length xs ≡ length ys → xs ≡ ys
same_length joints count xs ys are are' many =
    sym (whole_front xs) ∙ placed_alike joints count xs ys are are' (length xs) (omega arith) (omega arith) ∙ ap (λ n. take n ys) many ∙ whole_front ys

-- an order has every component, so none is placed behind it
order_ends : {P : Type 0} (joints : List Joint) (count : ℕ) (order placed : List ℕ) → IsOrder joints count order → ArePlaced joints count placed → length order < length placed → P
order_ends joints count order placed is are longer =
    let next = goes_further joints count order placed is.placed are longer in
    let cans = and_both (not (has_place order next.0)) (is_fed joints order next.0) next.1.can in
    both (has_place order next.0) (is.all next.0 next.1.there) (not_true (has_place order next.0) cans.0)

pub one_order : (joints : List Joint) (count : ℕ) (xs ys : List ℕ) → IsOrder joints count xs → IsOrder joints count ys → xs ≡ ys
one_order joints count xs ys one two =
    elim (apart_or_one (length xs) (length ys)) [
      | inl less ↦ order_ends joints count xs ys one two.placed less
      | inr rest ↦ elim rest [ inl same ↦ same_length joints count xs ys one.placed two.placed same | inr more ↦ order_ends joints count ys xs two one.placed more ]
    ]

pub order_not_cycle : {P : Type 0} (parts : List PartLine) (joints : List Joint) (order : List ℕ) (line : ℕ) → IsOrder joints (length parts) order → IsCycle parts joints line → P
order_not_cycle parts joints order line is cycle =
    elim (apart_or_one (length cycle.placed) (length order)) [
      | inl less ↦
          let next = goes_further joints (length parts) cycle.placed order cycle.are_placed is.placed less in
          both (can_place joints cycle.placed next.0) next.1.can (cycle.no_more next.0 next.1.there)
      | inr rest ↦ elim rest [
        | inl same ↦
            let alike : cycle.placed ≡ order = same_length joints (length parts) cycle.placed order cycle.are_placed is.placed same in
            let inside = slice_get_within parts cycle.place cycle.part cycle.there in
            both (has_place order cycle.place) (is.all cycle.place inside) (subst (λ placed. has_place placed cycle.place ≡ false) alike cycle.left)
        | inr more ↦ order_ends joints (length parts) order cycle.placed is cycle.are_placed more
      ]
    ]

cycle_before : {P : Type 0} (parts : List PartLine) (joints : List Joint) (line other : ℕ) (one : IsCycle parts joints line) (two : IsCycle parts joints other)
    → length one.placed < length two.placed → P
cycle_before parts joints line other one two less =
    let next = goes_further joints (length parts) one.placed two.placed one.are_placed two.are_placed less in
    both (can_place joints one.placed next.0) next.1.can (one.no_more next.0 next.1.there)

cycles_alike : (parts : List PartLine) (joints : List Joint) (line other : ℕ) (one : IsCycle parts joints line) (two : IsCycle parts joints other) → one.placed ≡ two.placed → line ≡ other
cycles_alike parts joints line other one two alike =
    elim (apart_or_one one.place two.place) [
      | inl less ↦ both (has_place two.placed one.place) (two.first one.place less) (subst (λ placed. has_place placed one.place ≡ false) alike one.left)
      | inr rest ↦ elim rest [
        | inl same ↦
            let part : one.part ≡ two.part = Some_same one.part two.part (sym one.there ∙ ap (slice_get parts) same ∙ two.there) in
            one.its_line ∙ ap (λ (p : PartLine). p.line) part ∙ sym two.its_line
        | inr more ↦ both (has_place one.placed two.place) (one.first two.place more) (subst (λ placed. has_place placed two.place ≡ false) (sym alike) two.left)
      ]
    ]

pub one_cycle : (parts : List PartLine) (joints : List Joint) (line other : ℕ) → IsCycle parts joints line → IsCycle parts joints other → line ≡ other
one_cycle parts joints line other one two =
    elim (apart_or_one (length one.placed) (length two.placed)) [
      | inl less ↦ cycle_before parts joints line other one two less
      | inr rest ↦ elim rest [
        | inl same ↦ cycles_alike parts joints line other one two (same_length joints (length parts) one.placed two.placed one.are_placed two.are_placed same)
        | inr more ↦ cycle_before parts joints other line two one more
      ]
    ]
