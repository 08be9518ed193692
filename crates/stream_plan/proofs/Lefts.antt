-- How many components are left to be placed; one more behind the placed ones.
use Rattle.std.proofs.Common.{◌≡◌, ℕ, zero, suc, ◌+◌, ◌<◌, ◌≤◌, Bool, true, false, not, ◌==◌, ◌||◌, cond, List, [], ◌∷◌, ◌++◌, length, take, refl, sym, ◌∙◌, ap, subst, arith, inl, inr}
use Rattle.std.proofs.Math.Seq.{take-append_seam}
use Rattle.std.proofs.lemmas.List.{take-append-le}
use Rattle.std.proofs.lemmas.Bool.{eqb-true, eq-eqb}
use Rattle.play_forms.specs.declared.joint.Joint.{Joint}
use Rattle.play_forms.specs.Placing.{ArePlaced, IsNext, has_place, is_fed}
use Rattle.stream_plan.proofs.Lists.{slice_get_more}
use Rattle.play_forms.proofs.Places.{and_both, both, either, has_place_kept, has_place_more, has_place_new, not_true}

below_other : (p count : ℕ) → p < suc count → (p ≡ count → ⊥) → p < count
below_other p count below apart = omega arith

or_false : (a : Bool) → (a || false) ≡ a
or_false true = refl
or_false false = refl

-- of so many, those that aren't placed
pub left_of : ℕ → List ℕ → ℕ
left_of zero placed = 0
left_of (suc count) placed = left_of count placed + cond (has_place placed count) 0 1

left_kept : (count : ℕ) (placed : List ℕ) (p : ℕ) → left_of count (placed ++ (p ∷ [])) ≤ left_of count placed
unfolding left_of
left_kept zero placed p = omega arith
left_kept (suc count) placed p =
    let rest = left_kept count placed p in
    either (has_place placed count)
    (λ there. let now : has_place (placed ++ (p ∷ [])) count ≡ true = has_place_kept placed p count there in rw (there, now) (omega arith))
    (λ new. rw new (either (has_place (placed ++ (p ∷ [])) count) (λ now. rw now (omega arith)) (λ now. rw now (omega arith))))

pub left_less : (count : ℕ) (placed : List ℕ) (p : ℕ) → p < count → has_place placed p ≡ false → left_of count (placed ++ (p ∷ [])) < left_of count placed
unfolding left_of
left_less zero placed p below new = absurd (omega arith)
left_less (suc count) placed p below new =
    either (p == count)
    (λ same.
    let e : p ≡ count = eqb-true p count same in
    let was : has_place placed count ≡ false = subst (λ q. has_place placed q ≡ false) e new in
    let now : has_place (placed ++ (p ∷ [])) count ≡ true = subst (λ q. has_place (placed ++ (p ∷ [])) q ≡ true) e (has_place_new placed p) in
    let rest = left_kept count placed p in
    rw (was, now) (omega arith))
    (λ other.
    let apart : p < count = below_other p count below (λ e. both (p == count) (eq-eqb p count e) other) in
    let rest = left_less count placed p apart new in
    let same : has_place (placed ++ (p ∷ [])) count ≡ has_place placed count = has_place_more placed p count ∙ (rw other (or_false (has_place placed count))) in
    rw same (omega arith))

-- one more that is next
pub placed_more : (joints : List Joint) (count : ℕ) (placed : List ℕ) (p : ℕ) → ArePlaced joints count placed → IsNext joints count placed p → ArePlaced joints count (placed ++ (p ∷ []))
placed_more joints count placed p are next k q e =
    elim (slice_get_more placed p k q e) [
      | inl h ↦
          let front : take k (placed ++ (p ∷ [])) ≡ take k placed = let b : k < length placed = h.0 in take-append-le k placed (p ∷ []) (omega arith) in
          subst (λ front. IsNext joints count front q) (sym front) (are k q h.1)
      | inr h ↦
          let front : take k (placed ++ (p ∷ [])) ≡ placed = ap (λ i. take i (placed ++ (p ∷ []))) h.0 ∙ take-append_seam placed (p ∷ []) in
          subst (λ front. IsNext joints count front q) (sym front) (subst (IsNext joints count placed) (sym h.1) next)
    ]

pub new_place : (joints : List Joint) (count : ℕ) (placed : List ℕ) (p : ℕ) → IsNext joints count placed p → has_place placed p ≡ false
new_place joints count placed p next = not_true (has_place placed p) (and_both (not (has_place placed p)) (is_fed joints placed p) next.can).0
