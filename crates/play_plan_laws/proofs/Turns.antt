-- An order of placing has no more turns than there are places.
use Rattle.std.proofs.Common.{◌≡◌, ℕ, zero, suc, ◌+◌, ◌<◌, ◌≤◌, Bool, true, false, ◌||◌, ◌==◌, cond, List, [], ◌∷◌, ◌++◌, length, take, slice_get, Some, sym, ◌∙◌, ap, subst, eqb-true, eq-eqb, ne_eqb, refl, arith}
use Rattle.std.proofs.Math.Seq.{take-length}
use Rattle.std.specs.List.{position_or_len}
use Rattle.machine_laws.proofs.Finding.{either}
use Rattle.play_forms.specs.declared.joint.Joint.{Joint}
use Rattle.play_forms.specs.Placing.{IsOrder, has_place}
use Rattle.play_forms.proofs.Places.{has_place_more, has_place_kept, has_place_new}
use Rattle.stream_plan.proofs.Lefts.{new_place}
use Rattle.play_world_laws.proofs.Lists.{get_there}

-- of so many numbers, those that aren't in the list
abbrev missing : ℕ → List ℕ → ℕ
missing zero xs = 0
missing (suc n) xs = missing n xs + cond (has_place xs n) 0 1

missing_all : (n : ℕ) → missing n [] ≤ n
missing_all zero = omega arith
missing_all (suc n) = let i = missing_all n in omega arith

missing_kept : (n : ℕ) (xs : List ℕ) (p : ℕ) → missing n (xs ++ p ∷ []) ≤ missing n xs
missing_kept zero xs p = omega arith
missing_kept (suc n) xs p =
    let i = missing_kept n xs p in
    either (has_place xs n)
    (λ t. let now : has_place (xs ++ p ∷ []) n ≡ true = has_place_kept xs p n t in rw (t, now) (omega arith))
    (λ f. rw f (either (has_place (xs ++ p ∷ []) n) (λ u. rw u (omega arith)) (λ u. rw u (omega arith))))

or_false : (b : Bool) → (b || false) ≡ b
or_false true = refl
or_false false = refl

missing_less : (n : ℕ) (xs : List ℕ) (p : ℕ) → p < n → has_place xs p ≡ false → missing n (xs ++ p ∷ []) < missing n xs
missing_less zero xs p l f = absurd (omega arith)
missing_less (suc n) xs p l f = either (p == n)
    (λ t.
    let e = eqb-true p n t in
    let was : has_place xs n ≡ false = subst (λ (q : ℕ). has_place xs q ≡ false) e f in
    let now : has_place (xs ++ p ∷ []) n ≡ true = subst (λ (q : ℕ). has_place (xs ++ p ∷ []) q ≡ true) e (has_place_new xs p) in
    let i = missing_kept n xs p in
    rw (was, now) (omega arith))
    (λ t.
    let d : p ≡ n → ⊥ = λ e. let u : (p == n) ≡ true = eq-eqb p n e in let v : true ≡ false = sym u ∙ t in cc in
    let i = missing_less n xs p (below p n l d) f in
    let same : has_place (xs ++ p ∷ []) n ≡ has_place xs n = has_place_more xs p n ∙ rw t (or_false (has_place xs n)) in
    rw same (omega arith))
  where
    below : (p n : ℕ) → p < suc n → (p ≡ n → ⊥) → p < n
    below zero zero l d = absurd (d refl)
    below zero (suc n) l d = omega arith
    below (suc p) zero l d = absurd (omega arith)
    below (suc p) (suc n) l d = let i = below p n (omega arith) (λ e. d (ap suc e)) in omega arith

take_one_more : (xs : List ℕ) (k y : ℕ) → slice_get xs k ≡ Some y → take (suc k) xs ≡ take k xs ++ y ∷ []
take_one_more [] k y e = absurd cc
take_one_more (z ∷ xs) zero y e = let s : z ≡ y = cc in ap (λ (u : ℕ). u ∷ []) s
take_one_more (z ∷ xs) (suc k) y e = ap (λ (us : List ℕ). z ∷ us) (take_one_more xs k y e)

turns_missing : (joints : List Joint) (count : ℕ) (order : List ℕ) → IsOrder joints count order → (k : ℕ) → k ≤ length order → missing count (take k order) + k ≤ missing count []
turns_missing joints count order O zero l = omega arith
turns_missing joints count order O (suc k) l =
    let i = turns_missing joints count order O k (omega arith) in
    let p = get_there order k (omega arith) in
    let N = O.placed k p.0 p.1 in
    let less = missing_less count (take k order) p.0 N.there (new_place joints count (take k order) p.0 N) in
    let same : missing count (take (suc k) order) ≡ missing count (take k order ++ p.0 ∷ []) = ap (missing count) (take_one_more order k p.0 p.1) in
    omega arith

pub few_turns : (joints : List Joint) (count : ℕ) (order : List ℕ) → IsOrder joints count order → length order ≤ count
few_turns joints count order O = let k = turns_missing joints count order O (length order) (omega arith) in let n = missing_all count in omega arith

-- ---- nor fewer

missing_above : (n : ℕ) (xs : List ℕ) (p : ℕ) → n ≤ p → missing n (xs ++ p ∷ []) ≡ missing n xs
missing_above zero xs p l = refl
missing_above (suc n) xs p l =
    let i = missing_above n xs p (omega arith) in
    let other : (p == n) ≡ false = ne_eqb p n (λ e. omega arith) in
    let same : has_place (xs ++ p ∷ []) n ≡ has_place xs n = has_place_more xs p n ∙ (rw other (or_false (has_place xs n))) in
    λ j. i j + cond (same j) 0 1

missing_one : (n : ℕ) (xs : List ℕ) (p : ℕ) → missing n xs ≤ missing n (xs ++ p ∷ []) + 1
missing_one zero xs p = omega arith
missing_one (suc n) xs p = either (p == n)
    (λ t.
    let e = eqb-true p n t in
    let i = missing_above n xs p (omega arith) in
    either (has_place xs n) (λ u. rw u (either (has_place (xs ++ p ∷ []) n) (λ v. rw v (omega arith)) (λ v. rw v (omega arith)))) (λ u. rw u (either (has_place (xs ++ p ∷ []) n) (λ v. rw v (omega arith)) (λ v. rw v (omega arith)))))
    (λ t.
    let i = missing_one n xs p in
    let same : has_place (xs ++ p ∷ []) n ≡ has_place xs n = has_place_more xs p n ∙ (rw t (or_false (has_place xs n))) in
    let d : cond {A = ℕ} (has_place (xs ++ p ∷ []) n) 0 1 ≡ cond (has_place xs n) 0 1 = ap (λ (b : Bool). cond {A = ℕ} b 0 1) same in
    omega arith)

missing_none : (n : ℕ) (xs : List ℕ) → ((k : ℕ) → k < n → has_place xs k ≡ true) → missing n xs ≡ 0
missing_none zero xs h = refl
missing_none (suc n) xs h =
    let i = missing_none n xs (λ k l. h k (omega arith)) in
    let d : cond {A = ℕ} (has_place xs n) 0 1 ≡ 0 = ap (λ (b : Bool). cond {A = ℕ} b 0 1) (h n (omega arith)) in
    omega arith

missing_first : (n : ℕ) → missing n [] ≡ n
missing_first zero = refl
missing_first (suc n) = let i = missing_first n in omega arith

turns_least : (count : ℕ) (order : List ℕ) (k : ℕ) → k ≤ length order → missing count [] ≤ missing count (take k order) + k
turns_least count order zero l = omega arith
turns_least count order (suc k) l =
    let i = turns_least count order k (omega arith) in
    let p = get_there order k (omega arith) in
    let one = missing_one count (take k order) p.0 in
    let same : missing count (take (suc k) order) ≡ missing count (take k order ++ p.0 ∷ []) = ap (missing count) (take_one_more order k p.0 p.1) in
    omega arith

pub all_turns : (joints : List Joint) (count : ℕ) (order : List ℕ) → IsOrder joints count order → count ≤ length order
all_turns joints count order O =
    let k = turns_least count order (length order) (omega arith) in
    let whole : take (length order) order ≡ order = take-length order in
    let none : missing count (take (length order) order) ≡ 0 = ap (missing count) whole ∙ missing_none count order O.all in
    let first = missing_first count in
    omega arith

-- the turn of a place is where it stands
pub turn_at : (order : List ℕ) (place : ℕ) → has_place order place ≡ true → slice_get order (position_or_len (λ (other : ℕ). other == place) order) ≡ Some place
turn_at [] place h = absurd cc
turn_at (y ∷ order) place h = either (y == place)
    (λ t. rw t (ap (λ (k : ℕ). Some k) (eqb-true y place t)))
    (λ t.
    let k : ℕ = position_or_len (λ (other : ℕ). other == place) order in
    let one : 1 + k ≡ suc k = omega arith in
    let rest = turn_at order place (rw t at h) in
    rw t (ap (slice_get (y ∷ order)) one ∙ rest))
