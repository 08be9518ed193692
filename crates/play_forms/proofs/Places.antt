-- Lists of placed components, and lists by place.
use Rattle.std.proofs.Common.{◌≡◌, ℕ, Bool, true, false, not, ◌==◌, ◌&&◌, ◌||◌, List, [], ◌∷◌, ◌++◌, length, take, Some, refl, sym, ◌∙◌, ap, subst, append_assoc}
use Rattle.std.specs.Prelude.{slice_get}
use Rattle.std.proofs.Math.Seq.{take-append_seam}
use Rattle.std.proofs.lemmas.Bool.{eqb-true, eq-eqb}
use Rattle.std.proofs.lemmas.List.Folds.{list_any-append}
use Rattle.play_forms.specs.declared.joint.Joint.{Joint}
use Rattle.play_forms.specs.Placing.{ArePlaced, IsNext, can_place, has_place, is_fed}

pub either : {P : Type 0} (b : Bool) → (b ≡ true → P) → (b ≡ false → P) → P
either true holds fails = holds refl
either false holds fails = fails refl

pub both : {P : Type 0} (b : Bool) → b ≡ true → b ≡ false → P
both b t f = let e : true ≡ false = sym t ∙ f in absurd cc

pub or_cases : {P : Type 0} (a b : Bool) → (a || b) ≡ true → (a ≡ true → P) → (b ≡ true → P) → P
or_cases true b e left right = left refl
or_cases false b e left right = right e

pub or_left : (a b : Bool) → a ≡ true → (a || b) ≡ true
or_left true b e = refl
or_left false b e = absurd cc

pub or_right : (a b : Bool) → b ≡ true → (a || b) ≡ true
or_right true b e = refl
or_right false b e = e

or_false : (a : Bool) → (a || false) ≡ a
or_false true = refl
or_false false = refl

pub and_both : (a b : Bool) → (a && b) ≡ true → (a ≡ true) × (b ≡ true)
and_both true b e = (refl, e)
and_both false b e = absurd cc

pub and_of : (a b : Bool) → a ≡ true → b ≡ true → (a && b) ≡ true
and_of true b e f = f
and_of false b e f = absurd cc

pub not_true : (a : Bool) → not a ≡ true → a ≡ false
not_true true e = absurd cc
not_true false e = refl

pub Some_same : {A : Type 0} (x y : A) → Some x ≡ Some y → x ≡ y
Some_same x y e = cc

-- ---- placed components

pub has_place_more : (placed : List ℕ) (p q : ℕ) → has_place (placed ++ (p ∷ [])) q ≡ (has_place placed q || (p == q))
has_place_more placed p q =
    list_any-append (λ other. other == q) placed (p ∷ []) ∙ ap (λ b. has_place placed q || b) (or_false (p == q))

pub has_place_kept : (placed : List ℕ) (p q : ℕ) → has_place placed q ≡ true → has_place (placed ++ (p ∷ [])) q ≡ true
has_place_kept placed p q e = has_place_more placed p q ∙ or_left (has_place placed q) (p == q) e

pub has_place_new : (placed : List ℕ) (p : ℕ) → has_place (placed ++ (p ∷ [])) p ≡ true
has_place_new placed p = has_place_more placed p p ∙ or_right (has_place placed p) (p == p) (eq-eqb p p refl)

-- what has its place there is none that hasn't
pub other_place : (placed : List ℕ) (p q : ℕ) → has_place placed q ≡ true → has_place placed p ≡ false → (q == p) ≡ false
other_place placed p q there new =
    either (q == p)
    (λ e. let same : q ≡ p = eqb-true q p e in both (has_place placed p) (subst (λ r. has_place placed r ≡ true) same there) new)
    (λ f. f)

pub fed_kept : (joints : List Joint) (placed : List ℕ) (p q : ℕ) → is_fed joints placed q ≡ true → is_fed joints (placed ++ (p ∷ [])) q ≡ true
fed_kept [] placed p q e = refl
fed_kept (joint ∷ joints) placed p q e =
    let parts = and_both (not (joint.taker == q) || has_place placed joint.giver) (is_fed joints placed q) e in
    let head : (not (joint.taker == q) || has_place (placed ++ (p ∷ [])) joint.giver) ≡ true =
    or_cases (not (joint.taker == q)) (has_place placed joint.giver) parts.0
    (λ other. or_left (not (joint.taker == q)) (has_place (placed ++ (p ∷ [])) joint.giver) other)
    (λ there. or_right (not (joint.taker == q)) (has_place (placed ++ (p ∷ [])) joint.giver) (has_place_kept placed p joint.giver there)) in
    and_of (not (joint.taker == q) || has_place (placed ++ (p ∷ [])) joint.giver) (is_fed joints (placed ++ (p ∷ [])) q) head (fed_kept joints placed p q parts.1)

-- each of the places can be placed behind those before it
abbrev pub Goes : List Joint → List ℕ → List ℕ → Type 0
Goes joints placed [] = Unit {0}
Goes joints placed (p ∷ places) = (can_place joints placed p ≡ true) × Goes joints (placed ++ (p ∷ [])) places

slice_get_seam : (placed places : List ℕ) (p : ℕ) → slice_get (placed ++ (p ∷ places)) (length placed) ≡ Some p
slice_get_seam [] places p = refl
slice_get_seam (x ∷ placed) places p = slice_get_seam placed places p

pub goes_on : (joints : List Joint) (count : ℕ) (placed places order : List ℕ) → order ≡ placed ++ places → ArePlaced joints count order → Goes joints placed places
goes_on joints count placed [] order e are = tt
goes_on joints count placed (p ∷ places) order e are =
    let there : slice_get order (length placed) ≡ Some p = ap (λ o. slice_get o (length placed)) e ∙ slice_get_seam placed places p in
    let front : take (length placed) order ≡ placed = ap (take (length placed)) e ∙ take-append_seam placed (p ∷ places) in
    let next : IsNext joints count (take (length placed) order) p = are (length placed) p there in
    let can : can_place joints placed p ≡ true = subst (λ front. can_place joints front p ≡ true) front next.can in
    let more : order ≡ (placed ++ (p ∷ [])) ++ places = e ∙ sym (append_assoc placed (p ∷ []) places) in
    (can, goes_on joints count (placed ++ (p ∷ [])) places order more are)
