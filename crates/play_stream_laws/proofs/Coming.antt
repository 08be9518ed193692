-- What comes into a step of a component: the header that is found for an input, and zeros behind what it carries; an input that has ended
-- has none.
use Rattle.std.proofs.Common.{◌≡◌, ℕ, zero, suc, ◌-◌, ◌<◌, Bool, true, false, ◌&&◌, List, [], ◌∷◌, ◌++◌, find, length, replicate, slice_get, Some, None, refl, sym, ◌∙◌, ap, append-nil, arith}
use Rattle.il_machine.specs.World.{Picked}
use Rattle.machine_laws.proofs.Finding.{either}
use Rattle.play_model.specs.Network.{IsInput}
use Rattle.play_model.specs.Content.{padded}
use Rattle.play_model.specs.Play.{Play}
use Rattle.play_world_laws.specs.Cast.{Cast, IsCast, input_at, links_of, script_place}
use Rattle.play_world_laws.proofs.Picks.{IsPick, pick_key, key_is_end}
use Rattle.play_world_laws.proofs.Wanted.{end_at, end_place, link_below}

-- ---- lists

-- the one that passes is found
pub find_one : {X : Type 0} (test : X → Bool) (xs : List X) (j : ℕ) (y : X) → slice_get xs j ≡ Some y → test y ≡ true → ((i : ℕ) (z : X) → slice_get xs i ≡ Some z → test z ≡ true → z ≡ y) → find test xs ≡ Some y
find_one test [] j y e t h = absurd cc
find_one test (z ∷ xs) zero y e t h = let s : z ≡ y = cc in let u : test z ≡ true = ap test s ∙ t in rw u e
find_one test (z ∷ xs) (suc j) y e t h = either (test z)
    (λ o. rw o (ap Some (h 0 z refl o)))
    (λ o. rw o (find_one test xs j y e t (λ i u q. h (suc i) u q)))

pub find_none : {X : Type 0} (test : X → Bool) (xs : List X) → ((i : ℕ) (z : X) → slice_get xs i ≡ Some z → test z ≡ true → ⊥) → find test xs ≡ None
find_none test [] h = refl
find_none test (z ∷ xs) h = either (test z)
    (λ o. absurd (h 0 z refl o))
    (λ o. rw o (find_none test xs (λ i u q. h (suc i) u q)))

pub padded_none : (m : ℕ) → padded m [] ≡ replicate m 0
padded_none m = let z : m - 0 ≡ m = omega arith in ap (λ (j : ℕ). replicate {A = ℕ} j 0) z

pub padded_whole : (m : ℕ) (xs : List ℕ) → length xs ≡ m → padded m xs ≡ xs
padded_whole m xs e = let z : m - length xs ≡ 0 = omega arith in ap (λ (j : ℕ). xs ++ replicate {A = ℕ} j 0) z ∙ append-nil xs

-- an input that has ended gives no header to a work
pub closed_pick : (x : Cast) (p : Play) → IsCast x → (c : ℕ) (xs : List Picked) (k : ℕ) → IsInput (x.layout).network c k → ((p.flow).link k).closed ≡ true → (j l : ℕ) (y : Picked) (input : Bool) → IsPick x p c xs j y l input → y.port ≡ x.input_port k → ⊥
closed_pick x p C c xs k I o j l y input P q = by_end input l (key_is_end x p C c xs j l y input P) (link_below input (x.layout).network c l P.of_link) P.open_
  where
    place : (input_at x k).component ≡ script_place x c
    place = end_place true x c k I

    key : pick_key x c y ≡ input_at x k
    key = λ τ. record { component = sym place τ; port = q τ }

    by_end : (input : Bool) (l : ℕ) → pick_key x c y ≡ end_at input x l → l < links_of x → (input && ((p.flow).link l).closed) ≡ false → ⊥
    by_end true l h d g =
        let same : k ≡ l = C.inputs k l I.below d (sym key ∙ h) in
        let z : true ≡ false = sym o ∙ (ap (λ (u : ℕ). ((p.flow).link u).closed) same ∙ g) in
        cc
    by_end false l h d g = C.beside l k d I.below (sym h ∙ key)
