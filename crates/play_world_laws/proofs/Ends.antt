-- The two ends of a link in a play's world: the components, their ports, and what the machine's acts find of them.
use Rattle.std.proofs.Common.{◌≡◌, ℕ, zero, suc, false, List, [], ◌∷◌, slice_get, Some, refl, ◌∙◌, subst, eq-eqb, ne_eqb, arith}
use Rattle.il_machine.specs.Places.{first_place}
use Rattle.il_machine.specs.World.{Component, number_of, is_numbered, place_numbered}
use Rattle.il_machine.specs.Sound.{AreRising}
use Rattle.il_machine.proofs.Places.{is_first_place}
use Rattle.machine_laws.proofs.Lookups.{rises_at}

-- ---- the place of a number

numbered_first : (from next i : ℕ) (cs : List Component) (c : Component) → AreRising from cs next → slice_get cs i ≡ Some c → first_place (is_numbered (number_of c)) cs ≡ Some i
numbered_first from next i [] c R e = absurd cc
numbered_first from next zero (y ∷ cs) c R e = let s : y ≡ c = cc in rw s (rw (eq-eqb (number_of c) (number_of c) refl) refl)
numbered_first from next (suc i) (y ∷ cs) c R e =
    let r = rises_at (suc (number_of y)) next i cs c R.1 e in
    let f : is_numbered (number_of c) y ≡ false = ne_eqb (number_of y) (number_of c) (λ k. omega (arith, r.0, k)) in
    rw (f, numbered_first (suc (number_of y)) next i cs c R.1 e) refl

pub place_there : (next i number : ℕ) (cs : List Component) (c : Component) → AreRising 0 cs next → slice_get cs i ≡ Some c → number_of c ≡ number → place_numbered number cs ≡ Some i
place_there next i number cs c R e n =
    subst (λ (k : ℕ). place_numbered k cs ≡ Some i) n (is_first_place (is_numbered (number_of c)) cs ∙ numbered_first 0 next i cs c R e)
