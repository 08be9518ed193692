-- In a closed world of a play nothing can happen, but for the second Idle.
use Rattle.std.proofs.Common.{◌≡◌, ℕ, suc, Bool, true, false, if◌then◌else◌, List, [], ◌∷◌, slice_get, Option, Some, None, refl}
use Rattle.std.specs.List.{list_all}
use Rattle.il_machine.specs.Due.{Thing, Transition}

pub all_true : {X : Type 0} (test : X → Bool) (xs : List X) → ((k : ℕ) (y : X) → slice_get xs k ≡ Some y → test y ≡ true) → list_all test xs ≡ true
all_true test [] h = refl
all_true test (y ∷ xs) h = rw (h 0 y refl) (all_true test xs (λ k z e. h (suc k) z e))

-- ---- what the model can do is due

pub first_there : (t : Bool) (rest : Option Thing) → t ≡ true → (if t then Some Transition else rest) ≡ None → ⊥
first_there true rest e h = cc
first_there false rest e h = cc
