-- In a quiet world the close-out changes nothing.
use Rattle.std.proofs.Common.{◌≡◌, ℕ, suc, Bool, true, false, List, [], ◌∷◌, slice_get, Option, Some, None, is_some, refl}
use Rattle.std.specs.List.{list_any}
use Rattle.il_machine.specs.Due.{ClosesTo}
use Rattle.il_machine.specs.Ports.{IsCalm}
use Rattle.il_machine.specs.World.{Component, World}
use Rattle.machine_laws.proofs.Closing.{closed_closes}
use Rattle.machine_laws.proofs.Every.{at_place}
use Rattle.play_build_laws.proofs.Calm.{calm_closed}
use Rattle.play_build_laws.specs.Dismantling.{IsQuiet, IsResting}

pub resting_at : (w : World) → IsQuiet w → (i : ℕ) (a : Component) → slice_get w.components i ≡ Some a → IsResting a
resting_at w Q i a e = at_place IsResting w.components i a Q.components e

pub calm_closes : (w v : World) → ((i : ℕ) (a : Component) → slice_get w.components i ≡ Some a → IsCalm a) → ClosesTo w v → v ≡ w
calm_closes w v h C = closed_closes w v (calm_closed w h) C

pub is_none_where : {X : Type 0} (o : Option X) → (is_some o ≡ true → ⊥) → o ≡ None
is_none_where None h = refl
is_none_where (Some x) h = absurd (h refl)

-- none of them passes
pub none_any : {X : Type 0} (test : X → Bool) (xs : List X) → ((i : ℕ) (x : X) → slice_get xs i ≡ Some x → test x ≡ false) → list_any test xs ≡ false
none_any test [] h = refl
none_any test (x ∷ xs) h = rw (h 0 x refl, none_any test xs (λ i y e. h (suc i) y e)) refl
