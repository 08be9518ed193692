-- Held works by the numbers of their components, and acts that move none.
use Rattle.std.specs.Prelude.{◌≡◌, ℕ, false, true, List, slice_get, Option, Some}
use Rattle.il_machine.specs.World.{World}
use Rattle.il_machine.specs.Acts.{Act, Reply}
use Rattle.history_laws.specs.Works.{has_work_out, returns_work, takes_work}
use Rattle.held_work_laws.specs.Works.{HeldWork, IsHeld}

-- The one at a place is out, and its component has that number; each that is out is there.
pub record AreHeldAt (works : List (Option HeldWork)) (w : World) : Type 0 where
  pub each : (number : ℕ) (x : HeldWork) → slice_get works number ≡ Some (Some x) → (x.handle.generation ≡ number) × IsHeld w x
  pub whole : (number : ℕ) → has_work_out number w ≡ true → (x : HeldWork) × (slice_get works number ≡ Some (Some x))

-- no work goes out or comes back
abbrev pub IsWorkless : Act → Reply → Type 0
IsWorkless a r = (number : ℕ) → (returns_work number a r ≡ false) × (takes_work number a r ≡ false)
