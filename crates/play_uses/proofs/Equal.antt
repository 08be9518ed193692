-- A list of equal numbers.
use Rattle.std.proofs.Common.{◌≡◌, ℕ, zero, suc, get_or, replicate, refl}

pub at_any : (n place y : ℕ) → get_or (replicate n y) place y ≡ y
at_any zero place y = refl
at_any (suc n) zero y = refl
at_any (suc n) (suc place) y = at_any n place y
