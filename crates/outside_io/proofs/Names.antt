-- Names that are put in lists of calls.
use Rattle.std.proofs.Common.{◌≡◌, ◌≤◌, ℕ, zero, suc, List, [], ◌∷◌, length, replicate, Option, Some, None, refl, sym, ap, append-nil, arith}
use Rattle.std.proofs.lemmas.List.{length-replicate}
use Rattle.outside_io.specs.Files.{AreAmong, NamesMore, with_name}

-- no name
pub no_name : (name : List ℕ) (told : Option (List (List ℕ))) → told ≡ with_name name 0 told
no_name name None = refl
no_name name (Some names) = ap Some (sym (append-nil names))

-- the same name so many times is among it alone
pub among-same : (name : List ℕ) (times : ℕ) → AreAmong (replicate times name) (name ∷ [])
among-same name zero k found is = cc
among-same name (suc times) zero found is = (0, is)
among-same name (suc times) (suc k) found is = among-same name times k found is

-- one name, so many times
pub names-same : (name : List ℕ) (times : ℕ) (old new : Option (List (List ℕ))) → 1 ≤ times → new ≡ with_name name times old → NamesMore (name ∷ []) old new
names-same name times old new some is = (
  replicate times name,
  (let h : 1 ≤ length (replicate times name) = omega (arith, length-replicate times name) in h),
  among-same name times,
  is,
)
