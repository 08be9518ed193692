-- A part of a list without its front.
use Rattle.std.proofs.Common.{◌≡◌, ℕ, ◌+◌, ◌-◌, ◌≤◌, List, take, drop, refl, arith}
use Rattle.std.proofs.lemmas.List.{drop-take, drop-drop}

pub drop-range : (xs : List ℕ) (start bytes used : ℕ) → start + bytes ≤ used
    → take (used - (start + bytes)) (drop (start + bytes) xs) ≡ drop bytes (take (used - start) (drop start xs))
drop-range xs start bytes used within =
    let e : used - start ≡ bytes + (used - (start + bytes)) = omega arith in
    rw e (rw (drop-take, drop-drop) refl)
