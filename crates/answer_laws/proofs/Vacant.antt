-- There is a vacant slot.
use Rattle.std.proofs.Common.{◌≡◌, ℕ, suc, ◌+◌, ◌≤◌, true, false, nat_eq, ne_eqb, List, [], ◌∷◌, refl, arith}
use Rattle.std.specs.List.{list_any}
use Rattle.il_machine.specs.World.{Component}
use Rattle.il_machine.specs.Components.{is_vacant}

-- one that is greater than each that is taken
abbrev above : List Component → ℕ
above [] = 0
above (c ∷ cs) = suc c.handle.slot + above cs

none_at : (cs : List Component) (slot : ℕ) → above cs ≤ slot → list_any (λ c. nat_eq c.handle.slot slot) cs ≡ false
none_at [] slot le = refl
none_at (c ∷ cs) slot le =
    let far : suc c.handle.slot + above cs ≤ slot = le in
    let this : nat_eq c.handle.slot slot ≡ false = ne_eqb c.handle.slot slot (λ same. let e : c.handle.slot ≡ slot = same in absurd (omega (arith, far, e))) in
    rw this (none_at cs slot (omega (arith, far)))

pub vacant : (cs : List Component) → (slot : ℕ) × (is_vacant slot cs ≡ true)
vacant cs = (above cs, rw (none_at cs (above cs) (omega arith)) refl)
