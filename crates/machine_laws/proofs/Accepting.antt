-- What a call that isn't refused has passed.
use Rattle.std.proofs.Common.{◌≡◌, Bool, true, false, not, ◌||◌, ◌&&◌, Option, Some, None, if◌then◌else◌, refl}
use Rattle.il_machine.specs.Lists.{holds_at}

-- the first test fails, and then those of the rest
pub passed : {E : Type 0} (b : Bool) (e : E) (rest : Option E) → (if b then Some e else rest) ≡ None → (b ≡ false) × (rest ≡ None)
passed true e rest h = absurd cc
passed false e rest h = (refl, h)

pub not_either : (a b : Bool) → (a || b) ≡ false → (a ≡ false) × (b ≡ false)
not_either true b h = absurd cc
not_either false b h = (refl, h)

pub not_not : (a : Bool) → not a ≡ false → a ≡ true
not_not true h = refl
not_not false h = absurd cc

pub is_not : (a : Bool) → not a ≡ true → a ≡ false
is_not true h = absurd cc
is_not false h = refl

pub both_of : (a b : Bool) → (a && b) ≡ true → (a ≡ true) × (b ≡ true)
both_of true b h = (refl, h)
both_of false b h = absurd cc

-- what is there passes, or not
pub holds_there : {A : Type 0} (o : Option A) (test : A → Bool) (x : A) (b : Bool) → o ≡ Some x → holds_at o test ≡ b → test x ≡ b
holds_there None test x b e h = absurd cc
holds_there (Some y) test x b e h = let s : y ≡ x = cc in rw (← s) h
