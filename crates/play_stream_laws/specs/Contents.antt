-- The contents of a play: what each component's part does, and what the files of its sources hold.
use Rattle.std.specs.Prelude.{◌≡◌, ℕ, nat_le, ◌||◌, List, ◌++◌, Option, Some, None}
use Rattle.part_api.specs.Terms.{Terms}
use Rattle.play_model.specs.Network.{Network}
use Rattle.play_model.specs.Content.{Contents}
use Rattle.play_world_laws.specs.Cast.{Cast}

-- Numbers beyond the components stand for nothing. Here each of them is a source, so that none has an input.
abbrev pub bounded : Network → Network
bounded net = record net { is_source = λ c. nat_le net.components c || net.is_source c }

abbrev pub network_of : Cast → Network
network_of x = bounded (x.layout).network

-- the file tells its bytes, and these come first
abbrev pub Tells : Option (List ℕ) → List ℕ → Type 0
Tells None bytes = ⊥
Tells (Some known) bytes = (rest : List ℕ) × (known ≡ bytes ++ rest)

-- What the components of a play are set to, and so what they are as parts of its network; and what the files of its sources hold.
pub record PlayContents : Type 0 where
  pub terms : ℕ → Terms
  pub model : Contents
