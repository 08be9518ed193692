-- Where nothing is carried, no place has a header.
use Rattle.std.proofs.Common.{◌≡◌, ℕ, ◌+◌, List, [], ◌∷◌, refl}
use Rattle.std.specs.Prelude.{Option, Some, None}
use Rattle.header_core.specs.BufferHeader.{BufferHeader}
use Rattle.work_landing.specs.Places.{AreFree, carried_from}

pub free_of : (port : ℕ) (places : List (Option BufferHeader)) → carried_from port places ≡ [] → AreFree places
free_of port [] e = tt
free_of port (None ∷ places) e = (refl, free_of (port + 1) places e)
free_of port (Some h ∷ places) e = absurd (cc)
