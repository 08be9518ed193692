-- The headers of a work by the numbers of their ports.
use Rattle.std.specs.Prelude.{◌≡◌, ℕ, ◌+◌, false, nat_eq, List, [], ◌∷◌, Option, Some, None}
use Rattle.il_machine.specs.Claims.{CarriedHeader}
use Rattle.header_core.specs.BufferHeader.{BufferHeader}

abbrev pub carried : ℕ → BufferHeader → CarriedHeader
carried port h = record { port = port; header = h.held }

abbrev pub carried_at : ℕ → Option BufferHeader → List CarriedHeader → List CarriedHeader
carried_at port None rest = rest
carried_at port (Some h) rest = carried port h ∷ rest

-- the headers as their holder sees them, by rising port from this one on
abbrev pub carried_from : ℕ → List (Option BufferHeader) → List CarriedHeader
carried_from port [] = []
carried_from port (place ∷ places) = carried_at port place (carried_from (port + 1) places)

abbrev pub EachAt : (ℕ → BufferHeader → Type 0) → ℕ → Option BufferHeader → Type 0
EachAt P port None = Unit {0}
EachAt P port (Some h) = P port h

-- of each header by its port
abbrev pub EachFrom : (ℕ → BufferHeader → Type 0) → ℕ → List (Option BufferHeader) → Type 0
EachFrom P port [] = Unit {0}
EachFrom P port (place ∷ places) = EachAt P port place × EachFrom P (port + 1) places

-- no place has a header
abbrev pub AreFree : List (Option BufferHeader) → Type 0
AreFree [] = Unit {0}
AreFree (place ∷ places) = (place ≡ None) × AreFree places

abbrev pub IsOther : ℕ → BufferHeader → Type 0
IsOther number h = nat_eq h.held.number number ≡ false

abbrev pub IsApart : Option BufferHeader → List (Option BufferHeader) → Type 0
IsApart None places = Unit {0}
IsApart (Some h) places = EachFrom (λ port x. IsOther h.held.number x) 0 places

-- no two headers have one number
abbrev pub HaveOwnHeaders : List (Option BufferHeader) → Type 0
HaveOwnHeaders [] = Unit {0}
HaveOwnHeaders (place ∷ places) = IsApart place places × HaveOwnHeaders places
