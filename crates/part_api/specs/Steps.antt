-- What one step of a part does, and pieces of whole streams.
use Rattle.std.specs.Prelude.{◌≡◌, ℕ, ◌≤◌, List, [], ◌∷◌, ◌++◌, length, take, Option, None, Some}
use Rattle.std.specs.Io.KnownBytes.{append_known}
use Rattle.part_api.specs.Streams.{Incoming, Shape, HasFrames, with_file, joined, nothing}

-- a piece comes first in what the file still gives, where it tells that, and the rest stays; what it doesn't tell it doesn't tell then
abbrev pub ComesFirst : List ℕ → Option (List ℕ) → Option (List ℕ) → Type 0
ComesFirst piece None after = after ≡ None
ComesFirst piece (Some all) after = (rest : List ℕ) × (after ≡ Some rest) × (all ≡ piece ++ rest)

-- the file gave its next piece, and the register carries it
abbrev pub HasRead : Option (List ℕ) → Option (List ℕ) → (Incoming → Type 0) → Incoming → Type 0
HasRead before after carries incoming = (piece : List ℕ) × ComesFirst piece before after × carries (with_file piece incoming)

-- the file took a front of these bytes, where it tells what it takes
abbrev pub TookFront : Option (List ℕ) → Option (List ℕ) → List ℕ → Type 0
TookFront old new due = (count : ℕ) × (count ≤ length due) × (new ≡ append_known old (take count due))

-- a piece of whole frames, of one number in all inputs
abbrev pub IsPiece : Shape → Incoming → Type 0
IsPiece shape piece = (frames : ℕ) × HasFrames shape frames piece

-- all pieces, one after another
abbrev pub all_joined : List Incoming → Incoming
all_joined [] = nothing
all_joined (piece ∷ pieces) = joined piece (all_joined pieces)

-- what an output gets of each piece, one after another
abbrev pub outputs_of : Shape → List Incoming → ℕ → List ℕ
outputs_of shape [] output = []
outputs_of shape (piece ∷ pieces) output = shape.plain piece output ++ outputs_of shape pieces output
