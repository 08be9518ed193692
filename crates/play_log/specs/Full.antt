-- Pieces of a list that are full.
use Rattle.std.specs.Prelude.{◌≡◌, ℕ, List, All, Vec, length}

-- how many values a piece has room for
abbrev pub piece_room : ℕ
piece_room = 8192

abbrev pub AreFull : {T A : Type 0} → List (Vec T A) → Type 0
AreFull pieces = All (λ piece. length piece.items ≡ piece_room) pieces
