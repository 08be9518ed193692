-- The lines of a text. A line is ended by a line feed, the last one may lack it, and a carriage return before it is dropped.
use Rattle.std.specs.Prelude.{ℕ, ◌==◌, if◌then◌else◌, List, [], ◌∷◌}

-- a byte before the first piece
abbrev pub before_first_piece : ℕ → List (List ℕ) → List (List ℕ)
before_first_piece byte [] = (byte ∷ []) ∷ []
before_first_piece byte (piece ∷ pieces) = (byte ∷ piece) ∷ pieces

-- what stands between line feeds, empty pieces too
abbrev pub pieces_of : List ℕ → List (List ℕ)
pieces_of [] = [] ∷ []
pieces_of (byte ∷ bytes) = if byte == 10 then [] ∷ pieces_of bytes else before_first_piece byte (pieces_of bytes)

-- a line without the carriage return at its end
abbrev pub without_return : List ℕ → List ℕ
without_return [] = []
without_return (byte ∷ []) = if byte == 13 then [] else byte ∷ []
without_return (byte ∷ next ∷ bytes) = byte ∷ without_return (next ∷ bytes)

-- each piece but the last was ended; behind the last line feed stands no line, or one that lacks it
abbrev pub ended : List (List ℕ) → List (List ℕ)
ended [] = []
ended ([] ∷ []) = []
ended ((byte ∷ bytes) ∷ []) = (byte ∷ bytes) ∷ []
ended (piece ∷ next ∷ pieces) = without_return piece ∷ ended (next ∷ pieces)

abbrev pub lines_of : List ℕ → List (List ℕ)
lines_of text = ended (pieces_of text)
