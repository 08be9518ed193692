-- The words of a line. Blanks are space and tab, and a word is a run of other bytes that can't be made longer.
use Rattle.std.specs.Prelude.{◌≡◌, ℕ, ◌<◌, ◌≤◌, ◌⊎◌, Bool, ◌==◌, ◌||◌, if◌then◌else◌, List, [], ◌∷◌, length, slice_index}

abbrev pub IsBlank : ℕ → Type 0
IsBlank byte = (byte ≡ 32) ⊎ (byte ≡ 9)

-- the first word at or after a place, from start up to end
pub record IsFirstWord (line : List ℕ) (from start end : ℕ) : Type 0 where
  pub at_or_after : from ≤ start
  pub some : start < end
  pub within : end ≤ length line
  pub blanks_before : (k : ℕ) → from ≤ k → k < start → IsBlank (slice_index line k)
  pub no_blank_inside : (k : ℕ) → start ≤ k → k < end → ¬ (IsBlank (slice_index line k))
  pub ends : end < length line → IsBlank (slice_index line end)

-- nothing but blanks stands from a place on
abbrev pub OnlyBlanksFrom : List ℕ → ℕ → Type 0
OnlyBlanksFrom line from = (k : ℕ) → from ≤ k → k < length line → IsBlank (slice_index line k)

abbrev pub is_blank : ℕ → Bool
is_blank byte = (byte == 32) || (byte == 9)

-- a byte before the first piece
abbrev pub before_first_piece : ℕ → List (List ℕ) → List (List ℕ)
before_first_piece byte [] = (byte ∷ []) ∷ []
before_first_piece byte (piece ∷ pieces) = (byte ∷ piece) ∷ pieces

-- what stands between the blanks of a line, empty pieces too
abbrev pub pieces_of : List ℕ → List (List ℕ)
pieces_of [] = [] ∷ []
pieces_of (byte ∷ line) = if is_blank byte then [] ∷ pieces_of line else before_first_piece byte (pieces_of line)

abbrev pub without_empty : List (List ℕ) → List (List ℕ)
without_empty [] = []
without_empty ([] ∷ pieces) = without_empty pieces
without_empty ((byte ∷ piece) ∷ pieces) = (byte ∷ piece) ∷ without_empty pieces

-- the words of a line, in order
abbrev pub words_of : List ℕ → List (List ℕ)
words_of line = without_empty (pieces_of line)
