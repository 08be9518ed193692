-- The lines of the entries of several passes, by their places.
use Rattle.std.specs.Prelude.{ℕ, zero, suc, ◌+◌, ◌==◌, List, [], ◌∷◌, Bool, true, false, Option, Some, None}
use Rattle.play_log.specs.Lines.{LogLine}
use Rattle.play_log.specs.Places.{PlacedLine}

abbrev pub picked : Option LogLine → ℕ → List PlacedLine → List PlacedLine
picked None place lines = lines
picked (Some line) place lines = record { place = place; line = line } ∷ lines

abbrev pub only_if : Bool → Option LogLine → Option LogLine
only_if true line = line
only_if false line = None

-- the lines of the entries that have one, from that place on
abbrev pub chosen : {E : Type 0} → (E → Option LogLine) → ℕ → List E → List PlacedLine
chosen says n [] = []
chosen says n (e ∷ es) = picked (says e) n (chosen says (n + 1) es)

-- those of one pass
abbrev pub of_pass : {E : Type 0} → (E → ℕ) → (E → Option LogLine) → ℕ → E → Option LogLine
of_pass pass says p e = only_if (pass e == p) (says e)

-- for each of so many passes, from the pass p on, the lines of its entries
abbrev pub lists_by : {E : Type 0} → (E → ℕ) → (E → Option LogLine) → ℕ → ℕ → List E → List (List PlacedLine)
lists_by pass says p zero entries = []
lists_by pass says p (suc more) entries = chosen (of_pass pass says p) 0 entries ∷ lists_by pass says (p + 1) more entries
