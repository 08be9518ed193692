-- How the next bytes of a file are to a piece.
use Rattle.std.specs.Prelude.{◌≡◌, ◌≢◌, ℕ, ◌+◌, ◌<◌, ◌≤◌, max, min, List, length, take, drop, Option}
use Rattle.outside_io.specs.Moves.{WhereTold}
use Rattle.compared_files.specs.declared.writing.Next.{Next}
use Rattle.compared_files.specs.declared.writing.Next.TheVariants.{Same, Other, Nothing}

-- by its told bytes, where it gives nothing, its size, and where it stood and stands
abbrev pub IsNext : Option (List ℕ) → Option ℕ → ℕ → ℕ → ℕ → List ℕ → Next → Type 0
IsNext told ends size from to piece (Same count) =
    (0 < count) × (count ≤ length piece) × (to ≡ from + count) × WhereTold told (λ known. take count (drop from known) ≡ take count piece)
    × WhereTold ends (λ end. to ≤ max end from)
IsNext told ends size from to piece Other = WhereTold told (λ known. take (length piece) (drop from known) ≢ piece)
IsNext told ends size from to piece Nothing = (to ≡ from) × WhereTold ends (λ end. from < min end size → ⊥)
