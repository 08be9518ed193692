-- What every script has: lines that are skipped, and a first line of its command.
use Rattle.std.specs.Prelude.{ℕ, Bool, false, true, List, [], ◌∷◌, ◌==◌, codes}

abbrev pub begins_with_hash : List ℕ → Bool
begins_with_hash [] = false
begins_with_hash (byte ∷ bytes) = byte == 35

-- a line without words, or a comment
abbrev pub is_skipped : List (List ℕ) → Bool
is_skipped [] = true
is_skipped (word ∷ words) = begins_with_hash word

-- `omx`, `1` and the command
abbrev pub first_words : List ℕ → List (List ℕ)
first_words command = codes "omx" ∷ codes "1" ∷ command ∷ []
