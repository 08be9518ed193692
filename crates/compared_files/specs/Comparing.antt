-- What was given to a sink that compares, and the file that it is compared with.
use Rattle.std.specs.Prelude.{◌≡◌, ◌≢◌, ℕ, ◌+◌, ◌<◌, ◌≤◌, List, [], ◌∷◌, ◌++◌, length, take, drop, Option, Some, None, option_map}
use Rattle.outside_io.specs.Moves.{WhereTold}
use Rattle.outside_io.specs.Stops.{GaveNothing}
use Rattle.compared_files.specs.declared.comparing.Met.{Met}
use Rattle.compared_files.specs.declared.comparing.Met.TheVariants.{Failed, Short, OutOfMemory}

pub record ComparingValue (S : Type 0) : Type 0 where
  pub src : S
  -- so many of the file's first bytes were given
  pub place : ℕ
  -- and then these, of which the first isn't the file's
  pub other : List ℕ
  pub met : Option Met
  pub failed : ℕ

module _ {S : Type 0} where
  -- what was given, by the file's bytes
  abbrev pub given_by : List ℕ → ComparingValue S → List ℕ
  given_by known x = take x.place known ++ x.other

  abbrev pub told_by : Option (List ℕ) → ComparingValue S → Option (List ℕ)
  told_by told x = option_map (λ known. given_by known x) told

-- the file doesn't begin with these bytes
abbrev pub IsFrontless : List ℕ → List ℕ → Type 0
IsFrontless known bytes = take (length bytes) known ≢ bytes

-- what was given behind the file's first bytes isn't what follows them there
abbrev pub HasDiffered : Option (List ℕ) → ℕ → List ℕ → Type 0
HasDiffered told place other = other ≢ [] → WhereTold told (λ known. take (length other) (drop place known) ≢ other)

-- Why it came to its end, of a file with so many failed calls, of this size, that gives nothing from this offset on where it tells that.
abbrev pub HasMet : ℕ → ℕ → Option ℕ → Option Met → Type 0
HasMet faults size ends (Some Failed) = 0 < faults
HasMet faults size ends (Some (Short at told_size)) = GaveNothing size ends 0 at told_size
HasMet faults size ends _ = Unit {0}

-- the file gives all its bytes
abbrev pub IsGivenToEnd : Option (List ℕ) → Option ℕ → Type 0
IsGivenToEnd told ends = WhereTold told (λ known. WhereTold ends (λ end. length known ≤ end))

-- what holds of it, by what its file tells
pub record IsKept {S : Type 0} (told : Option (List ℕ)) (ends : Option ℕ) (size offset faults : ℕ) (x : ComparingValue S) : Type 0 where
  pub within : x.place ≤ size
  pub going : x.met ≡ None → x.other ≡ [] → offset ≡ x.place
  pub given : WhereTold ends (λ end. x.place ≤ end)
  pub differed : HasDiffered told x.place x.other
  pub cause : HasMet faults size ends x.met
  pub unmet : x.met ≡ None → x.failed ≡ 0

-- ---- what it is known by

abbrev pub end_word : Option ℕ → ℕ
end_word None = 0
end_word (Some end) = end + 1

abbrev pub bytes_word : Option (List ℕ) → List ℕ
bytes_word None = []
bytes_word (Some bytes) = 0 ∷ bytes

-- Over its life a sink keeps nothing that is seen but its name, and this one is never closed under it. So its name is its file's name, with
-- what that file tells.
abbrev pub known_by : List ℕ → Option (List ℕ) → Option ℕ → List ℕ
known_by name told ends = end_word ends ∷ length name ∷ name ++ bytes_word told
