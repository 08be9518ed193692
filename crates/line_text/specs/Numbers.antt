-- Numbers as words, and bytes as hexadecimal digits.
use Rattle.std.specs.Prelude.{◌≡◌, ◌≢◌, ℕ, ◌+◌, ◌/◌, ◌%◌, ◌^◌, ◌<◌, ◌≤◌, ◌⊎◌, nat_lt, if◌then◌else◌, List, [], ◌∷◌, length, slice_index}
use Rattle.std.specs.List.{flat_map}
use Rattle.std.specs.Str.Parse.{digits_value}

-- `0` to `9`
abbrev pub IsDigit : ℕ → Type 0
IsDigit byte = (48 ≤ byte) × (byte ≤ 57)

-- the byte at a place is a digit, and no `0` begins the word before it
abbrev pub CanStand : List ℕ → ℕ → Type 0
CanStand word place = IsDigit (slice_index word place) × (0 < place → slice_index word 0 ≢ 48)

-- decimal digits without a leading zero, unless the word is `0`, of at most 2 ^ 64 - 1
pub record IsNumber (word : List ℕ) (n : ℕ) : Type 0 where
  pub some : 0 < length word
  pub digits : (k : ℕ) → k < length word → CanStand word k
  pub value : digits_value 10 word ≡ n
  pub fits : n < 2 ^ 64

-- the first byte that can't stand in a number
pub record IsFirstMisplaced (word : List ℕ) (place : ℕ) : Type 0 where
  pub within : place < length word
  pub before : (k : ℕ) → k < place → CanStand word k
  pub misplaced : ¬ (CanStand word place)

-- each byte can stand, but there is none, or the number is too large
pub record IsEmptyOrLarge (word : List ℕ) : Type 0 where
  pub digits : (k : ℕ) → k < length word → CanStand word k
  pub cause : (length word ≡ 0) ⊎ (2 ^ 64 ≤ digits_value 10 word)

-- the place that is told of a word that is no number
abbrev pub IsFaultAt : List ℕ → ℕ → Type 0
IsFaultAt word place = IsFirstMisplaced word place ⊎ ((place ≡ length word) × IsEmptyOrLarge word)

-- `0` to `9` and `a` to `f`
abbrev pub hex_digit : ℕ → ℕ
hex_digit value = if nat_lt value 10 then 48 + value else 87 + value

-- the two digits of a byte, the higher one first
abbrev pub hex_of_byte : ℕ → List ℕ
hex_of_byte byte = hex_digit (byte / 16) ∷ hex_digit (byte % 16) ∷ []

abbrev pub hex_of : List ℕ → List ℕ
hex_of bytes = flat_map hex_of_byte bytes
