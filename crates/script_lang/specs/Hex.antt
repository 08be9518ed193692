-- Bytes as a word: lower-case hexadecimal digits, or `-` for none.
use Rattle.std.specs.Prelude.{ℕ, ◌+◌, ◌-◌, ◌*◌, ◌<◌, Bool, nat_le, ◌&&◌, ◌||◌, if◌then◌else◌, List, [], ◌∷◌, Option, Some, None, codes}
use Rattle.std.specs.List.{AllByRecursion}
use Rattle.std.specs.Str.{bytes_eq}
use Rattle.line_text.specs.Numbers.{hex_of}

abbrev pub bytes_word : List ℕ → List ℕ
bytes_word [] = codes "-"
bytes_word (byte ∷ bytes) = hex_of (byte ∷ bytes)

abbrev pub AreBytes : List ℕ → Type 0
AreBytes bytes = AllByRecursion (λ byte. byte < 256) bytes

abbrev pub is_hex : ℕ → Bool
is_hex digit = (nat_le 48 digit && nat_le digit 57) || (nat_le 97 digit && nat_le digit 102)

abbrev pub hex_value : ℕ → ℕ
hex_value digit = if nat_le digit 57 then digit - 48 else digit - 87

-- the byte of two digits
abbrev pub byte_with : ℕ → ℕ → Option ℕ
byte_with high low = if is_hex high && is_hex low then Some (hex_value high * 16 + hex_value low) else None

abbrev pub with_rest : Option ℕ → Option (List ℕ) → Option (List ℕ)
with_rest None rest = None
with_rest (Some byte) None = None
with_rest (Some byte) (Some bytes) = Some (byte ∷ bytes)

-- the bytes of pairs of digits
abbrev pub pairs_of : List ℕ → Option (List ℕ)
pairs_of [] = Some []
pairs_of (high ∷ []) = None
pairs_of (high ∷ low ∷ digits) = with_rest (byte_with high low) (pairs_of digits)

abbrev pub bytes_of : List ℕ → Option (List ℕ)
bytes_of [] = None
bytes_of (digit ∷ digits) = if bytes_eq (digit ∷ digits) (codes "-") then Some [] else pairs_of (digit ∷ digits)
