-- Words without blanks and without `=`.
use Rattle.std.proofs.Common.{◌≡◌, ℕ, zero, suc, ◌^◌, ◌<◌, ◌≤◌, ◌==◌, ◌&&◌, Bool, true, false, not, nat_lt, List, [], ◌∷◌, length, get_or, refl, ◌∙◌, arith, codes, rules, length-append}
use Rattle.std.specs.Fmt.{decimal}
use Rattle.std.specs.List.{list_all}
use Rattle.std.specs.Str.{bytes_eq}
use Rattle.std.proofs.lemmas.Fmt.{decimal_nonempty}
use Rattle.std.proofs.lemmas.Grind.{common_steps}
use Rattle.std.proofs.lemmas.List.Folds.{list_all-append}
use Rattle.act_text.specs.Names.{is_name_byte, IsName}
use Rattle.act_text.specs.Ports.{IsPortName, port_word}
use Rattle.act_text.specs.declared.name.PortName.{PortName}
use Rattle.act_text.proofs.Dots.{name-bytes}
use Rattle.line_text.proofs.Numerals.{decimal-digits}

abbrev pub plain_byte : ℕ → Bool
plain_byte byte = nat_lt 32 byte && not (byte == 61)

abbrev pub plain : List ℕ → Bool
plain [] = false
plain (byte ∷ bytes) = list_all plain_byte (byte ∷ bytes)

-- a word of bytes above the space
pub record IsSolid (word : List ℕ) : Type 0 where
  pub some : 0 < length word
  pub high : (k : ℕ) → k < length word → 32 < get_or word k 0

plain_byte-high : (byte : ℕ) → plain_byte byte ≡ true → 32 < byte
plain_byte-high byte is = Prim.grind (arith, common_steps)

plain-first : (byte : ℕ) (bytes : List ℕ) → list_all plain_byte (byte ∷ bytes) ≡ true → plain_byte byte ≡ true
plain-first byte bytes is = Prim.grind (arith, common_steps)

plain-rest : (byte : ℕ) (bytes : List ℕ) → list_all plain_byte (byte ∷ bytes) ≡ true → list_all plain_byte bytes ≡ true
plain-rest byte bytes is = Prim.grind (arith, common_steps)

all-high : (bytes : List ℕ) → list_all plain_byte bytes ≡ true → (k : ℕ) → k < length bytes → 32 < get_or bytes k 0
all-high [] is k below = absurd (omega arith)
all-high (byte ∷ bytes) is zero below = plain_byte-high byte (plain-first byte bytes is)
all-high (byte ∷ bytes) is (suc k) below = all-high bytes (plain-rest byte bytes is) k (omega arith)

pub plain-solid : (word : List ℕ) → plain word ≡ true → IsSolid word
plain-solid [] is = (let e : false ≡ true = is in cc)
plain-solid (byte ∷ bytes) is = record { some = omega arith; high = all-high (byte ∷ bytes) is }

-- it isn't the word `=`
pub plain-equals : (word : List ℕ) → plain word ≡ true → bytes_eq word (codes "=") ≡ false
plain-equals [] is = (let e : false ≡ true = is in cc)
plain-equals (byte ∷ bytes) is = let first = plain-first byte bytes is in Prim.grind (arith, common_steps)

all-by-index : (bytes : List ℕ) → ((k : ℕ) → k < length bytes → plain_byte (get_or bytes k 0) ≡ true) → list_all plain_byte bytes ≡ true
all-by-index [] each = refl
all-by-index (byte ∷ bytes) each =
    let first : plain_byte byte ≡ true = each 0 (omega arith) in
    let rest = all-by-index bytes (λ k below. each (suc k) (omega arith)) in
    rw (first, rest) refl

name_byte-plain : (byte : ℕ) → is_name_byte byte ≡ true → plain_byte byte ≡ true
name_byte-plain byte is = Prim.grind (arith, common_steps)

name_bytes-plain : (bytes : List ℕ) → list_all is_name_byte bytes ≡ true → list_all plain_byte bytes ≡ true
name_bytes-plain [] is = refl
name_bytes-plain (byte ∷ bytes) is =
    let first : is_name_byte byte ≡ true = Prim.grind (arith, common_steps) in
    let others : list_all is_name_byte bytes ≡ true = Prim.grind (arith, common_steps) in
    let byte_plain = name_byte-plain byte first in
    let rest = name_bytes-plain bytes others in
    rw (byte_plain, rest) refl

digit-plain : (byte : ℕ) → 48 ≤ byte → byte ≤ 57 → plain_byte byte ≡ true
digit-plain byte low high = Prim.grind (arith, common_steps)

numeral-plain : (n : ℕ) → n < 2 ^ 64 → list_all plain_byte (decimal n) ≡ true
numeral-plain n fits = all-by-index (decimal n) (λ k below. let digit = decimal-digits n fits k below in digit-plain (get_or (decimal n) k 0) digit.0 digit.1)

some-plain : (word : List ℕ) → 0 < length word → list_all plain_byte word ≡ true → plain word ≡ true
some-plain [] some is = absurd (omega arith)
some-plain (byte ∷ bytes) some is = is

pub number-plain : (n : ℕ) → n < 2 ^ 64 → plain (decimal n) ≡ true
number-plain n fits = some-plain (decimal n) (decimal_nonempty n fits) (numeral-plain n fits)

name-some : (name : List ℕ) → IsName name → 0 < length name
name-some [] is = (let e : false ≡ true = search rules in cc)
name-some (byte ∷ bytes) is = omega arith

pub name-plain : (name : List ℕ) → IsName name → plain name ≡ true
name-plain name is = some-plain name (name-some name is) (name_bytes-plain name (name-bytes name is))

pub port-plain : (port : PortName) → IsPortName port → plain (port_word port) ≡ true
port-plain port is =
    let fits : port.index < 2 ^ 64 = omega (arith, is.fits) in
    let front = name_bytes-plain port.component (name-bytes port.component is.named) in
    let index = numeral-plain port.index fits in
    let whole : list_all plain_byte (port_word port) ≡ true = list_all-append plain_byte port.component (46 ∷ decimal port.index) ∙ rw (front, index) refl in
    some-plain (port_word port) (omega (arith, length-append port.component (46 ∷ decimal port.index))) whole
