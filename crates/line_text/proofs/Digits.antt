-- Steps of the loops over digits.
use Rattle.std.proofs.Common.{◌≡◌, ℕ, zero, suc, ◌+◌, ◌-◌, ◌*◌, ◌/◌, ◌%◌, ◌^◌, ◌<◌, ◌≤◌, List, [], ◌∷◌, ◌++◌, length, get_or, take, drop, set, sym, ap, ◌∙◌, subst, arith}
use Rattle.std.proofs.Math.Nat.{pow-suc}
use Rattle.std.proofs.lemmas.List.{append_assoc, drop-set, drop-set-lt, length-set, take_more, take_more_set, flat_map_more}
use Rattle.std.proofs.lemmas.Fmt.{decimal_step, decimal_digit}
use Rattle.std.proofs.lemmas.Int.Digits.{digits_value_more}
use Rattle.std.proofs.lemmas.Str.{digit_value_digit}
use Rattle.std.proofs.lemmas.Str.Parse.{digits_value-take-le}
use Rattle.std.specs.Fmt.{decimal}
use Rattle.std.specs.Str.Parse.{digits_value}
use Rattle.line_text.specs.Numbers.{IsDigit, hex_of, hex_of_byte}

-- one more digit, and the bound that it gives on the whole
pub value-more : (word : List ℕ) (i : ℕ) → i < length word → IsDigit (get_or word i 0) → (digits_value 10 (take (i + 1) word) ≡ digits_value 10 (take i word) * 10 + (get_or word i 0 - 48)) × (digits_value 10 (take (i + 1) word) ≤ digits_value 10 word)
value-more word i below digit =
    let step = digits_value_more 10 word i below in
    let value = digit_value_digit (get_or word i 0) digit in
    let whole = digits_value-take-le 10 word (i + 1) (omega arith) in
    (let e : digits_value 10 (take (i + 1) word) ≡ digits_value 10 (take i word) * 10 + (get_or word i 0 - 48) = omega (arith, step, value) in e, whole)

-- a number of start digits at most, without its last digit
pub fewer_digits : (start rest : ℕ) → 1 ≤ start → 10 ≤ rest → rest < 10 ^ start → (1 ≤ start - 1) × (rest / 10 < 10 ^ (start - 1))
fewer_digits zero rest some more fits = absurd (omega arith)
fewer_digits (suc zero) rest some more fits = absurd (omega arith)
fewer_digits (suc (suc k)) rest some more fits =
    let power = pow-suc 10 (suc k) in
    let less : rest / 10 < 10 ^ suc k = omega (arith, power) in
    let next : suc (suc k) - 1 ≡ suc k = omega arith in
    (omega arith, subst (λ (d : ℕ). rest / 10 < 10 ^ d) (sym next) less)

-- the last digit is put before those that are written
pub digits-more : (n rest start : ℕ) (buf : List ℕ) → 10 ≤ rest → rest < 2 ^ 64 → 1 ≤ start → start ≤ length buf → decimal rest ++ drop start buf ≡ decimal n → decimal (rest / 10) ++ drop (start - 1) (set buf (start - 1) (48 + rest % 10)) ≡ decimal n
digits-more n rest start buf more fits some within is =
    let below : start - 1 < length buf = omega arith in
    let next : start - 1 + 1 ≡ start = omega arith in
    ap (λ (tail : List ℕ). decimal (rest / 10) ++ tail) (drop-set buf (start - 1) (48 + rest % 10) below ∙ ap (λ (k : ℕ). (48 + rest % 10) ∷ drop k buf) next)
    ∙ sym (append_assoc (decimal (rest / 10)) ((48 + rest % 10) ∷ []) (drop start buf))
    ∙ ap (λ (front : List ℕ). front ++ drop start buf) (sym (decimal_step rest more fits))
    ∙ is

-- the last of the digits
pub digits_all : (n rest start : ℕ) (buf : List ℕ) → rest < 10 → 1 ≤ start → start ≤ length buf → decimal rest ++ drop start buf ≡ decimal n → drop (start - 1) (set buf (start - 1) (48 + rest)) ≡ decimal n
digits_all n rest start buf last some within is =
    let below : start - 1 < length buf = omega arith in
    let next : start - 1 + 1 ≡ start = omega arith in
    drop-set buf (start - 1) (48 + rest) below
    ∙ ap (λ (k : ℕ). (48 + rest) ∷ drop k buf) next
    ∙ ap (λ (front : List ℕ). front ++ drop start buf) (sym (decimal_digit rest last))
    ∙ is

-- two more digits at the front of a buffer
pub take-two : (buf : List ℕ) (i x y : ℕ) → 2 * i + 1 < length buf → take (2 * (i + 1)) (set (set buf (2 * i) x) (2 * i + 1) y) ≡ take (2 * i) buf ++ x ∷ y ∷ []
take-two buf i x y within =
    let even : 2 * (i + 1) ≡ 2 * i + 1 + 1 = omega arith in
    let room : 2 * i + 1 < length (set buf (2 * i) x) = omega (arith, length-set buf (2 * i) x) in
    let first : 2 * i < length buf = omega arith in
    ap (λ (k : ℕ). take k (set (set buf (2 * i) x) (2 * i + 1) y)) even
    ∙ take_more_set (set buf (2 * i) x) (2 * i + 1) y room
    ∙ ap (λ (front : List ℕ). front ++ y ∷ []) (take_more_set buf (2 * i) x first)
    ∙ append_assoc (take (2 * i) buf) (x ∷ []) (y ∷ [])

pub drop-two : (buf : List ℕ) (i x y : ℕ) → drop (2 * (i + 1)) (set (set buf (2 * i) x) (2 * i + 1) y) ≡ drop (2 * (i + 1)) buf
drop-two buf i x y =
    drop-set-lt (2 * (i + 1)) (set buf (2 * i) x) (2 * i + 1) y (omega arith)
    ∙ drop-set-lt (2 * (i + 1)) buf (2 * i) x (omega arith)

-- the hexadecimal digits of one more byte
pub hex_of-more : (bytes : List ℕ) (i : ℕ) → i < length bytes → hex_of (take (i + 1) bytes) ≡ hex_of (take i bytes) ++ hex_of_byte (get_or bytes i 0)
hex_of-more bytes i below = ap hex_of (take_more bytes i 0 below) ∙ sym (flat_map_more hex_of_byte [] (take i bytes) (get_or bytes i 0))
