-- Bytes and their hexadecimal digits.
use Rattle.std.proofs.Common.{◌≡◌, ℕ, ◌+◌, ◌*◌, ◌/◌, ◌%◌, ◌<◌, ◌≤◌, Bool, true, false, if◌then◌else◌, List, [], ◌∷◌, ◌++◌, length, get_or, drop, refl, sym, ap, ◌∙◌, subst, arith, Option, Some, None, option_map, IfSome, IfOk, Result, Ok, Err, codes}
use Rattle.std.specs.Str.{bytes_eq}
use Rattle.std.proofs.lemmas.Slice.Eq.{bytes_eq-Decides}
use Rattle.std.proofs.lemmas.Grind.{common_steps}
use Rattle.std.proofs.lemmas.List.{append_assoc}
use Rattle.line_text.specs.Numbers.{hex_digit, hex_of}
use Rattle.script_lang.specs.Hex.{AreBytes, bytes_word, is_hex, hex_value, byte_with, with_rest, pairs_of, bytes_of}

-- two digits more
pub bytes-more : (digits rest behind xs ys : List ℕ) (byte : ℕ) → pairs_of digits ≡ option_map (λ bytes. xs ++ bytes) (pairs_of rest) → 2 ≤ length rest → Some byte ≡ byte_with (get_or rest 0 0) (get_or rest 1 0) → behind ≡ drop 2 rest → ys ≡ xs ++ (byte ∷ []) → pairs_of digits ≡ option_map (λ bytes. ys ++ bytes) (pairs_of behind)
bytes-more digits [] behind xs ys byte so long is behind_is ys_is = absurd (omega arith)
bytes-more digits (high ∷ []) behind xs ys byte so long is behind_is ys_is = absurd (omega arith)
bytes-more digits (high ∷ low ∷ rest) behind xs ys byte so long is behind_is ys_is =
    so
    ∙ ap (λ (b : Option ℕ). option_map (λ bytes. xs ++ bytes) (with_rest b (pairs_of rest))) (sym is)
    ∙ shift (pairs_of rest)
    ∙ ap (λ (zs : List ℕ). option_map (λ bytes. zs ++ bytes) (pairs_of rest)) (sym ys_is)
    ∙ ap (λ (zs : List ℕ). option_map (λ bytes. ys ++ bytes) (pairs_of zs)) (sym behind_is)
  where
    shift : (o : Option (List ℕ)) → option_map (λ bytes. xs ++ bytes) (with_rest (Some byte) o) ≡ option_map (λ bytes. (xs ++ (byte ∷ [])) ++ bytes) o
    shift None = refl
    shift (Some bytes) = ap Some (sym (append_assoc xs (byte ∷ []) bytes))

value-again : (digit : ℕ) → is_hex digit ≡ true → (digit ≡ hex_digit (hex_value digit)) × (hex_value digit < 16)
value-again digit is = (Prim.grind (arith, common_steps), Prim.grind (arith, common_steps))

pub digit-again : (value : ℕ) → value < 16 → (is_hex (hex_digit value) ≡ true) × (hex_value (hex_digit value) ≡ value)
digit-again value small = (Prim.grind (arith, common_steps), Prim.grind (arith, common_steps))

byte-parts : (high low : ℕ) → low < 16 → ((high * 16 + low) / 16 ≡ high) × ((high * 16 + low) % 16 ≡ low)
byte-parts high low small = (omega arith, omega arith)

byte-some : (high low byte : ℕ) → byte_with high low ≡ Some byte → (high ≡ hex_digit (byte / 16)) × (low ≡ hex_digit (byte % 16)) × (byte < 256)
byte-some high low byte is =
    let tests : (is_hex high ≡ true) × (is_hex low ≡ true) = (Prim.grind (arith, common_steps), Prim.grind (arith, common_steps)) in
    let one = value-again high tests.0 in
    let two = value-again low tests.1 in
    let parts = byte-parts (hex_value high) (hex_value low) two.1 in
    let value : hex_value high * 16 + hex_value low ≡ byte = (let e : Some (hex_value high * 16 + hex_value low) ≡ Some byte = rw (tests.0, tests.1) at is in cc) in
    (one.0 ∙ ap hex_digit (sym parts.0 ∙ ap (λ (b : ℕ). b / 16) value), two.0 ∙ ap hex_digit (sym parts.1 ∙ ap (λ (b : ℕ). b % 16) value), omega arith)

abbrev IsNothing : Option (List ℕ) → Type 0
IsNothing None = Unit {0}
IsNothing (Some _) = ⊥

none-some : (bytes : List ℕ) → None ≡ Some bytes → ⊥
none-some bytes e = subst IsNothing e tt

rest-some : (one : Option ℕ) (rest : Option (List ℕ)) (bytes : List ℕ) → with_rest one rest ≡ Some bytes → (first : ℕ) × (others : List ℕ) × (one ≡ Some first) × (rest ≡ Some others) × (first ∷ others ≡ bytes)
rest-some None rest bytes is = absurd (none-some bytes is)
rest-some (Some first) None bytes is = absurd (none-some bytes is)
rest-some (Some first) (Some others) bytes is = (first, others, refl, refl, let e : first ∷ others ≡ bytes = cc in e)

-- pairs of digits are those of their bytes
pub pairs-hex : (digits bytes : List ℕ) → pairs_of digits ≡ Some bytes → (digits ≡ hex_of bytes) × AreBytes bytes
pairs-hex [] bytes is = (let e : [] ≡ bytes = cc in subst (λ (bs : List ℕ). ([] ≡ hex_of bs) × AreBytes bs) e (refl, tt))
pairs-hex (high ∷ []) bytes is = absurd (none-some bytes is)
pairs-hex (high ∷ low ∷ digits) bytes is =
    let parts = rest-some (byte_with high low) (pairs_of digits) bytes is in
    let byte = byte-some high low parts.0 parts.2 in
    let rest = pairs-hex digits parts.1 parts.3 in
    subst (λ (bs : List ℕ). (high ∷ low ∷ digits ≡ hex_of bs) × AreBytes bs) parts.4 (
      ap (λ (d : ℕ). d ∷ low ∷ digits) byte.0 ∙ ap (λ (d : ℕ). hex_digit (parts.0 / 16) ∷ d ∷ digits) byte.1 ∙ ap (λ (ds : List ℕ). hex_digit (parts.0 / 16) ∷ hex_digit (parts.0 % 16) ∷ ds) rest.0,
      (byte.2, rest.1),
    )

-- a word of bytes is that of its bytes
pub bytes-word : (word bytes : List ℕ) → bytes_of word ≡ Some bytes → (word ≡ bytes_word bytes) × AreBytes bytes
bytes-word [] bytes is = absurd (none-some bytes is)
bytes-word (digit ∷ digits) bytes is =
    elim (bytes_eq (digit ∷ digits) (codes "-")) as (λ (test : Bool). bytes_eq (digit ∷ digits) (codes "-") ≡ test → (if test then Some [] else pairs_of (digit ∷ digits)) ≡ Some bytes → (digit ∷ digits ≡ bytes_word bytes) × AreBytes bytes) [
      | true ↦ λ same none. (
          let e : [] ≡ bytes = cc in
          subst (λ (bs : List ℕ). (digit ∷ digits ≡ bytes_word bs) × AreBytes bs) e ((bytes_eq-Decides (digit ∷ digits) (codes "-")).0 same, tt))
      | false ↦ λ other some. some-bytes bytes (pairs-hex (digit ∷ digits) bytes some)
    ] refl is
  where
    some-bytes : (bs : List ℕ) → (digit ∷ digits ≡ hex_of bs) × AreBytes bs → (digit ∷ digits ≡ bytes_word bs) × AreBytes bs
    some-bytes [] (none, _) = absurd (let e : length (digit ∷ digits) ≡ length {A = ℕ} [] = ap length none in omega arith)
    some-bytes (b ∷ bs) parts = parts

pub found-word : {E : Type 0} (word : List ℕ) (r : Result (Option (List ℕ)) E) → IfOk r (λ found. found ≡ bytes_of word) → IfOk r (λ found. IfSome found (λ bytes. word ≡ bytes_word bytes)) × IfOk r (λ found. IfSome found AreBytes)
found-word word (Err e) is = (tt, tt)
found-word word (Ok None) is = (tt, tt)
found-word word (Ok (Some bytes)) is = bytes-word word bytes (sym is)
