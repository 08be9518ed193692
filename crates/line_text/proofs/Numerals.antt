-- Numbers that are read from words, and read back.
use Rattle.std.proofs.Common.{◌≡◌, ℕ, ◌≤◌, ◌<◌, ◌^◌, Bool, true, false, List, [], length, get_or, refl, sym, ap, ◌∙◌, subst, arith, Option, Some, None, Result, Ok, Err, nat_lt, if◌then◌else◌, inl, inr, ◌⊎◌}
use Rattle.std.specs.Fmt.{decimal}
use Rattle.std.specs.Option.{SomeIff}
use Rattle.std.specs.Result.{OkIff, result_ok}
use Rattle.std.specs.Str.{bytes_eq}
use Rattle.std.specs.Str.Parse.{digits_value}
use Rattle.std.proofs.lemmas.Bool.{ltb-true, lt-ltb}
use Rattle.std.proofs.lemmas.Fmt.{decimal_is_IsNumeral, decimal_nonempty, digits_decimal}
use Rattle.std.proofs.lemmas.Str.Parse.{IsNumeralModel, numerals_by_value, tells_by_index}
use Rattle.std.proofs.lemmas.Slice.Eq.{bytes_eq-Decides}
use Rattle.line_text.specs.Numbers.{IsDigit, IsNumber, IsFaultAt}
use Rattle.line_text.specs.ReadNumbers.{number_below, writes_as}

writes_as-same : (value limit : ℕ) (word : List ℕ) → value < limit → word ≡ decimal value → writes_as value limit word ≡ Some value
writes_as-same value limit word below is =
    let test = lt-ltb value limit below in
    let same : bytes_eq word (decimal value) ≡ true = (bytes_eq-Decides word (decimal value)).1 is in
    rw (test, same) refl

-- a word that is a number gives it
pub number_below-some : (limit : ℕ) (word : List ℕ) (n : ℕ) → digits_value 10 word ≡ n → word ≡ decimal n → n < limit → number_below limit word ≡ Some n
unfolding number_below
number_below-some limit word n value is below =
    subst (λ (v : ℕ). writes_as v limit word ≡ Some n) (sym value) (writes_as-same n limit word below is)

-- a number is read back
pub number_below-decimal : (limit n : ℕ) → n < 2 ^ 64 → n < limit → number_below limit (decimal n) ≡ Some n
number_below-decimal limit n fits below = number_below-some limit (decimal n) n (decimal_is_IsNumeral n fits).1 refl below

writes_as-none : (value limit : ℕ) (word : List ℕ) → (value < limit → word ≡ decimal value → ⊥) → writes_as value limit word ≡ None
writes_as-none value limit word other =
    elim (nat_lt value limit) as (λ (below : Bool). nat_lt value limit ≡ below → (if below then (if bytes_eq word (decimal value) then Some value else None) else None) ≡ None) [
      | false ↦ λ _. refl
      | true ↦ λ below. elim (bytes_eq word (decimal value)) as (λ (same : Bool). bytes_eq word (decimal value) ≡ same → (if same then Some value else None) ≡ None) [
        | false ↦ λ _. refl
        | true ↦ λ same. absurd (other (ltb-true value limit below) ((bytes_eq-Decides word (decimal value)).0 same))
      ] refl
    ] refl

fault-number : (word : List ℕ) (place n : ℕ) → IsNumber word n → IsFaultAt word place → ⊥
fault-number word place n is (inl misplaced) = misplaced.misplaced (is.digits place misplaced.within)
fault-number word place n is (inr (_, empty)) = no_cause empty.cause
  where
    no_cause : (length word ≡ 0) ⊎ (2 ^ 64 ≤ digits_value 10 word) → ⊥
    no_cause (inl none) = omega (arith, is.some)
    no_cause (inr large) = omega (arith, is.value, is.fits)

-- a word that is no number gives none
pub number_below-fault : ((n : ℕ) → n < 2 ^ 64 → IsNumber (decimal n) n) → (limit : ℕ) (word : List ℕ) (place : ℕ) → limit ≤ 2 ^ 64 → IsFaultAt word place → number_below limit word ≡ None
unfolding number_below
number_below-fault back limit word place low fault =
    writes_as-none (digits_value 10 word) limit word (λ below is.
    let fits : digits_value 10 word < 2 ^ 64 = omega arith in
    fault-number word place (digits_value 10 word) (subst (λ (w : List ℕ). IsNumber w (digits_value 10 word)) (sym is) (back (digits_value 10 word) fits)) fault)

-- the number of a word, where it is below the limit
pub number_below-read : (limit : ℕ) (word : List ℕ) (n : ℕ) (r : Option ℕ) → digits_value 10 word ≡ n → word ≡ decimal n → SomeIff r (n < limit) n → r ≡ number_below limit word
unfolding number_below
number_below-read limit word n (Some m) value is (below, same) = ap Some same ∙ sym (number_below-some limit word n value is below)
number_below-read limit word n None value is large =
    sym (writes_as-none (digits_value 10 word) limit word (λ below _. large (subst (λ (v : ℕ). v < limit) value below)))

pub number_below-empty : (limit : ℕ) → number_below limit [] ≡ None
unfolding number_below
number_below-empty limit = writes_as-none 0 limit [] (λ _ is.
    let some : 0 < length (decimal 0) = decimal_nonempty 0 (omega arith) in
    let none : length (decimal 0) ≡ length {A = ℕ} [] = ap length (sym is) in
    omega arith)

pub below-iff : (limit n : ℕ) {E : Type 0} (read : Result ℕ E) (r : Option ℕ) → OkIff read (n < limit) n → r ≡ result_ok read → SomeIff r (n < limit) n
below-iff limit n (Ok m) r is same = rw same is
below-iff limit n (Err e) r is same = rw same is

model : IsNumeralModel (λ (ds : List ℕ). (i : ℕ) → i < length ds → IsDigit (get_or ds i 0)) (digits_value 10)
model = numerals_by_value _ tells_by_index

pub decimal-digits : (n : ℕ) → n < 2 ^ 64 → (k : ℕ) → k < length (decimal n) → IsDigit (get_or (decimal n) k 0)
decimal-digits n fits = digits_decimal model n fits
