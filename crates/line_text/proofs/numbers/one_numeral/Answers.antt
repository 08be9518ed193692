use Rattle.std.proofs.Common.{ℕ, ◌<◌, ◌≡◌, ◌^◌, List, length, get_or, arith, sym, ◌∙◌, ap, inl, inr}
use Rattle.std.specs.Fmt.{decimal}
use Rattle.std.specs.Str.Parse.{digits_value}
use Rattle.std.proofs.lemmas.Bool.{cases_lt}
use Rattle.std.proofs.lemmas.Str.Parse.{IsNumeralModel, numerals_by_value, tells_by_index}
use Rattle.std.proofs.lemmas.Fmt.{digits_decimal, digits_value-decimal, decimal_nonempty, first_decimal, decimal_digit, decimal-digits_value}
use Rattle.line_text.specs.Numbers.{IsDigit}
use Rattle.line_text.proofs.numbers.one_numeral.Goals as goal

model : IsNumeralModel (λ (ds : List ℕ). (i : ℕ) → i < length ds → IsDigit (get_or ds i 0)) (digits_value 10)
model = numerals_by_value _ tells_by_index

-- a number of several digits doesn't begin with `0`
no_leading_zero : (n k : ℕ) → n < 2 ^ 64 → k < length (decimal n) → 0 < k → get_or (decimal n) 0 0 ≡ 48 → ⊥
no_leading_zero n k small below after zero_first =
    elim (cases_lt 0 n) [
      | inl some ↦ (let first = first_decimal n some small in omega arith)
      | inr none ↦ (let one = decimal_digit n (omega arith) in let len : length (decimal n) ≡ 1 = ap length one in omega arith)
    ]

pub returns-clause-reads_back : goal.returns-clause-reads_back
returns-clause-reads_back c = λ n small. record {
  some = decimal_nonempty n small;
  digits = λ k below. (digits_decimal model n small k below, λ after is. no_leading_zero n k small below after is);
  value = digits_value-decimal model n small;
  fits = small;
}

pub returns-clause-one : goal.returns-clause-one
returns-clause-one c = λ word n is.
    let alone : get_or word 0 0 ≡ 48 → length word ≡ 1 = λ first.
    elim (cases_lt 1 (length word)) as (λ _. length word ≡ 1) [
      | inl more ↦ absurd ((is.digits 1 more).1 (omega arith) first)
      | inr few ↦ (let some = is.some in omega arith)
    ] in
    let small : digits_value 10 word < 2 ^ 64 = omega (arith, is.value, is.fits) in
    sym (decimal-digits_value model word (λ i below. (is.digits i below).0) is.some alone small) ∙ ap decimal is.value
