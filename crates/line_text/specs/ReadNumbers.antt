-- The numbers that words are.
use Rattle.std.specs.Prelude.{ℕ, ◌^◌, nat_lt, if◌then◌else◌, List, Option, Some, None}
use Rattle.std.specs.Fmt.{decimal}
use Rattle.std.specs.Str.{bytes_eq}
use Rattle.std.specs.Str.Parse.{digits_value}

-- the value, where it is below the limit and writes as the word
abbrev pub writes_as : ℕ → ℕ → List ℕ → Option ℕ
writes_as value limit word = if nat_lt value limit then (if bytes_eq word (decimal value) then Some value else None) else None

unfoldable pub number_below : ℕ → List ℕ → Option ℕ
number_below limit word = writes_as (digits_value 10 word) limit word

abbrev pub small_number : List ℕ → Option ℕ
small_number word = number_below (2 ^ 32) word
