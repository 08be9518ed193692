-- What a contract sees of a book, and what each call makes of it.
use Rattle.std.specs.Prelude.{ℕ, ◌+◌, ◌-◌, Bool, nat_eq, nat_lt, [], filter, if◌then◌else◌}
use Rattle.resource_book.specs.declared.row.Row.{Row}
use Rattle.resource_book.specs.declared.book.Ask.{Ask}
use Rattle.resource_book.specs.declared.book.Ask.TheVariants.{Granted, Short}
use Rattle.resource_book.specs.Account.{Account}
use Rattle.resource_book.specs.Rows.{units_held, is_returning, is_holder, is_waiter, has_place, row_at, with_row, holding, waiting}

abbrev pub empty_book : ℕ → Account
empty_book units = record { units = units; rows = []; numbered = 0 }

abbrev pub free_units : Account → ℕ
free_units b = b.units - units_held b.rows

-- the free units, and those on their way back
abbrev pub coming_units : Account → ℕ
coming_units b = free_units b + units_held (filter is_returning b.rows)

abbrev pub has_room : ℕ → Account → Bool
has_room component b = has_place component b.rows

abbrev pub holds_units : ℕ → Account → Bool
holds_units component b = is_holder (row_at component b.rows)

abbrev pub waits : ℕ → Account → Bool
waits component b = is_waiter (row_at component b.rows)

-- the component's row is changed, and every other row is as before
abbrev pub with_changed : (Row → Row) → ℕ → Account → Account
with_changed change component b = record b { rows = with_row (change (row_at component b.rows)) b.rows }

-- ---- asking for units

abbrev pub is_short : ℕ → Account → Bool
is_short need b = nat_lt (free_units b) need

abbrev pub answer_to : ℕ → Account → Ask
answer_to need b = if is_short need b then Short (free_units b) need else Granted

abbrev pub asked : ℕ → ℕ → ℕ → Account → Account
asked component need priority b = if is_short need b then b else with_changed (holding need priority) component b

-- ---- waiting

-- 2^64 - 1 waits were numbered
abbrev pub is_out_of_numbers : Account → Bool
is_out_of_numbers b = nat_eq b.numbered 18446744073709551615

abbrev pub waited : ℕ → ℕ → ℕ → Account → Account
waited component need priority b =
    if is_out_of_numbers b then b
    else record (with_changed (waiting need priority b.numbered) component b) { numbered = b.numbered + 1 }
