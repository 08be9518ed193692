-- The calls of one kind on an object.
use Rattle.std.specs.Prelude.{ℕ, ◌==◌, Bool}
use Rattle.std.specs.List.{list_any}
use Rattle.outside_io.specs.Causes.{sum_of_counts}
use Rattle.outside_io.specs.declared.calls.Calls.{Calls}

-- one call more
abbrev pub called : Calls → Calls
called calls = record calls { made = sum_of_counts calls.made 1 }

-- whether the next call fails
abbrev pub call_fails : Calls → Bool
call_fails calls = list_any (λ (n : ℕ). n == sum_of_counts calls.made 1) calls.due.items
