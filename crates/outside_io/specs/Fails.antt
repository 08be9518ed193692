-- What a list of failures says of the calls of a kind on a name.
use Rattle.std.specs.Prelude.{ℕ, ◌-◌, ◌^◌, ◌==◌, min, nat_lt, List, [], ◌∷◌, map, Bool, true, false, ◌&&◌, if◌then◌else◌, Option, Some, bytes_eq}
use Rattle.std.specs.List.{list_any}
use Rattle.outside_io.specs.Causes.{sum_of_counts}
use Rattle.outside_io.specs.declared.fails.Fail.{Fail}
use Rattle.outside_io.specs.declared.fails.FailKind.{FailKind}
use Rattle.outside_io.specs.declared.fails.FailKind.TheVariants.{OpenSource, Read, Seek, EndAt, OpenSink, AbsentSink, Write, Close}
use Rattle.outside_io.specs.declared.plans.Planned.{Planned}

abbrev pub same_kind : FailKind → FailKind → Bool
same_kind OpenSource OpenSource = true
same_kind Read Read = true
same_kind Seek Seek = true
same_kind EndAt EndAt = true
same_kind OpenSink OpenSink = true
same_kind AbsentSink AbsentSink = true
same_kind Write Write = true
same_kind Close Close = true
same_kind _ _ = false

-- whether a failure is of that kind and that name
abbrev pub is_of : FailKind → List ℕ → Fail → Bool
is_of kind name fail = same_kind fail.kind kind && bytes_eq fail.name name

-- the offset from which on a source of that name gives nothing
abbrev pub end_of : List Fail → List ℕ → ℕ
end_of [] name = 2 ^ 64 - 1
end_of (fail ∷ fails) name = if is_of EndAt name fail then min fail.nth (end_of fails name) else end_of fails name

-- what these failures tell of the ends of sources
abbrev pub ends_of : List Fail → List ℕ → Option ℕ
ends_of fails name = Some (end_of fails name)

-- whether a sink of that name may be refused
abbrev pub refuses : List Fail → List ℕ → Bool
refuses fails name = list_any (is_of AbsentSink name) fails

-- failures of which no call is known
abbrev pub planned : List Fail → List Planned
planned = map (λ (fail : Fail). record { fail = fail; seen = 0 })

-- the failures of a plan
abbrev pub fails_of : List Planned → List Fail
fails_of = map (λ (plan : Planned). plan.fail)

-- a failure, after so many more calls of that kind on that name
abbrev pub seen_more_of : FailKind → List ℕ → ℕ → Planned → Planned
seen_more_of kind name more plan =
    if is_of kind name plan.fail then record plan { seen = sum_of_counts plan.seen more } else plan

-- a plan, after so many more calls of that kind on that name
abbrev pub seen_more : FailKind → List ℕ → ℕ → List Planned → List Planned
seen_more kind name more = map (seen_more_of kind name more)

-- whether the next call of that kind on that name fails
abbrev pub next_fails : FailKind → List ℕ → List Planned → Bool
next_fails kind name = list_any (λ (plan : Planned). is_of kind name plan.fail && (sum_of_counts plan.seen 1 == plan.fail.nth))

-- in how many calls of that kind on that name from now on the failing ones come
abbrev pub due_of : FailKind → List ℕ → List Planned → List ℕ
due_of kind name [] = []
due_of kind name (plan ∷ plans) =
    if is_of kind name plan.fail && nat_lt plan.seen plan.fail.nth then (plan.fail.nth - plan.seen) ∷ due_of kind name plans else due_of kind name plans
