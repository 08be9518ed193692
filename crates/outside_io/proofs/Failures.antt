-- Laws of lists of failures.
use Rattle.std.proofs.Common.{◌≡◌, ◌≤◌, ◌-◌, ◌^◌, ℕ, List, [], ◌∷◌, ap, ◌∙◌, refl, arith, if◌then◌else◌, true, false, Bool, ◌<◌, ◌+◌, ◌++◌, take, drop, length, get_or, set, sym, min, ◌&&◌, ◌||◌}
use Rattle.std.proofs.lemmas.List.{drop_all}
use Rattle.std.proofs.lemmas.List.Edits.{map_over_more}
use Rattle.outside_io.specs.Causes.{sum_of_counts}
use Rattle.outside_io.specs.Fails.{is_of, end_of, fails_of, next_fails, refuses, planned, seen_more, seen_more_of}
use Rattle.outside_io.specs.declared.fails.Fail.{Fail}
use Rattle.outside_io.specs.declared.fails.FailKind.{FailKind}
use Rattle.outside_io.specs.declared.fails.FailKind.TheVariants.{AbsentSink}
use Rattle.outside_io.specs.declared.plans.Planned.{Planned}

-- a told end is a number of the program
pub end_of-bound : (fails : List Fail) (name : List ℕ) → end_of fails name ≤ 2 ^ 64 - 1
end_of-bound [] name = omega arith
end_of-bound (fail ∷ fails) name =
    let rest = end_of-bound fails name in
    grind (arith, rest)

same_fail : (kind : FailKind) (name : List ℕ) (more : ℕ) (plan : Planned) → (seen_more_of kind name more plan).fail ≡ plan.fail
same_fail kind name more plan =
    elim (is_of kind name plan.fail) as (λ b. (if b then record plan { seen = sum_of_counts plan.seen more } else plan).fail ≡ plan.fail) [ true ↦ refl | false ↦ refl ]

-- more calls leave the failures as they are
pub fails_of-seen_more : (kind : FailKind) (name : List ℕ) (more : ℕ) (plans : List Planned) → fails_of (seen_more kind name more plans) ≡ fails_of plans
fails_of-seen_more kind name more [] = refl
fails_of-seen_more kind name more (plan ∷ plans) =
    ap (λ t. t ∷ fails_of (seen_more kind name more plans)) (same_fail kind name more plan) ∙ ap (λ t. plan.fail ∷ t) (fails_of-seen_more kind name more plans)

pub fails_of-planned : (fails : List Fail) → fails_of (planned fails) ≡ fails
fails_of-planned [] = refl
fails_of-planned (fail ∷ fails) = ap (λ t. fail ∷ t) (fails_of-planned fails)

-- a step of the loop that counts
counted : (kind : FailKind) (name : List ℕ) (more : ℕ) (xs ys new : List Planned) (i : ℕ) (item written : Planned) → i < length xs → ys ≡ seen_more kind name more (take i xs) ++ drop i xs → item ≡ get_or ys i item → written ≡ seen_more_of kind name more (get_or ys i item) → new ≡ set ys i written → new ≡ seen_more kind name more (take (i + 1) xs) ++ drop (i + 1) xs
counted kind name more xs ys new i item written below so_far is value made =
    made ∙ ap (set ys i) (value ∙ ap (seen_more_of kind name more) (sym is)) ∙ map_over_more (seen_more_of kind name more) xs ys i item below so_far is

pub counted-one : (kind : FailKind) (name : List ℕ) (more : ℕ) (xs ys new : List Planned) (i seen : ℕ) (item : Planned) → i < length xs → ys ≡ seen_more kind name more (take i xs) ++ drop i xs → item ≡ get_or ys i item → is_of kind name (get_or ys i item).fail ≡ true → seen ≡ sum_of_counts (get_or ys i item).seen more → new ≡ set ys i (record (get_or ys i item) { seen = seen }) → new ≡ seen_more kind name more (take (i + 1) xs) ++ drop (i + 1) xs
counted-one kind name more xs ys new i seen item below so_far is of_it value made =
    let e = get_or ys i item in
    counted kind name more xs ys new i item (record e { seen = seen }) below so_far is
    (ap (λ (n : ℕ). record e { seen = n }) value ∙ ap (λ (b : Bool). if b then record e { seen = sum_of_counts e.seen more } else e) (sym of_it)) made

pub counted-none : (kind : FailKind) (name : List ℕ) (more : ℕ) (xs ys new : List Planned) (i : ℕ) (item : Planned) → i < length xs → ys ≡ seen_more kind name more (take i xs) ++ drop i xs → item ≡ get_or ys i item → is_of kind name (get_or ys i item).fail ≡ false → new ≡ set ys i (get_or ys i item) → new ≡ seen_more kind name more (take (i + 1) xs) ++ drop (i + 1) xs
counted-none kind name more xs ys new i item below so_far is not_it made =
    let e = get_or ys i item in
    counted kind name more xs ys new i item e below so_far is
    (ap (λ (b : Bool). if b then record e { seen = sum_of_counts e.seen more } else e) (sym not_it)) made

-- the loop that looks for the least end has gone over all
pub end-reached : (plans : List Planned) (name : List ℕ) (i end wanted : ℕ) → length plans ≤ i → end ≤ 2 ^ 64 - 1 → min end (end_of (fails_of (drop i plans)) name) ≡ wanted → end ≡ wanted
end-reached plans name i end wanted over fits so_far =
    let all : min end (2 ^ 64 - 1) ≡ wanted = ap (λ (t : List Planned). min end (end_of (fails_of t) name)) (sym (drop_all i plans over)) ∙ so_far in
    omega (arith, all, fits)

or_goes_on : (a b c d : Bool) → (c ≡ true → d ≡ true) → ((a && b) || c) ≡ true → (a || d) ≡ true
or_goes_on true b c d rest h = refl
or_goes_on false b c d rest h = rest h

-- a sink that is refused is one that may be
pub refuses-next : (name : List ℕ) (plans : List Planned) → next_fails AbsentSink name plans ≡ true → refuses (fails_of plans) name ≡ true
refuses-next name [] h = h
refuses-next name (plan ∷ plans) h =
    or_goes_on (is_of AbsentSink name plan.fail) _ (next_fails AbsentSink name plans) (refuses (fails_of plans) name) (refuses-next name plans) h
