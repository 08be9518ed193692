-- The best of some rows, from the last row to the first.
use Rattle.std.proofs.Common.{◌≡◌, ℕ, suc, ◌-◌, ◌<◌, ◌≤◌, Bool, true, false, List, ◌∷◌, drop, length, get_or, filter, if◌then◌else◌, Option, Some, refl, sym, ◌∙◌, ap, arith}
use Rattle.std.proofs.Math.Seq.{drop-cons}
use Rattle.resource_book.specs.Rows.{better, first_of}
use Rattle.resource_book.specs.declared.row.Row.{Row}

best_cons : (test : Row → Bool) (before : Row → Row → Bool) (r : Row) (rows : List Row)
    → (if test r then Some (better before r (first_of before (filter test rows))) else first_of before (filter test rows)) ≡ first_of before (filter test (r ∷ rows))
best_cons test before r rows =
    elim (test r) as (λ b. (if b then Some (better before r (first_of before (filter test rows))) else first_of before (filter test rows)) ≡ first_of before (if b then r ∷ filter test rows else filter test rows)) [
      | true ↦ refl
      | false ↦ refl
    ]

-- one row more is looked at
pub best_next : (test : Row → Bool) (before : Row → Row → Bool) (rows : List Row) (n : ℕ) (d : Row) (best : Option Row)
    → 0 < n → n ≤ length rows → best ≡ first_of before (filter test (drop n rows))
    → (if test (get_or rows (n - 1) d) then Some (better before (get_or rows (n - 1) d) best) else best) ≡ first_of before (filter test (drop (n - 1) rows))
best_next test before rows n d best some within so_far =
    let s : suc (n - 1) ≡ n = omega arith in
    let b : n - 1 < length rows = omega arith in
    let r : Row = get_or rows (n - 1) d in
    let later : best ≡ first_of before (filter test (drop (suc (n - 1)) rows)) = so_far ∙ ap (λ (k : ℕ). first_of before (filter test (drop k rows))) (sym s) in
    ap (λ (o : Option Row). if test r then Some (better before r o) else o) later
    ∙ (best_cons test before r (drop (suc (n - 1)) rows) ∙ ap (λ (xs : List Row). first_of before (filter test xs)) (sym (drop-cons rows (n - 1) d b)))
