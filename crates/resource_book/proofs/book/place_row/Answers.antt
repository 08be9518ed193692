use Rattle.std.proofs.Common.{◌≡◌, ◌≤◌, ◌<◌, ℕ, ◌∙◌, sym, ap, List, filter, length, arith, true, false}
use Rattle.std.specs.Prelude.{insert}
use Rattle.std.specs.List.{refill}
use Rattle.resource_book.specs.Rows.{is_kept}
use Rattle.resource_book.specs.declared.row.Row.{Row}
use Rattle.resource_book.proofs.Placing.{is_other, others_fit, place-le, refilled, with_row-inserted, with_row-removed, with_row-replaced}
use Rattle.resource_book.proofs.Standing.{others_stay, row_lacks}
use Rattle.resource_book.proofs.book.place_row.Goals as goal

pub returns-then-not-is_kept : goal.returns-then-not-is_kept
returns-then-not-is_kept c =
    let kept : is_kept c.args.row ≡ false = sym c.is_kept.ensures ∙ c.if-not-is_kept.true in
    c.remove.ensures ∙ with_row-removed c.args.row c.args.rows.now.items c.requires.rising kept

pub returns-then-replace_row : goal.returns-then-replace_row
returns-then-replace_row c =
    let r = c.args.row in
    let xs = c.args.rows.now.items in
    let kept : is_kept r ≡ true = sym c.is_kept.ensures ∙ c.if-not-is_kept.false in
    let done = rw (c.if-replace_row.true, c.as_mut_slice.ensures.value, c.requires.place) at c.replace_row.ensures in
    let same : length c.replace_row.new.rows ≡ length xs = c.replace_row.auto.rows ∙ ap length c.as_mut_slice.ensures.value in
    refilled xs c.replace_row.new.rows same ∙ (done.3 ∙ with_row-replaced r done.0 xs c.requires.rising kept done.1 done.2)

pub insert-requires : goal.insert-requires
insert-requires c =
    let n = c.args.row.component in
    let xs = c.args.rows.now.items in
    let lacks = rw (c.if-replace_row.false, c.as_mut_slice.ensures.value, c.requires.place) at c.replace_row.ensures in
    let back : refill (length xs) xs c.replace_row.new.rows ≡ xs = refilled xs c.replace_row.new.rows (ap length lacks.0) ∙ lacks.0 in
    let others : filter (is_other n) xs ≡ xs = others_stay n xs (row_lacks n xs c.requires.rising lacks.1) in
    let few : length xs ≤ 32 = omega (arith, ap length c.as_mut_slice.ensures.value, c.as_mut_slice.ensures.fits) in
    let kept : is_kept c.args.row ≡ true = sym c.is_kept.ensures ∙ c.if-not-is_kept.false in
    let room : length (filter (is_other n) xs) < 32 = others_fit n xs (c.requires.room kept) few in
    (omega arith, (omega (arith, ap length back, ap length others, c.requires.place, place-le n xs c.requires.rising), omega (arith, ap length back, ap length others, room)))

pub returns : goal.returns
returns c =
    let r = c.args.row in
    let n = r.component in
    let xs = c.args.rows.now.items in
    let lacks = rw (c.if-replace_row.false, c.as_mut_slice.ensures.value, c.requires.place) at c.replace_row.ensures in
    let back : refill (length xs) xs c.replace_row.new.rows ≡ xs = refilled xs c.replace_row.new.rows (ap length lacks.0) ∙ lacks.0 in
    let others : filter (is_other n) xs ≡ xs = others_stay n xs (row_lacks n xs c.requires.rising lacks.1) in
    let kept : is_kept r ≡ true = sym c.is_kept.ensures ∙ c.if-not-is_kept.false in
    c.insert.ensures.items
    ∙ (ap (λ (ys : List Row). insert ys c.args.place r) (back ∙ sym others)
    ∙ (ap (λ (k : ℕ). insert (filter (is_other n) xs) k r) c.requires.place ∙ with_row-inserted r xs c.requires.rising kept))
