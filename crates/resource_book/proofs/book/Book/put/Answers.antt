use Rattle.std.proofs.Common.{◌≡◌, ◌≤◌, ◌+◌, ◌-◌, ◌∙◌, sym, subst, ap, List, true, arith}
use Rattle.resource_book.specs.Account.{Account}
use Rattle.resource_book.specs.Book.{has_room}
use Rattle.resource_book.specs.Rows.{row_at, units_in, units_held, with_row, AreRising}
use Rattle.resource_book.specs.declared.row.Row.{Row}
use Rattle.resource_book.proofs.Placing.{AreRising-with_row, units_at-le, units_held-with_row}
use Rattle.resource_book.proofs.book.Book.put.Goals as goal

pub overflow_sub-self : goal.overflow_sub-self
overflow_sub-self c =
    let n = c.args.row.component in
    let xs = c.self.inside.rows.items in
    let before : c.units.result ≡ units_in (row_at n xs) = c.units.ensures ∙ ap units_in (c.row_at-before.ensures ∙ ap (row_at n) c.as_slice-rows.ensures.value) in
    omega (arith, before, c.self.invariant.1, units_at-le n xs c.self.invariant.0.rising)

pub overflow_add-self : goal.overflow_add-self
overflow_add-self c =
    let n = c.args.row.component in
    let xs = c.self.inside.rows.items in
    let before : c.units.result ≡ units_in (row_at n xs) = c.units.ensures ∙ ap units_in (c.row_at-before.ensures ∙ ap (row_at n) c.as_slice-rows.ensures.value) in
    let covered : units_held (with_row c.args.row xs) ≤ c.self.inside.units = subst (λ (x : Account). units_held (with_row c.args.row x.rows) ≤ x.units) (sym c.self.view_is) c.requires.covered in
    omega (arith, before, c.units-2.ensures, c.self.invariant.1, units_held-with_row c.args.row xs c.self.invariant.0.rising, covered, c.self.ranges.0.1)

pub place_row-requires-clause-room : goal.place_row-requires-clause-room
place_row-requires-clause-room c kept = subst (λ (x : Account). has_room c.args.row.component x ≡ true) (sym c.self.view_is) (c.requires.room kept)

pub invariant_of-self : goal.invariant_of-self
invariant_of-self c =
    let n = c.args.row.component in
    let xs = c.self.inside.rows.items in
    let before : c.units.result ≡ units_in (row_at n xs) = c.units.ensures ∙ ap units_in (c.row_at-before.ensures ∙ ap (row_at n) c.as_slice-rows.ensures.value) in
    let covered : units_held (with_row c.args.row xs) ≤ c.self.inside.units = subst (λ (x : Account). units_held (with_row c.args.row x.rows) ≤ x.units) (sym c.self.view_is) c.requires.covered in
    let counted : (c.self.inside.held - c.units.result) + c.units-2.result ≡ units_held (with_row c.args.row xs) = omega (arith, before, c.units-2.ensures, c.self.invariant.1, units_at-le n xs c.self.invariant.0.rising, units_held-with_row c.args.row xs c.self.invariant.0.rising) in (
      record {
        rising = subst AreRising (sym c.place_row.ensures) (AreRising-with_row c.args.row xs c.self.invariant.0.rising);
        covered = subst (λ (rows : List Row). units_held rows ≤ c.self.inside.units) (sym c.place_row.ensures) covered;
      },
      subst (λ (rows : List Row). (c.self.inside.held - c.units.result) + c.units-2.result ≡ units_held rows) (sym c.place_row.ensures) counted,
    )

pub returns : goal.returns
returns c =
    ap (λ (rows : List Row). let b : Account = record { units = c.self.inside.units; rows = rows; numbered = c.self.inside.numbered } in b) c.place_row.ensures
    ∙ ap (λ (x : Account). record x { rows = with_row c.args.row x.rows }) c.self.view_is
