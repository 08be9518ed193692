use Rattle.std.proofs.Common.{◌≡◌, ◌≤◌, true, sym, ◌∙◌, ap, subst}
use Rattle.resource_book.specs.Account.{Account}
use Rattle.resource_book.specs.Book.{has_room}
use Rattle.resource_book.specs.Rows.{units_held, with_row}
use Rattle.resource_book.specs.declared.row.Row.{Row}
use Rattle.graph_core.proofs.units.enter.Goals as goal

pub put-requires-clause-room : goal.put-requires-clause-room
put-requires-clause-room g c kept = subst (λ (r : Row). has_room r.component c.args.book.now ≡ true) (sym c.row_for.ensures) c.requires.room

pub put-requires-clause-covered : goal.put-requires-clause-covered
put-requires-clause-covered g c = subst (λ (r : Row). units_held (with_row r c.args.book.now.rows) ≤ c.args.book.now.units) (sym c.row_for.ensures) c.requires.covered

pub returns : goal.returns
returns g c =
    let b : Account = c.args.book.now in
    c.put.ensures ∙ ap (λ (r : Row). record b { rows = with_row r b.rows }) c.row_for.ensures
