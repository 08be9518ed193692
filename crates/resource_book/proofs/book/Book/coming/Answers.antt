use Rattle.std.proofs.Common.{◌≡◌, ◌∙◌, ap, List, filter, arith}
use Rattle.resource_book.specs.Account.{Account}
use Rattle.resource_book.specs.Rows.{units_held, is_returning}
use Rattle.resource_book.specs.declared.row.Row.{Row}
use Rattle.resource_book.proofs.Changing.{units_returning-le}
use Rattle.resource_book.proofs.book.Book.coming.Goals as goal

pub units_returning-requires : goal.units_returning-requires
units_returning-requires c =
    let same : c.as_slice.result.now ≡ c.args.self.now.rows = c.as_slice.ensures.value ∙ ap (λ (x : Account). x.rows) c.self.view_is in
    omega (arith, ap units_held same, c.free.ensures.covered, c.free.ensures.small)

pub overflow_add-result : goal.overflow_add-result
overflow_add-result c =
    let same : c.as_slice.result.now ≡ c.args.self.now.rows = c.as_slice.ensures.value ∙ ap (λ (x : Account). x.rows) c.self.view_is in
    omega (arith, ap (λ (rows : List Row). units_held (filter is_returning rows)) same, units_returning-le c.args.self.now.rows, c.free.ensures.count, c.free.ensures.covered, c.free.ensures.small, c.units_returning.ensures)
