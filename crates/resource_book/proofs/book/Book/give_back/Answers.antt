use Rattle.std.proofs.Common.{◌≡◌, ◌∙◌, ap, refl, arith}
use Rattle.resource_book.specs.Rows.{row_at, given_back}
use Rattle.resource_book.specs.declared.row.Row.{Row}
use Rattle.resource_book.proofs.Changing.{changed-room, changed-covered, given_back-kept}
use Rattle.resource_book.proofs.book.Book.give_back.Goals as goal

pub put-requires-clause-room : goal.put-requires-clause-room
put-requires-clause-room c =
    let change = λ (r : Row). given_back r in
    let changed : c.given_back-row.result ≡ change (row_at c.args.component c.args.self.now.rows) = c.given_back-row.ensures ∙ ap change c.row.ensures.value in
    changed-room change c.args.component c.args.self.now c.given_back-row.result changed (λ _. refl) given_back-kept

pub put-requires-clause-covered : goal.put-requires-clause-covered
put-requires-clause-covered c =
    let change = λ (r : Row). given_back r in
    let changed : c.given_back-row.result ≡ change (row_at c.args.component c.args.self.now.rows) = c.given_back-row.ensures ∙ ap change c.row.ensures.value in
    changed-covered change c.args.component c.args.self.now c.given_back-row.result changed (λ _. refl) c.row.ensures.sound (omega arith)
