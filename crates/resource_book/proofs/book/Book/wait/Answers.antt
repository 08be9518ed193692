use Rattle.std.proofs.Common.{◌≡◌, ◌∙◌, ap, refl, arith}
use Rattle.resource_book.specs.Rows.{row_at, waiting}
use Rattle.resource_book.specs.declared.row.Row.{Row}
use Rattle.resource_book.proofs.Changing.{changed-covered, asked-room}
use Rattle.resource_book.proofs.book.Book.wait.Goals as goal

pub put-requires-clause-room : goal.put-requires-clause-room
put-requires-clause-room c =
    let change = λ (r : Row). waiting c.args.need c.args.priority c.self.inside.numbered r in
    let changed : c.waiting-row.result ≡ change (row_at c.args.component c.args.self.now.rows) = c.waiting-row.ensures ∙ ap change c.row.ensures.value in
    λ _. asked-room change c.args.component c.args.self.now c.waiting-row.result changed (λ _. refl) c.requires.room

pub put-requires-clause-covered : goal.put-requires-clause-covered
put-requires-clause-covered c =
    let change = λ (r : Row). waiting c.args.need c.args.priority c.self.inside.numbered r in
    let changed : c.waiting-row.result ≡ change (row_at c.args.component c.args.self.now.rows) = c.waiting-row.ensures ∙ ap change c.row.ensures.value in
    changed-covered change c.args.component c.args.self.now c.waiting-row.result changed (λ _. refl) c.row.ensures.sound (omega arith)
