use Rattle.std.proofs.Common.{◌≡◌, filter, length, slice_get, unwrap_or, Option, Some, None, ◌∙◌, sym, ap, refl}
use Rattle.std.proofs.lemmas.Option.{slice_get_past, slice_get_read}
use Rattle.resource_book.specs.Rows.{blank_row, component_of, is_below}
use Rattle.resource_book.specs.declared.row.Row.{Row}
use Rattle.resource_book.proofs.Standing.{row_there, row_lacks, IsNotThere}
use Rattle.resource_book.proofs.book.row_at.Goals.{in_default-via-in-Some+else-row-component, in_default-via-in_default}
use Rattle.resource_book.proofs.book.row_at.Goals as goal

pub returns-in-Some : goal.returns-in-Some
returns-in-Some c =
    let n = c.args.component in
    let xs = c.args.rows.now in
    let found = c.in-Some.ensures.lookup in
    let at : slice_get xs (length (filter (is_below n) xs)) ≡ Some c.in-Some.row.now = ap (slice_get xs) (sym c.requires.place) ∙ slice_get_read xs (length xs) c.args.place c.in-Some.row.now refl found.3.0 found.1 in
    sym (row_there n c.in-Some.row.now xs c.requires.rising at c.if-row-component.true)

pub returns-in_default : goal.returns-in_default
returns-in_default c =
    let n = c.args.component in
    let xs = c.args.rows.now in
    let lacks : IsNotThere n xs = λ old there same.
    let at : slice_get xs c.args.place ≡ Some old = ap (slice_get xs) c.requires.place ∙ there in
    elim c.in_default.branch [
      | in_default-via-in-Some+else-row-component w ↦
          let found = w.in-Some.ensures.lookup in
          let both : Some w.in-Some.row.now ≡ Some old = sym (slice_get_read xs (length xs) c.args.place w.in-Some.row.now refl found.3.0 found.1) ∙ at in
          let is : w.in-Some.row.now ≡ old = cc in
          w.if-row-component.false (ap component_of is ∙ same)
      | in_default-via-in_default w ↦
          let found = rw w.in_default.is at c.get.ensures.lookup in
          let both : None ≡ Some old = sym (slice_get_past xs c.args.place found.3) ∙ at in
          absurd cc
    ] in
    c.blank.ensures ∙ sym (ap (λ (o : Option Row). unwrap_or o (blank_row n)) (row_lacks n xs c.requires.rising lacks))
