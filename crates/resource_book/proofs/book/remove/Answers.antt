use Rattle.std.proofs.Common.{◌≡◌, ◌≤◌, ◌<◌, ℕ, filter, length, slice_get, slice_index_or, List, Some, None, ◌∙◌, sym, ap, subst}
use Rattle.std.specs.Prelude.{remove}
use Rattle.std.proofs.lemmas.Option.{slice_get_past, slice_get-get_or}
use Rattle.resource_book.specs.Rows.{blank_row, component_of, is_below}
use Rattle.resource_book.specs.declared.row.Row.{Row}
use Rattle.resource_book.proofs.Standing.{row_taken, row_lacks, others_stay, IsNotThere}
use Rattle.resource_book.proofs.book.remove.Goals.{else-place-len-via-then-place-len+else-deref-place, else-place-len-via-else-place-len}
use Rattle.resource_book.proofs.book.remove.Goals as goal

pub returns-then-deref-place : goal.returns-then-deref-place
returns-then-deref-place c =
    let n = c.args.component in
    let xs = c.args.rows.now.items in
    let row : Row = slice_index_or xs c.args.place (blank_row 0) in
    let within : c.args.place < length xs = subst (λ (k : ℕ). c.args.place < k) c.len.ensures.value c.if-place-len.true in
    let at : slice_get xs (length (filter (is_below n) xs)) ≡ Some row = ap (slice_get xs) (sym c.requires.place) ∙ slice_get-get_or xs c.args.place (blank_row 0) within in
    let same : row.component ≡ n = ap (λ (ys : List Row). component_of (slice_index_or ys c.args.place (blank_row 0))) (sym c.deref.ensures.0) ∙ c.if-deref-place.true in
    c.remove.ensures.items ∙ (ap (remove xs) c.requires.place ∙ row_taken n row xs c.requires.rising at same)

pub returns-else-place-len : goal.returns-else-place-len
returns-else-place-len c =
    let n = c.args.component in
    let xs = c.args.rows.now.items in
    let lacks : IsNotThere n xs = λ old there same.
    let at : slice_get xs c.args.place ≡ Some old = ap (slice_get xs) c.requires.place ∙ there in
    elim c.else-place-len.branch [
      | else-place-len-via-then-place-len+else-deref-place w ↦
          let within : c.args.place < length xs = subst (λ (k : ℕ). c.args.place < k) c.len.ensures.value w.if-place-len.true in
          let row : Row = slice_index_or xs c.args.place (blank_row 0) in
          let both : Some row ≡ Some old = sym (slice_get-get_or xs c.args.place (blank_row 0) within) ∙ at in
          let is : row ≡ old = cc in
          w.if-deref-place.false (ap (λ (ys : List Row). component_of (slice_index_or ys c.args.place (blank_row 0))) w.deref.ensures.0 ∙ (ap component_of is ∙ same))
      | else-place-len-via-else-place-len w ↦
          let beyond : length xs ≤ c.args.place = subst (λ (k : ℕ). k ≤ c.args.place) c.len.ensures.value w.if-place-len.false in
          let both : None ≡ Some old = sym (slice_get_past xs c.args.place beyond) ∙ at in
          absurd cc
    ] in
    sym (others_stay n xs (row_lacks n xs c.requires.rising lacks))
