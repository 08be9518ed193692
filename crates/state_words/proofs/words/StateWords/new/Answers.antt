use Rattle.std.proofs.Common.{arith, ap, ◌∙◌, sym, subst, [], length}
use Rattle.atomic_table.specs.Table.{opening}
use Rattle.state_words.specs.Shown.{Kept, opens, States}
use Rattle.state_words.proofs.Showing.{begins, splits}
use Rattle.state_words.proofs.words.StateWords.new.Goals as goal

pub of_words-requires : goal.of_words-requires
of_words-requires c = subst (λ (z : States). Kept (opening c.as_slice.result.now [] (opens z))) (sym c.in_ok-opening.ensures.items) (begins c.args.states.now _ (c.as_slice.ensures.value ∙ c.in_ok-words.ensures))

pub split_seat-reader-requires : goal.split_seat-reader-requires
split_seat-reader-requires c = let e = c.in_ok-table.ensures in let n = e.0 in let l = ap length (c.as_slice.ensures.value ∙ c.in_ok-words.ensures) in (e.2, omega arith, splits _ _)
