use Rattle.std.proofs.Common.{◌∙◌, arith}
use Rattle.resource_book.specs.Rows.{is_weaker, gives_first}
use Rattle.resource_book.proofs.Best.{best_next}
use Rattle.resource_book.proofs.book.weakest.Goals as goal

pub loop-place-preserved : goal.loop-place-preserved
loop-place-preserved c =
    c.weaker-weak.ensures
    ∙ best_next (is_weaker c.args.waiter) gives_first c.args.rows.now c.loop-place.place _ c.loop-place.weak (omega (arith, c.loop-place-test.true)) (omega (arith, c.loop-place.auto.place, c.loop-place-test.true)) c.loop-place.invariant
