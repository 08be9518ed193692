use Rattle.act_text.proofs.Spaces.{grown, on_err}
use Rattle.act_text.proofs.put.put_after_spaces.Goals as goal

pub returns-in_err-put_bytes-clause-err : goal.returns-in_err-put_bytes-clause-err
returns-in_err-put_bytes-clause-err c =
    on_err c.from_residual.result _ (grown _ _ _ _ c.loop-word.invariant c.in_err-put_bytes.ensures.err)

pub returns-in_err-put_word-clause-err : goal.returns-in_err-put_word-clause-err
returns-in_err-put_word-clause-err c =
    on_err c.from_residual-in_err-put_word.result _ (grown _ _ _ _ c.loop-word.invariant (grown _ _ _ _ c.in_ok-put_bytes.ensures.ok c.in_err-put_word.ensures.err))
