use Rattle.std.proofs.lemmas.Result.{err_from_is_err_and}
use Rattle.play_course.proofs.Running.{not_begun}
use Rattle.play_course.proofs.course.run.Goals as goal

pub returns-in_err-summary : goal.returns-in_err-summary
returns-in_err-summary g c =
    let p = err_from_is_err_and c.from_residual.result c.from_residual.ensures.1 in
    rw (p.1, p.2) (not_begun c.args.plan _ c.requires.ready)
