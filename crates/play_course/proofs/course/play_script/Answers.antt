use Rattle.std.proofs.Common.{sym, subst}
use Rattle.std.proofs.lemmas.Result.{err_from_is_err_and}
use Rattle.omx_types.specs.declared.fault.Fault.{Fault}
use Rattle.play_files.specs.Seen.{file_seen}
use Rattle.play_course.specs.Outcomes.{IsUndone}
use Rattle.play_course.proofs.Logged.{broken_off, can, logged, not_logged}
use Rattle.play_course.proofs.course.play_script.Goals as goal

pub run_and_close-requires-clause-ready : goal.run_and_close-requires-clause-ready
run_and_close-requires-clause-ready g c = λ κs within.
    let R = c.requires.script in
    can (file_seen g.M.Src.Source g.M.Snk.Sink) c.args.script.now R.0 c.args.log.now R.1 R.2 (g.M.Media.outside c.args.media.now) (g.M.Media.outside c.open_files.new.media) c.in_ok-opened.opened.plan c.in_ok-opened.opened.files.items c.in_ok-opened.ensures.opened

pub returns-in_err-ran-clause-undone : goal.returns-in_err-ran-clause-undone
returns-in_err-ran-clause-undone g c =
    let R = c.requires.script in
    let p = err_from_is_err_and c.from_residual-in_err-ran.result c.from_residual-in_err-ran.ensures.1 in
    rw (p.1, p.2) (broken_off (file_seen g.M.Src.Source g.M.Snk.Sink) c.args.script.now R.0 c.args.log.now R.1 R.2 (g.M.Media.outside c.args.media.now) (g.M.Media.outside c.open_files.new.media) c.in_ok-opened.opened.plan c.in_ok-opened.opened.files.items c.in_ok-opened.ensures.opened
    (g.M.Media.outside c.run_and_close.new.media) c.parts_of.result.now c.parts_of.ensures c.run_and_close.result c.run_and_close.ensures c.in_err-ran.field-0.0 c.in_err-ran.was)

pub returns-in-Ok : goal.returns-in-Ok
returns-in-Ok g c =
    let R = c.requires.script in
    let e = c.in-Ok.ensures in
    let W = logged (file_seen g.M.Src.Source g.M.Snk.Sink) c.args.script.now R.0 c.args.log.now R.1 R.2 (g.M.Media.outside c.args.media.now) (g.M.Media.outside c.open_files.new.media) c.in_ok-opened.opened.plan c.in_ok-opened.opened.files.items c.in_ok-opened.ensures.opened
    (g.M.Media.outside c.run_and_close.new.media) c.parts_of.result.now c.parts_of.ensures c.run_and_close.result c.run_and_close.ensures c.in_ok-ran.ran c.in_ok-ran.was
    (g.M.Media.outside c.write_log.new.media) c.write_log.ensures.goes_on c.write_log.ensures.others c.write_log.ensures.read_faults (e.asked (λ e. cc)) e.held (e.write_stays (λ e. cc)) (e.absences_stay (λ e. cc)) in
    record { goes_on = W.goes_on; done = W.done; stand = W.stand; absences = W.absences; undone = tt }

pub returns-clause-undone : goal.returns-clause-undone
returns-clause-undone g c =
    let R = c.requires.script in
    let e = c.in-Err.ensures in
    subst (λ (fault : Fault). IsUndone 0 c.args.script.now c.args.log.now (g.M.Media.outside c.args.media.now) (g.M.Media.outside c.write_log.new.media) fault) (sym c.log_fault.ensures)
    (not_logged (file_seen g.M.Src.Source g.M.Snk.Sink) c.args.script.now R.0 c.args.log.now R.1 R.2 (g.M.Media.outside c.args.media.now) (g.M.Media.outside c.open_files.new.media) c.in_ok-opened.opened.plan c.in_ok-opened.opened.files.items c.in_ok-opened.ensures.opened
    (g.M.Media.outside c.run_and_close.new.media) c.parts_of.result.now c.parts_of.ensures c.run_and_close.result c.run_and_close.ensures c.in_ok-ran.ran c.in_ok-ran.was
    (g.M.Media.outside c.write_log.new.media) c.write_log.ensures.goes_on c.write_log.ensures.others e.read_faults c.in-Err.refused e.reason
    (λ n. e.write_stays (λ same. n (cc))) (λ n. e.absences_stay (λ same. n (cc))) (λ n. e.asked (λ same. n (cc))) e.front c.write_log.ensures.failed_names)
