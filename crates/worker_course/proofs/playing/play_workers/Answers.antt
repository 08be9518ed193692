use Rattle.std.proofs.Common.{length, sym, subst}
use Rattle.std.proofs.lemmas.Result.{err_from_is_err_and}
use Rattle.omx_types.specs.declared.fault.Fault.{Fault}
use Rattle.play_files.specs.Seen.{file_seen}
use Rattle.play_course.specs.Outcomes.{IsUndone}
use Rattle.play_course.specs.Settling.{parts_of}
use Rattle.play_course.proofs.Logged.{broken_off, can, logged, not_logged}
use Rattle.worker_course.proofs.OwnNames.{names_own, told_own}
use Rattle.worker_course.proofs.playing.play_workers.Goals as goal

pub run_and_close-ran-requires-clause-ready : goal.run_and_close-ran-requires-clause-ready
run_and_close-ran-requires-clause-ready g c = λ κs within.
    let R = c.requires.script in
    can (file_seen g.M.Src.Source g.M.Snk.Sink) c.args.script.now R.0 c.args.log.now R.1 R.2 (g.M.Media.outside c.args.media.now) (g.M.Media.outside c.open_files.new.media) c.in_ok-opened.opened.plan c.in_ok-opened.opened.files.items c.in_ok-opened.ensures.opened

pub run_and_close-ran-requires-clause-gates : goal.run_and_close-ran-requires-clause-gates
run_and_close-ran-requires-clause-gates g c = λ κs within. (c.requires.few.0, c.requires.few.1, c.requires.zeros)

pub returns-in_err-ran-clause-undone : goal.returns-in_err-ran-clause-undone
returns-in_err-ran-clause-undone g c =
    let R = c.requires.script in
    let p = err_from_is_err_and c.from_residual-in_err-ran.result c.from_residual-in_err-ran.ensures.1 in
    rw (p.1, p.2) (broken_off (file_seen g.M.Src.Source g.M.Snk.Sink) c.args.script.now R.0 c.args.log.now R.1 R.2 (g.M.Media.outside c.args.media.now) (g.M.Media.outside c.open_files.new.media) c.in_ok-opened.opened.plan c.in_ok-opened.opened.files.items c.in_ok-opened.ensures.opened
    (g.M.Media.outside c.run_and_close-ran.new.media) c.parts_of.result.now c.parts_of.ensures c.run_and_close-ran.result.0 c.run_and_close-ran.ensures c.in_err-ran.field-0.0 c.in_err-ran.was)

pub returns-in-Ok : goal.returns-in-Ok
returns-in-Ok g c =
    let script = c.args.script.now in
    let log = c.args.log.now in
    let final = g.M.Media.outside c.write_log.new.media in
    let R = c.requires.script in
    let O = c.in_ok-opened.ensures.opened in
    let e = c.in-Ok.ensures in
    let W = logged (file_seen g.M.Src.Source g.M.Snk.Sink) script R.0 log R.1 R.2 (g.M.Media.outside c.args.media.now) (g.M.Media.outside c.open_files.new.media) c.in_ok-opened.opened.plan c.in_ok-opened.opened.files.items O
    (g.M.Media.outside c.run_and_close-ran.new.media) c.parts_of.result.now c.parts_of.ensures c.run_and_close-ran.result.0 c.run_and_close-ran.ensures c.in_ok-ran.ran c.in_ok-ran.was
    final c.write_log.ensures.goes_on c.write_log.ensures.others c.write_log.ensures.read_faults (e.asked (λ e. cc)) e.held (e.write_stays (λ e. cc)) (e.absences_stay (λ e. cc)) in
    record {
      goes_on = W.goes_on;
      done = W.done;
      told = λ tells. told_own g.G.Gate.counts c.run_and_close-ran.result.1.items (parts_of script) log final (names_own R.0 log R.1 script R.2 O.planned O.is_plan) (W.told tells);
      stand = W.stand;
      absences = W.absences;
      undone = tt;
    }

pub returns-in-Err-clause-undone : goal.returns-in-Err-clause-undone
returns-in-Err-clause-undone g c =
    let R = c.requires.script in
    let e = c.in-Err.ensures in
    subst (λ (fault : Fault). IsUndone (length c.args.gates.items) c.args.script.now c.args.log.now (g.M.Media.outside c.args.media.now) (g.M.Media.outside c.write_log.new.media) fault) (sym c.log_fault.ensures)
    (not_logged (file_seen g.M.Src.Source g.M.Snk.Sink) c.args.script.now R.0 c.args.log.now R.1 R.2 (g.M.Media.outside c.args.media.now) (g.M.Media.outside c.open_files.new.media) c.in_ok-opened.opened.plan c.in_ok-opened.opened.files.items c.in_ok-opened.ensures.opened
    (g.M.Media.outside c.run_and_close-ran.new.media) c.parts_of.result.now c.parts_of.ensures c.run_and_close-ran.result.0 c.run_and_close-ran.ensures c.in_ok-ran.ran c.in_ok-ran.was
    (g.M.Media.outside c.write_log.new.media) c.write_log.ensures.goes_on c.write_log.ensures.others e.read_faults c.in-Err.refused e.reason
    (λ n. e.write_stays (λ same. n (cc))) (λ n. e.absences_stay (λ same. n (cc))) (λ n. e.asked (λ same. n (cc))) e.front c.write_log.ensures.failed_names)
