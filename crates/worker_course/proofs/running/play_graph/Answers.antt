use Rattle.std.proofs.Common.{ℕ, List, length, Option, ◌∙◌, sym, subst, arith}
use Rattle.audio_parts.specs.declared.part_file.PartFile.{PartFile}
use Rattle.il_machine.specs.declared.answer.Progress.{Progress}
use Rattle.il_graph.specs.Shown.{Shown}
use Rattle.conducting_thread.specs.Seating.{AreSeatsFor}
use Rattle.play_run.proofs.ThreadFiles.{are_offered}
use Rattle.play_graph.specs.Ending.{AreFilesOf, StandsFor}
use Rattle.play_graph.specs.Stops.{HasStopped}
use Rattle.worker_course.specs.Answers.{IsBrokenOff, IsDone}
use Rattle.worker_course.specs.Runs.{HasRun, IsMadeFrom}
use Rattle.worker_course.specs.Seated.{AreSeated}
use Rattle.worker_course.specs.Sights.{all_seen}
use Rattle.worker_course.proofs.Begun.{err_then, has_run, ok_then}
use Rattle.worker_course.proofs.running.play_graph.Goals as goal

pub seats_in-requires-clause-few : goal.seats_in-requires-clause-few
seats_in-requires-clause-few g c = c.requires.made.1.can.ready.valid.most

pub seats_in-requires-clause-stands : goal.seats_in-requires-clause-stands
seats_in-requires-clause-stands g c =
    let M = c.requires.made.1 in
    (M.can.files, M.made M.can.files M.can.ready (are_offered g.S.Source g.K.Sink c.args.plan.now M.can.files c.requires.made.0 M.can.are))

pub stop_graph-requires-clause-joints : goal.stop_graph-requires-clause-joints
stop_graph-requires-clause-joints g c = (c.law_of_made_graphs.ensures.fits c.args.plan.now c.requires.made.0 c.args.graph c.requires.made.1).0

pub stop_graph-requires-clause-links : goal.stop_graph-requires-clause-links
stop_graph-requires-clause-links g c = (c.law_of_made_graphs.ensures.fits c.args.plan.now c.requires.made.0 c.args.graph c.requires.made.1).1

pub stop_graph-requires-clause-stands : goal.stop_graph-requires-clause-stands
stop_graph-requires-clause-stands g c = c.law_of_made_graphs.ensures.stops c.args.plan.now c.requires.made.0 c.args.graph c.requires.made.1

pub returns-in_default-clause-same : goal.returns-in_default-clause-same
returns-in_default-clause-same g c = λ before M. (c.law_of_made_graphs.ensures.untouched c.args.plan.now before c.stop_graph.new.files c.args.graph M (c.stop_graph.ensures.many ∙ c.requires.many) c.stop_graph.ensures.files).0

pub returns-in_default-clause-broken_off : goal.returns-in_default-clause-broken_off
returns-in_default-clause-broken_off g c = λ before M. (c.law_of_made_graphs.ensures.untouched c.args.plan.now before c.stop_graph.new.files c.args.graph M (c.stop_graph.ensures.many ∙ c.requires.many) c.stop_graph.ensures.files).1

pub play_by_workers-requires-clause-valid : goal.play_by_workers-requires-clause-valid
play_by_workers-requires-clause-valid g c = λ κs within. c.requires.made.1.can.ready.valid

pub play_by_workers-requires-clause-seats : goal.play_by_workers-requires-clause-seats
play_by_workers-requires-clause-seats g c = λ κs within.
    let M = c.requires.made.1 in
    let A = c.law_of_made_graphs.ensures.seated c.args.plan.now c.requires.made.0 c.args.graph M c.in-Some.seats.items c.in-Some.ensures in
    let B : AreSeatsFor c.args.plan.now c.as_slice.result.now = subst (AreSeatsFor c.args.plan.now) (sym c.as_slice.ensures.value) A in
    let n = B.many in
    let most = M.can.ready.valid.most in
    (B, omega (arith, n, most))

pub end_play-requires-clause-ran : goal.end_play-requires-clause-ran
end_play-requires-clause-ran g c = (
  length c.args.gates.items,
  c.requires.made.0,
  has_run g.S.Source g.K.Sink g.G.Gate.counts c.args.plan.now (length c.args.gates.items) c.requires.gates.0 c.requires.gates.1 c.args.graph c.in-Ok.ran c.as_slice.result.now
      (subst (AreSeated c.args.plan.now c.args.graph) (sym c.as_slice.ensures.value) c.in-Some.ensures) c.in-Ok.ensures.played
      (c.in-Ok.ensures.whole (c.law_of_made_graphs.ensures.back c.args.plan.now c.requires.made.0 c.args.graph c.requires.made.1)) c.in-Ok.ensures.many
      c.requires.made.0 c.requires.made.1,
)

pub returns-in-Ok-clause-same : goal.returns-in-Ok-clause-same
returns-in-Ok-clause-same g c = λ before M. c.end_play.ensures.same (length c.args.gates.items) before
    (has_run g.S.Source g.K.Sink g.G.Gate.counts c.args.plan.now (length c.args.gates.items) c.requires.gates.0 c.requires.gates.1 c.args.graph c.in-Ok.ran c.as_slice.result.now
    (subst (AreSeated c.args.plan.now c.args.graph) (sym c.as_slice.ensures.value) c.in-Some.ensures) c.in-Ok.ensures.played
    (c.in-Ok.ensures.whole (c.law_of_made_graphs.ensures.back c.args.plan.now c.requires.made.0 c.args.graph c.requires.made.1)) c.in-Ok.ensures.many before M)

pub returns-in-Ok-clause-done : goal.returns-in-Ok-clause-done
returns-in-Ok-clause-done g c =
    ok_then c.end_play.result
    (λ done. (workers : ℕ) (before : List (Option (PartFile g.row.S.Denot g.row.K.Denot))) → HasRun g.S.Source g.K.Sink g.G.Gate.counts c.args.plan.now workers before c.in-Ok.ran → IsDone g.G.Gate.counts workers c.args.plan.now (all_seen g.S.Source g.K.Sink before) (all_seen g.S.Source g.K.Sink c.end_play.new.files) done.0 done.1.items)
    (λ done. (before : List (Option (PartFile g.row.S.Denot g.row.K.Denot))) → IsMadeFrom g.S.Source g.K.Sink c.args.plan.now before c.args.graph → IsDone g.G.Gate.counts (length c.args.gates.items) c.args.plan.now (all_seen g.S.Source g.K.Sink before) (all_seen g.S.Source g.K.Sink c.end_play.new.files) done.0 done.1.items)
    (λ done h before M. h (length c.args.gates.items) before
    (has_run g.S.Source g.K.Sink g.G.Gate.counts c.args.plan.now (length c.args.gates.items) c.requires.gates.0 c.requires.gates.1 c.args.graph c.in-Ok.ran c.as_slice.result.now
    (subst (AreSeated c.args.plan.now c.args.graph) (sym c.as_slice.ensures.value) c.in-Some.ensures) c.in-Ok.ensures.played
    (c.in-Ok.ensures.whole (c.law_of_made_graphs.ensures.back c.args.plan.now c.requires.made.0 c.args.graph c.requires.made.1)) c.in-Ok.ensures.many before M))
    c.end_play.ensures.done

pub returns-in-Ok-clause-broken_off : goal.returns-in-Ok-clause-broken_off
returns-in-Ok-clause-broken_off g c =
    err_then c.end_play.result
    (λ fault. (workers : ℕ) (before : List (Option (PartFile g.row.S.Denot g.row.K.Denot))) → HasRun g.S.Source g.K.Sink g.G.Gate.counts c.args.plan.now workers before c.in-Ok.ran → IsBrokenOff c.args.plan.now (all_seen g.S.Source g.K.Sink before) (all_seen g.S.Source g.K.Sink c.end_play.new.files) fault)
    (λ fault. (before : List (Option (PartFile g.row.S.Denot g.row.K.Denot))) → IsMadeFrom g.S.Source g.K.Sink c.args.plan.now before c.args.graph → IsBrokenOff c.args.plan.now (all_seen g.S.Source g.K.Sink before) (all_seen g.S.Source g.K.Sink c.end_play.new.files) fault)
    (λ fault h before M. h (length c.args.gates.items) before
    (has_run g.S.Source g.K.Sink g.G.Gate.counts c.args.plan.now (length c.args.gates.items) c.requires.gates.0 c.requires.gates.1 c.args.graph c.in-Ok.ran c.as_slice.result.now
    (subst (AreSeated c.args.plan.now c.args.graph) (sym c.as_slice.ensures.value) c.in-Some.ensures) c.in-Ok.ensures.played
    (c.in-Ok.ensures.whole (c.law_of_made_graphs.ensures.back c.args.plan.now c.requires.made.0 c.args.graph c.requires.made.1)) c.in-Ok.ensures.many before M))
    c.end_play.ensures.broken_off

pub stop_graph-requires-in-Err-clause-joints : goal.stop_graph-requires-in-Err-clause-joints
stop_graph-requires-in-Err-clause-joints g c = (c.law_of_made_graphs.ensures.fits c.args.plan.now c.requires.made.0 c.args.graph c.requires.made.1).0

pub stop_graph-requires-in-Err-clause-links : goal.stop_graph-requires-in-Err-clause-links
stop_graph-requires-in-Err-clause-links g c = (c.law_of_made_graphs.ensures.fits c.args.plan.now c.requires.made.0 c.args.graph c.requires.made.1).1

pub stop_graph-requires-in-Err-clause-stands : goal.stop_graph-requires-in-Err-clause-stands
stop_graph-requires-in-Err-clause-stands g c =
    subst (λ (y : Shown g.row.S.Denot g.row.K.Denot Progress). StandsFor (HasStopped c.args.plan.now 0) y) (sym c.in-Err.ensures.err)
    (c.law_of_made_graphs.ensures.stops c.args.plan.now c.requires.made.0 c.args.graph c.requires.made.1)

pub returns-clause-same : goal.returns-clause-same
returns-clause-same g c = λ before M.
    (c.law_of_made_graphs.ensures.untouched c.args.plan.now before c.stop_graph-in-Err.new.files c.args.graph M (c.stop_graph-in-Err.ensures.many ∙ c.requires.many)
    (subst (λ (y : Shown g.row.S.Denot g.row.K.Denot Progress). AreFilesOf y (length c.args.plan.now.parts) c.stop_graph-in-Err.new.files) c.in-Err.ensures.err c.stop_graph-in-Err.ensures.files)).0

pub returns-clause-broken_off : goal.returns-clause-broken_off
returns-clause-broken_off g c = λ before M.
    (c.law_of_made_graphs.ensures.untouched c.args.plan.now before c.stop_graph-in-Err.new.files c.args.graph M (c.stop_graph-in-Err.ensures.many ∙ c.requires.many)
    (subst (λ (y : Shown g.row.S.Denot g.row.K.Denot Progress). AreFilesOf y (length c.args.plan.now.parts) c.stop_graph-in-Err.new.files) c.in-Err.ensures.err c.stop_graph-in-Err.ensures.files)).1
