use Rattle.std.proofs.Common.{◌≡◌, false, All, sym, subst, ◌∙◌}
use Rattle.play_log.specs.Places.{PassLogValue}
use Rattle.worker_course.specs.Answers.{IsBrokenOff}
use Rattle.worker_course.specs.Sights.{all_seen}
use Rattle.worker_course.proofs.ending.end_play.Goals as goal

pub stop_graph-requires-clause-parts : goal.stop_graph-requires-clause-parts
stop_graph-requires-clause-parts g c = (c.law_of_worker_runs.ensures.fits c.args.plan.now c.requires.ran.0 c.requires.ran.1 c.args.ran c.requires.ran.2).0

pub stop_graph-requires-clause-joints : goal.stop_graph-requires-clause-joints
stop_graph-requires-clause-joints g c = (c.law_of_worker_runs.ensures.fits c.args.plan.now c.requires.ran.0 c.requires.ran.1 c.args.ran c.requires.ran.2).1

pub stop_graph-requires-clause-links : goal.stop_graph-requires-clause-links
stop_graph-requires-clause-links g c = (c.law_of_worker_runs.ensures.fits c.args.plan.now c.requires.ran.0 c.requires.ran.1 c.args.ran c.requires.ran.2).2

pub stop_graph-requires-clause-stands : goal.stop_graph-requires-clause-stands
stop_graph-requires-clause-stands g c = c.law_of_worker_runs.ensures.stops c.args.plan.now c.requires.ran.0 c.requires.ran.1 c.args.ran c.requires.ran.2

pub fault_of-requires : goal.fault_of-requires
fault_of-requires g c = c.law_of_worker_runs.ensures.placed c.args.plan.now c.requires.ran.0 c.requires.ran.1 c.args.ran c.requires.ran.2

pub end_graph-requires-clause-parts : goal.end_graph-requires-clause-parts
end_graph-requires-clause-parts g c = (c.law_of_worker_runs.ensures.fits c.args.plan.now c.requires.ran.0 c.requires.ran.1 c.args.ran c.requires.ran.2).0

pub end_graph-requires-clause-joints : goal.end_graph-requires-clause-joints
end_graph-requires-clause-joints g c = (c.law_of_worker_runs.ensures.fits c.args.plan.now c.requires.ran.0 c.requires.ran.1 c.args.ran c.requires.ran.2).1

pub end_graph-requires-clause-links : goal.end_graph-requires-clause-links
end_graph-requires-clause-links g c = (c.law_of_worker_runs.ensures.fits c.args.plan.now c.requires.ran.0 c.requires.ran.1 c.args.ran c.requires.ran.2).2

pub end_graph-requires-clause-ended : goal.end_graph-requires-clause-ended
end_graph-requires-clause-ended g c = c.law_of_worker_runs.ensures.ends c.args.plan.now c.requires.ran.0 c.requires.ran.1 c.args.ran c.requires.ran.2 c.if-not-ended.false

pub returns-then-not-ended-clause-same : goal.returns-then-not-ended-clause-same
returns-then-not-ended-clause-same g c = λ workers before H.
    (c.law_of_worker_runs.ensures.left c.args.plan.now workers before c.stop_graph.new.files c.args.ran H c.law_of_worlds.ensures.written (c.stop_graph.ensures.many ∙ c.requires.many) c.stop_graph.ensures.files).0

pub returns-then-not-ended-clause-broken_off : goal.returns-then-not-ended-clause-broken_off
returns-then-not-ended-clause-broken_off g c = λ workers before H.
    subst (IsBrokenOff c.args.plan.now (all_seen g.S.Source g.K.Sink before) (all_seen g.S.Source g.K.Sink c.stop_graph.new.files)) (sym c.fault_of.ensures)
    (c.law_of_worker_runs.ensures.left c.args.plan.now workers before c.stop_graph.new.files c.args.ran H c.law_of_worlds.ensures.written (c.stop_graph.ensures.many ∙ c.requires.many) c.stop_graph.ensures.files).1

pub returns-in-Ok-clause-same : goal.returns-in-Ok-clause-same
returns-in-Ok-clause-same g c = λ workers before H.
    (c.law_of_worker_runs.ensures.left c.args.plan.now workers before c.end_graph.new.files c.args.ran H c.law_of_worlds.ensures.written (c.end_graph.ensures.many ∙ c.requires.many) c.end_graph.ensures.files).0

pub returns-in-Ok-clause-done : goal.returns-in-Ok-clause-done
returns-in-Ok-clause-done g c = λ workers before H.
    c.law_of_worker_runs.ensures.done c.args.plan.now workers before c.end_graph.new.files c.args.ran H c.law_of_worlds.ensures.written (c.end_graph.ensures.many ∙ c.requires.many) c.end_graph.ensures.files
    c.if-not-ended.false
    (subst (All (λ (page : PassLogValue). page.broken ≡ false)) c.as_slice.ensures.value (c.are_whole.ensures.0 c.if-not-are_whole.false))
    c.in-Ok.text c.in-Ok.ensures.text

pub returns-in-Err-clause-same : goal.returns-in-Err-clause-same
returns-in-Err-clause-same g c = λ workers before H.
    (c.law_of_worker_runs.ensures.left c.args.plan.now workers before c.end_graph.new.files c.args.ran H c.law_of_worlds.ensures.written (c.end_graph.ensures.many ∙ c.requires.many) c.end_graph.ensures.files).0

pub returns-in-Err-clause-broken_off : goal.returns-in-Err-clause-broken_off
returns-in-Err-clause-broken_off g c = λ workers before H.
    (c.law_of_worker_runs.ensures.left c.args.plan.now workers before c.end_graph.new.files c.args.ran H c.law_of_worlds.ensures.written (c.end_graph.ensures.many ∙ c.requires.many) c.end_graph.ensures.files).2
