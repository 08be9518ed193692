use Rattle.std.proofs.Common.{List, length, Option, option_map, ◌∙◌, sym}
use Rattle.std.proofs.lemmas.List.{length-map}
use Rattle.audio_parts.specs.declared.part_file.PartFile.{PartFile}
use Rattle.play_files.specs.Seen.{file_seen}
use Rattle.play_run.proofs.ThreadFiles.{can_make, files_same}
use Rattle.worker_course.specs.Answers.{IsBrokenOff, IsDone}
use Rattle.worker_course.specs.Runs.{IsMadeFrom}
use Rattle.worker_course.specs.Sights.{all_seen}
use Rattle.worker_course.proofs.Begun.{err_then, ok_then}
use Rattle.worker_course.proofs.Opened.{none_touched, same_untouched}
use Rattle.worker_course.proofs.running.play_plan.Goals as goal

pub new-requires : goal.new-requires
new-requires g c = c.requires.ready.ready.valid.most

pub returns-in_default-clause-same : goal.returns-in_default-clause-same
returns-in_default-clause-same g c = files_same g.S.Source g.K.Sink c.args.files.now

pub returns-in_default-clause-broken_off : goal.returns-in_default-clause-broken_off
returns-in_default-clause-broken_off g c = none_touched g.S.Source g.K.Sink c.args.plan.now c.args.files.now c.requires.ready

pub make_graph-requires : goal.make_graph-requires
make_graph-requires g c = can_make g.S.Source g.K.Sink c.args.plan.now c.args.files.now c.requires.ready

pub play_graph-requires-clause-made : goal.play_graph-requires-clause-made
play_graph-requires-clause-made g c = λ κs within. (c.args.files.now, record { can = c.requires.ready; made = c.in-Ok-make_graph.ensures.made; were = c.in-Ok-make_graph.ensures.files })

pub play_graph-requires-clause-many : goal.play_graph-requires-clause-many
play_graph-requires-clause-many g c = λ κs within. c.make_graph.ensures.many ∙ (sym (length-map c.args.files.now (option_map (file_seen g.S.Source g.K.Sink))) ∙ c.requires.ready.many)

pub returns-in-Ok-make_graph-clause-same : goal.returns-in-Ok-make_graph-clause-same
returns-in-Ok-make_graph-clause-same g c = c.play_graph.ensures.same c.args.files.now (record { can = c.requires.ready; made = c.in-Ok-make_graph.ensures.made; were = c.in-Ok-make_graph.ensures.files })

pub returns-in-Ok-make_graph-clause-done : goal.returns-in-Ok-make_graph-clause-done
returns-in-Ok-make_graph-clause-done g c =
    ok_then c.play_graph.result
    (λ done. (before : List (Option (PartFile g.row.S.Denot g.row.K.Denot))) → IsMadeFrom g.S.Source g.K.Sink c.args.plan.now before c.in-Ok-make_graph.graph → IsDone g.G.Gate.counts (length c.args.gates.items) c.args.plan.now (all_seen g.S.Source g.K.Sink before) (all_seen g.S.Source g.K.Sink c.play_graph.new.files) done.0 done.1.items)
    (λ done. IsDone g.G.Gate.counts (length c.args.gates.items) c.args.plan.now (all_seen g.S.Source g.K.Sink c.args.files.now) (all_seen g.S.Source g.K.Sink c.play_graph.new.files) done.0 done.1.items)
    (λ done h. h c.args.files.now (record { can = c.requires.ready; made = c.in-Ok-make_graph.ensures.made; were = c.in-Ok-make_graph.ensures.files }))
    c.play_graph.ensures.done

pub returns-in-Ok-make_graph-clause-broken_off : goal.returns-in-Ok-make_graph-clause-broken_off
returns-in-Ok-make_graph-clause-broken_off g c =
    err_then c.play_graph.result
    (λ fault. (before : List (Option (PartFile g.row.S.Denot g.row.K.Denot))) → IsMadeFrom g.S.Source g.K.Sink c.args.plan.now before c.in-Ok-make_graph.graph → IsBrokenOff c.args.plan.now (all_seen g.S.Source g.K.Sink before) (all_seen g.S.Source g.K.Sink c.play_graph.new.files) fault)
    (λ fault. IsBrokenOff c.args.plan.now (all_seen g.S.Source g.K.Sink c.args.files.now) (all_seen g.S.Source g.K.Sink c.play_graph.new.files) fault)
    (λ fault h. h c.args.files.now (record { can = c.requires.ready; made = c.in-Ok-make_graph.ensures.made; were = c.in-Ok-make_graph.ensures.files }))
    c.play_graph.ensures.broken_off

pub returns-in-Err-clause-same : goal.returns-in-Err-clause-same
returns-in-Err-clause-same g c = (same_untouched g.S.Source g.K.Sink c.args.plan.now c.args.files.now c.make_graph.new.files (sym c.in-Err.ensures.unmade) c.requires.ready).0

pub returns-in-Err-clause-broken_off : goal.returns-in-Err-clause-broken_off
returns-in-Err-clause-broken_off g c = (same_untouched g.S.Source g.K.Sink c.args.plan.now c.args.files.now c.make_graph.new.files (sym c.in-Err.ensures.unmade) c.requires.ready).1
