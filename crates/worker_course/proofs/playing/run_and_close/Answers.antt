use Rattle.std.proofs.Common.{◌≡◌, List, Option, length, ◌∙◌, subst}
use Rattle.std.specs.Vec.{vec_len, with_items}
use Rattle.std.proofs.lemmas.List.{with_items_is}
use Rattle.audio_parts.specs.declared.part_file.PartFile.{PartFile}
use Rattle.play_files.specs.Seen.{file_seen, files_seen}
use Rattle.play_course.specs.Courses.{HasClosed, HasRun}
use Rattle.play_course.proofs.Closed.{has_ended}
use Rattle.worker_course.proofs.Ran.{Tells}
use Rattle.worker_course.proofs.playing.run_and_close.Goals as goal

pub returns : goal.returns
returns g c =
    let seen = file_seen g.M.Src.Source g.M.Snk.Sink in
    let size : length c.run-ran.new.files ≡ vec_len c.args.opened.files = c.run-ran.auto.files ∙ c.as_mut_slice.ensures.len in
    let kept : (with_items c.args.opened.files c.run-ran.new.files).items ≡ c.run-ran.new.files = with_items_is c.args.opened.files c.run-ran.new.files size in
    let before = files_seen seen c.args.opened.files.items in
    let after = files_seen seen c.run-ran.new.files in
    has_ended (length c.args.gates.items) (Tells g.G.Gate.counts c.args.opened.plan before after c.run-ran.result.1.items) c.args.opened.plan c.args.parts.now before after
    (g.M.Media.outside c.args.media.now) (g.M.Media.outside c.close_run.new.media) c.run-ran.result.0 c.close_run.result
    (subst (λ (files : List (Option (PartFile _ _))). HasRun (length c.args.gates.items) (Tells g.G.Gate.counts c.args.opened.plan before after c.run-ran.result.1.items) c.args.opened.plan (files_seen seen files) after c.run-ran.result.0) c.as_mut_slice.ensures.value c.run-ran.ensures)
    (subst (λ (files : List (Option (PartFile _ _))). HasClosed c.args.parts.now (files_seen seen files) (g.M.Media.outside c.args.media.now) (g.M.Media.outside c.close_run.new.media) c.run-ran.result.0 c.close_run.result) kept c.close_run.ensures)
