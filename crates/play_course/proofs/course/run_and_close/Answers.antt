use Rattle.std.proofs.Common.{◌≡◌, List, Option, length, ◌∙◌, subst}
use Rattle.std.specs.Vec.{vec_len, with_items}
use Rattle.std.proofs.lemmas.List.{with_items_is}
use Rattle.audio_parts.specs.declared.part_file.PartFile.{PartFile}
use Rattle.play_files.specs.Seen.{file_seen, files_seen}
use Rattle.play_course.specs.Courses.{HasClosed, HasRun, TellsNothing}
use Rattle.play_course.proofs.Closed.{has_ended}
use Rattle.play_course.proofs.course.run_and_close.Goals as goal

pub returns : goal.returns
returns g c =
    let seen = file_seen g.M.Src.Source g.M.Snk.Sink in
    let size : length c.run-ran.new.files ≡ vec_len c.args.opened.files = c.run-ran.auto.files ∙ c.as_mut_slice.ensures.len in
    let kept : (with_items c.args.opened.files c.run-ran.new.files).items ≡ c.run-ran.new.files = with_items_is c.args.opened.files c.run-ran.new.files size in
    has_ended 0 TellsNothing c.args.opened.plan c.args.parts.now (files_seen seen c.args.opened.files.items) (files_seen seen c.run-ran.new.files)
    (g.M.Media.outside c.args.media.now) (g.M.Media.outside c.close_run.new.media) c.run-ran.result c.close_run.result
    (subst (λ (before : List (Option (PartFile _ _))). HasRun 0 TellsNothing c.args.opened.plan (files_seen seen before) (files_seen seen c.run-ran.new.files) c.run-ran.result) c.as_mut_slice.ensures.value c.run-ran.ensures)
    (subst (λ (after : List (Option (PartFile _ _))). HasClosed c.args.parts.now (files_seen seen after) (g.M.Media.outside c.args.media.now) (g.M.Media.outside c.close_run.new.media) c.run-ran.result c.close_run.result) kept c.close_run.ensures)
