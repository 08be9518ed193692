use Rattle.std.proofs.Common.{length}
use Rattle.play_files.specs.Seen.{file_seen, files_seen}
use Rattle.play_course.proofs.Running.{not_begun}
use Rattle.worker_course.proofs.Ran.{run_done}
use Rattle.worker_course.proofs.playing.run.Goals as goal

pub returns-in-Err : goal.returns-in-Err
returns-in-Err g c = not_begun c.args.plan _ c.requires.ready

pub returns-in-Ok-play_plan : goal.returns-in-Ok-play_plan
returns-in-Ok-play_plan g c =
    let seen = files_seen (file_seen g.S.Source g.K.Sink) in
    run_done g.G.Gate.counts c.args.plan (seen c.args.files.now) (seen c.play_plan.new.files) (length c.args.gates.items) c.in-Ok-play_plan.back.items c.in-Ok-play_plan.text c.in-Ok.summary c.in-Ok.ensures
    c.play_plan.ensures.same c.in-Ok-play_plan.ensures.done
