use Rattle.std.proofs.Common.{true, false, slice_get, List, refl, sym, ◌∙◌, ap, subst}
use Rattle.run_audit.specs.declared.replaying.Replayed.{Replayed}
use Rattle.run_audit.specs.Opening.{play_sight}
use Rattle.run_audit.specs.Replayed.{IsVerdictBy, OnVerdict}
use Rattle.run_audit.proofs.Files.{files_fail, files_join, goes_same}
use Rattle.run_audit.proofs.Replays as replays
use Rattle.run_audit.proofs.Replays.{IsMade, gone_in}
use Rattle.run_audit.proofs.replaying.replay.Goals as goal

pub returns-in-Err-clause-files : goal.returns-in-Err-clause-files
returns-in-Err-clause-files g c = λ place file b e.
    (file, ap (λ (l : List _). slice_get l place) c.in-Err.ensures.unmade ∙ e, goes_same (play_sight g.S.Source) true file file refl)

pub walk-requires-clause-stands : goal.walk-requires-clause-stands
walk-requires-clause-stands g c =
    let q = c.requires.files in
    let N = c.in-Ok.ensures in
    let M : IsMade g.S.Source c.args.plan c.args.files.now c.in-Ok.replay = record { plan_is = N.plan; unused = N.unused; opens = N.opens; back = N.files; out = c.law_of_worlds.ensures.out } in
    replays.stood g.S.Source c.args.plan c.args.files.now c.in-Ok.replay M q.0 q.1 q.2 q.3

-- ---- the lines came to their end

pub take_apart-requires-clause-rests : goal.take_apart-requires-clause-rests
take_apart-requires-clause-rests g c =
    let q = c.requires.files in
    let N = c.in-Ok.ensures in
    let M : IsMade g.S.Source c.args.plan c.args.files.now c.in-Ok.replay = record { plan_is = N.plan; unused = N.unused; opens = N.opens; back = N.files; out = c.law_of_worlds.ensures.out } in
    replays.end_rests g.S.Source c.args.plan c.args.files.now c.in-Ok.replay M q.0 q.1 q.2 q.3 c.walk.new.self c.args.text.now c.in-Ended.line c.in-Ended.ensures.walked (c.if-is_at_rest.ensures.yes refl)

pub take_apart-requires-clause-gone : goal.take_apart-requires-clause-gone
take_apart-requires-clause-gone g c = gone_in _ _ _ (c.in-Ended.ensures.plan ∙ c.in-Ok.ensures.plan) c.in-Ok.ensures.gone

pub leave-requires-clause-left : goal.leave-requires-clause-left
leave-requires-clause-left g c =
    let q = c.requires.files in
    let N = c.in-Ok.ensures in
    let M : IsMade g.S.Source c.args.plan c.args.files.now c.in-Ok.replay = record { plan_is = N.plan; unused = N.unused; opens = N.opens; back = N.files; out = c.law_of_worlds.ensures.out } in
    replays.end_left g.S.Source c.args.plan c.args.files.now c.in-Ok.replay M q.0 q.1 q.2 q.3 c.walk.new.self c.args.text.now c.in-Ended.line c.in-Ended.ensures.walked

pub leave-requires-clause-gone : goal.leave-requires-clause-gone
leave-requires-clause-gone g c = gone_in _ _ _ (c.in-Ended.ensures.plan ∙ c.in-Ok.ensures.plan) c.in-Ok.ensures.gone

pub returns-then-is_at_rest-clause-verdict : goal.returns-then-is_at_rest-clause-verdict
returns-then-is_at_rest-clause-verdict g c = λ given sinks tells T A.
    (let N = c.in-Ok.ensures in
    let M : IsMade g.S.Source c.args.plan c.args.files.now c.in-Ok.replay = record { plan_is = N.plan; unused = N.unused; opens = N.opens; back = N.files; out = c.law_of_worlds.ensures.out } in
    replays.at_rest g.S.Source c.args.plan c.args.files.now c.in-Ok.replay M tells given sinks A T c.walk.new.self c.args.text.now c.in-Ended.line c.in-Ended.ensures.walked c.in-Ended.ensures.plan
    c.take_apart.new.files (c.take_apart.ensures.many ∙ N.many) c.take_apart.ensures.files c.take_apart.ensures.written c.at_end.result c.at_end.ensures.decided (c.if-is_at_rest.ensures.yes refl))

pub returns-then-is_at_rest-clause-files : goal.returns-then-is_at_rest-clause-files
returns-then-is_at_rest-clause-files g c =
    let q = c.requires.files in
    let N = c.in-Ok.ensures in
    let walked = c.walk.new.self in
    let M : IsMade g.S.Source c.args.plan c.args.files.now c.in-Ok.replay = record { plan_is = N.plan; unused = N.unused; opens = N.opens; back = N.files; out = c.law_of_worlds.ensures.out } in
    replays.back_so g.S.Source c.args.plan c.args.files.now c.in-Ok.replay M walked c.in-Ended.ensures.plan c.take_apart.new.files
    (replays.end_apart g.S.Source c.args.plan c.args.files.now c.in-Ok.replay M q.0 q.1 q.2 q.3 walked c.args.text.now c.in-Ended.line c.in-Ended.ensures.walked (c.if-is_at_rest.ensures.yes refl) c.take_apart.new.files c.take_apart.ensures.files)
    (files_fail (play_sight g.S.Source) false c.in-Ok.replay walked c.in-Ended.ensures.files)

pub returns-else-is_at_rest-clause-verdict : goal.returns-else-is_at_rest-clause-verdict
returns-else-is_at_rest-clause-verdict g c = λ given sinks tells T A.
    (let N = c.in-Ok.ensures in
    let M : IsMade g.S.Source c.args.plan c.args.files.now c.in-Ok.replay = record { plan_is = N.plan; unused = N.unused; opens = N.opens; back = N.files; out = c.law_of_worlds.ensures.out } in
    subst (λ (k : Replayed). OnVerdict k (IsVerdictBy c.args.plan given sinks c.args.text.now)) (sym c.not_ended.ensures)
    (replays.left_out g.S.Source c.args.plan c.args.files.now c.in-Ok.replay M tells given sinks A T c.walk.new.self c.args.text.now c.in-Ended.line c.in-Ended.ensures.walked c.in-Ended.ensures.plan (c.if-is_at_rest.ensures.no refl)))

pub returns-else-is_at_rest-clause-files : goal.returns-else-is_at_rest-clause-files
returns-else-is_at_rest-clause-files g c =
    let N = c.in-Ok.ensures in
    let walked = c.walk.new.self in
    let M : IsMade g.S.Source c.args.plan c.args.files.now c.in-Ok.replay = record { plan_is = N.plan; unused = N.unused; opens = N.opens; back = N.files; out = c.law_of_worlds.ensures.out } in
    replays.back_so g.S.Source c.args.plan c.args.files.now c.in-Ok.replay M walked c.in-Ended.ensures.plan c.leave.new.files c.leave.ensures.files (files_fail (play_sight g.S.Source) false c.in-Ok.replay walked c.in-Ended.ensures.files)

-- ---- a line didn't pass

pub leave-requires-in-Stopped-clause-left : goal.leave-requires-in-Stopped-clause-left
leave-requires-in-Stopped-clause-left g c =
    let q = c.requires.files in
    let N = c.in-Ok.ensures in
    let M : IsMade g.S.Source c.args.plan c.args.files.now c.in-Ok.replay = record { plan_is = N.plan; unused = N.unused; opens = N.opens; back = N.files; out = c.law_of_worlds.ensures.out } in
    replays.stop_left g.S.Source c.args.plan c.args.files.now c.in-Ok.replay M q.0 q.1 q.2 q.3 c.walk.new.self c.args.text.now c.in-Stopped.line c.in-Stopped.why c.in-Stopped.ensures.walked

pub leave-requires-in-Stopped-clause-gone : goal.leave-requires-in-Stopped-clause-gone
leave-requires-in-Stopped-clause-gone g c = gone_in _ _ _ (c.in-Stopped.ensures.plan ∙ c.in-Ok.ensures.plan) c.in-Ok.ensures.gone

pub returns-in-Stopped-clause-verdict : goal.returns-in-Stopped-clause-verdict
returns-in-Stopped-clause-verdict g c = λ given sinks tells T A.
    (let N = c.in-Ok.ensures in
    let M : IsMade g.S.Source c.args.plan c.args.files.now c.in-Ok.replay = record { plan_is = N.plan; unused = N.unused; opens = N.opens; back = N.files; out = c.law_of_worlds.ensures.out } in
    replays.stop_verdict g.S.Source c.args.plan c.args.files.now c.in-Ok.replay M tells given sinks A c.walk.new.self c.args.text.now T c.in-Stopped.line c.in-Stopped.why c.in-Stopped.ensures.walked)

pub returns-in-Stopped-clause-files : goal.returns-in-Stopped-clause-files
returns-in-Stopped-clause-files g c =
    let N = c.in-Ok.ensures in
    let walked = c.walk.new.self in
    let M : IsMade g.S.Source c.args.plan c.args.files.now c.in-Ok.replay = record { plan_is = N.plan; unused = N.unused; opens = N.opens; back = N.files; out = c.law_of_worlds.ensures.out } in
    replays.back_so g.S.Source c.args.plan c.args.files.now c.in-Ok.replay M walked c.in-Stopped.ensures.plan c.leave-in-Stopped.new.files c.leave-in-Stopped.ensures.files (files_fail (play_sight g.S.Source) false c.in-Ok.replay walked c.in-Stopped.ensures.files)

-- ---- a step failed

pub leave-requires-in-Failed-clause-left : goal.leave-requires-in-Failed-clause-left
leave-requires-in-Failed-clause-left g c =
    let q = c.requires.files in
    let N = c.in-Ok.ensures in
    let M : IsMade g.S.Source c.args.plan c.args.files.now c.in-Ok.replay = record { plan_is = N.plan; unused = N.unused; opens = N.opens; back = N.files; out = c.law_of_worlds.ensures.out } in
    replays.break_left g.S.Source c.args.plan c.args.files.now c.in-Ok.replay M q.0 q.1 q.2 q.3 c.walk.new.self c.args.text.now _ c.in-Failed.component c.in-Failed.fault c.in-Failed.ensures.walked

pub leave-requires-in-Failed-clause-gone : goal.leave-requires-in-Failed-clause-gone
leave-requires-in-Failed-clause-gone g c = gone_in _ _ _ (c.in-Failed.ensures.plan ∙ c.in-Ok.ensures.plan) c.in-Ok.ensures.gone

pub returns-in-Failed-clause-files : goal.returns-in-Failed-clause-files
returns-in-Failed-clause-files g c =
    let see = play_sight g.S.Source in
    let N = c.in-Ok.ensures in
    let r = c.in-Ok.replay in
    let walked = c.walk.new.self in
    let F = c.in-Failed.ensures.files in
    let M : IsMade g.S.Source c.args.plan c.args.files.now r = record { plan_is = N.plan; unused = N.unused; opens = N.opens; back = N.files; out = c.law_of_worlds.ensures.out } in
    replays.back_so g.S.Source c.args.plan c.args.files.now r M walked c.in-Failed.ensures.plan c.leave-in-Failed.new.files c.leave-in-Failed.ensures.files (files_join see r F.0 walked (files_fail see false r F.0 F.1) F.2)

pub returns-in-Failed-clause-failed : goal.returns-in-Failed-clause-failed
returns-in-Failed-clause-failed g c =
    let q = c.requires.files in
    let N = c.in-Ok.ensures in
    let r = c.in-Ok.replay in
    let walked = c.walk.new.self in
    let F = c.in-Failed.ensures.files in
    let M : IsMade g.S.Source c.args.plan c.args.files.now r = record { plan_is = N.plan; unused = N.unused; opens = N.opens; back = N.files; out = c.law_of_worlds.ensures.out } in
    replays.shown_so g.S.Source c.args.plan c.args.files.now r M walked c.in-Failed.ensures.plan c.leave-in-Failed.new.files c.leave-in-Failed.ensures.files c.in-Failed.component c.in-Failed.fault
    (replays.break_below g.S.Source c.args.plan c.args.files.now r M q.0 q.1 q.2 q.3 walked c.args.text.now _ c.in-Failed.component c.in-Failed.fault c.in-Failed.ensures.walked) F.0 F.1 F.3
