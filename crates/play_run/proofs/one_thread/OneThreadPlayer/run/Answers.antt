use Rattle.std.proofs.Common.{false, inl, refl, ap, sym, ◌∙◌, subst}
use Rattle.std.proofs.lemmas.Result.{err_from_is_err_and}
use Rattle.play_plan_laws.specs.Assemblies.{IsReady, PlayFiles}
use Rattle.play_course.specs.Failing.{LeavesBehind}
use Rattle.play_course.specs.Players.{AreFilesOf, IsFailed, IsPlayedWhole}
use Rattle.play_course.specs.Running.{IsRunCause}
use Rattle.play_run.proofs.Comings.{seen}
use Rattle.play_run.proofs.ThreadFiles.{are_offered, can_make}
use Rattle.play_run.proofs.Played.{all_gone, fault_cause, files_same, on_err, over_left, run_failed, run_front, run_whole, stop_left, untouched, when_err, when_ok, when_want}
use Rattle.play_run.proofs.one_thread.OneThreadPlayer.run.Goals as goal

pub new-requires : goal.new-requires
new-requires g c = record { files = can_make g.S.Source g.K.Sink c.args.plan c.args.files.now c.requires.ready }

pub returns-in_err-playing-clause-failed : goal.returns-in_err-playing-clause-failed
returns-in_err-playing-clause-failed g c = on_err c.from_residual.result (λ given R O.
    subst (λ now. IsFailed c.args.plan given (seen g.S.Source g.K.Sink c.args.files.now) (seen g.S.Source g.K.Sink now)) (sym c.in_err-playing.ensures.unmade)
    (untouched g.S.Source g.K.Sink c.args.plan c.args.files.now c.requires.ready given O))

pub returns-in_err-playing-clause-cause : goal.returns-in_err-playing-clause-cause
returns-in_err-playing-clause-cause g c =
    let p = err_from_is_err_and c.from_residual.result c.from_residual.ensures.1 in
    rw (p.1, p.2) tt

pub end-requires-clause-played : goal.end-requires-clause-played
end-requires-clause-played g c =
    let R = c.requires.ready in
    let P = c.in-Ok.ensures.played R.files (c.in_ok-playing.ensures.begun R.files R.ready (are_offered g.S.Source g.K.Sink c.args.plan R.files c.args.files.now R.are)) in
    (P.0, P.1, P.2)

pub end-requires-clause-gone : goal.end-requires-clause-gone
end-requires-clause-gone g c = all_gone c.args.plan c.play.new.self.plan c.new.new.files (c.in-Ok.ensures.plan ∙ c.in_ok-playing.ensures.plan) c.in_ok-playing.ensures.gone

pub stop-requires-clause-gone : goal.stop-requires-clause-gone
stop-requires-clause-gone g c = all_gone c.args.plan c.play.new.self.plan c.new.new.files (c.in-Err.ensures.plan ∙ c.in_ok-playing.ensures.plan) c.in_ok-playing.ensures.gone

pub returns-in-Ok-clause-same : goal.returns-in-Ok-clause-same
returns-in-Ok-clause-same g c = files_same g.S.Source g.K.Sink c.args.plan c.args.files.now c.requires.ready c.in_ok-playing.playing c.play.new.self c.new.new.files c.end.new.files (c.in-Ok.ensures.plan ∙ c.in_ok-playing.ensures.plan) c.in_ok-playing.ensures.many c.end.ensures.many c.in_ok-playing.ensures.files c.end.ensures.files (λ n. (false, c.in-Ok.ensures.objects n))

pub returns-in-Ok-clause-whole : goal.returns-in-Ok-clause-whole
returns-in-Ok-clause-whole g c =
    when_ok c.end.result c.text_of.result
    (λ text. (given : PlayFiles) → IsReady c.args.plan given → AreFilesOf c.args.plan given (seen g.S.Source g.K.Sink c.args.files.now) → IsPlayedWhole 0 c.args.plan given (seen g.S.Source g.K.Sink c.args.files.now) (seen g.S.Source g.K.Sink c.end.new.files) text)
    c.text_of.ensures.logged
    (λ text logged given R O.
    run_whole g.S.Source g.K.Sink c.args.plan c.args.files.now c.requires.ready c.in_ok-playing.playing c.play.new.self c.new.new.files c.end.new.files (c.in-Ok.ensures.plan ∙ c.in_ok-playing.ensures.plan) c.in_ok-playing.ensures.many c.end.ensures.many c.in_ok-playing.ensures.files c.end.ensures.files (λ n. (false, c.in-Ok.ensures.objects n)) c.end.ensures.written given R O (c.in-Ok.ensures.played given (c.in_ok-playing.ensures.begun given R (are_offered g.S.Source g.K.Sink c.args.plan given c.args.files.now O)))
    c.law_of_play_logs.ensures.names c.end.result c.end.ensures.log text logged)

pub returns-in-Ok-clause-failed : goal.returns-in-Ok-clause-failed
returns-in-Ok-clause-failed g c = on_err c.text_of.result (λ given R O.
    run_front g.S.Source g.K.Sink c.args.plan c.args.files.now c.requires.ready c.in_ok-playing.playing c.play.new.self c.new.new.files c.end.new.files (c.in-Ok.ensures.plan ∙ c.in_ok-playing.ensures.plan) c.in_ok-playing.ensures.many c.end.ensures.many c.in_ok-playing.ensures.files c.end.ensures.files (λ n. (false, c.in-Ok.ensures.objects n)) c.end.ensures.written given R O (c.in-Ok.ensures.played given (c.in_ok-playing.ensures.begun given R (are_offered g.S.Source g.K.Sink c.args.plan given c.args.files.now O))))

pub returns-in-Ok-clause-cause : goal.returns-in-Ok-clause-cause
returns-in-Ok-clause-cause g c = when_err (seen g.S.Source g.K.Sink c.args.files.now) (seen g.S.Source g.K.Sink c.end.new.files) c.text_of.result c.text_of.ensures.memory

pub returns-in-Err-clause-same : goal.returns-in-Err-clause-same
returns-in-Err-clause-same g c = files_same g.S.Source g.K.Sink c.args.plan c.args.files.now c.requires.ready c.in_ok-playing.playing c.play.new.self c.new.new.files c.stop.new.files (c.in-Err.ensures.plan ∙ c.in_ok-playing.ensures.plan) c.in_ok-playing.ensures.many c.stop.ensures.many c.in_ok-playing.ensures.files c.stop.ensures.files c.in-Err.ensures.objects_then

pub returns-in-Err-clause-failed : goal.returns-in-Err-clause-failed
returns-in-Err-clause-failed g c = λ given R O.
    run_failed g.S.Source g.K.Sink c.args.plan c.args.files.now c.requires.ready c.in_ok-playing.playing c.play.new.self c.new.new.files c.stop.new.files (c.in-Err.ensures.plan ∙ c.in_ok-playing.ensures.plan) c.in_ok-playing.ensures.many c.stop.ensures.many c.in_ok-playing.ensures.files c.stop.ensures.files c.in-Err.ensures.objects_then c.stop.ensures.written given R O c.in-Err.stop (c.in-Err.ensures.broken_off_with given (c.in_ok-playing.ensures.begun given R (are_offered g.S.Source g.K.Sink c.args.plan given c.args.files.now O))) c.stop.ensures.sound

pub returns-in-Err-clause-cause : goal.returns-in-Err-clause-cause
returns-in-Err-clause-cause g c =
    subst (IsRunCause (seen g.S.Source g.K.Sink c.args.files.now) (seen g.S.Source g.K.Sink c.stop.new.files)) (sym c.from.ensures)
    (fault_cause g.S.Source g.K.Sink c.args.plan c.args.files.now c.requires.ready c.in_ok-playing.playing c.play.new.self c.new.new.files c.stop.new.files (c.in-Err.ensures.plan ∙ c.in_ok-playing.ensures.plan) c.in_ok-playing.ensures.many c.stop.ensures.many c.in_ok-playing.ensures.files c.stop.ensures.files c.in-Err.ensures.objects_then c.in-Err.stop c.in-Err.ensures.broken_off c.in-Err.ensures.shows)

pub returns-in_err-playing-clause-left : goal.returns-in_err-playing-clause-left
returns-in_err-playing-clause-left g c =
    let p = err_from_is_err_and c.from_residual.result c.from_residual.ensures.1 in
    rw (p.1, p.2) (λ given R O. inl (refl, ap (seen g.S.Source g.K.Sink) c.in_err-playing.ensures.unmade))

pub returns-in-Ok-clause-left : goal.returns-in-Ok-clause-left
returns-in-Ok-clause-left g c =
    when_want
    (λ fault. (given : PlayFiles) → IsReady c.args.plan given → AreFilesOf c.args.plan given (seen g.S.Source g.K.Sink c.args.files.now) → LeavesBehind c.args.plan given (seen g.S.Source g.K.Sink c.args.files.now) (seen g.S.Source g.K.Sink c.end.new.files) fault)
    c.text_of.result c.text_of.ensures.memory
    (λ given R O.
    over_left g.S.Source g.K.Sink c.args.plan c.args.files.now c.requires.ready c.in_ok-playing.playing c.play.new.self c.new.new.files c.end.new.files (c.in-Ok.ensures.plan ∙ c.in_ok-playing.ensures.plan) c.in_ok-playing.ensures.many c.end.ensures.many c.in_ok-playing.ensures.files c.end.ensures.files (λ n. (false, c.in-Ok.ensures.objects n)) c.end.ensures.written given R O (c.in-Ok.ensures.played given (c.in_ok-playing.ensures.begun given R (are_offered g.S.Source g.K.Sink c.args.plan given c.args.files.now O))))

pub returns-in-Err-clause-left : goal.returns-in-Err-clause-left
returns-in-Err-clause-left g c = λ given R O.
    subst (LeavesBehind c.args.plan given (seen g.S.Source g.K.Sink c.args.files.now) (seen g.S.Source g.K.Sink c.stop.new.files)) (sym c.from.ensures)
    (stop_left g.S.Source g.K.Sink c.args.plan c.args.files.now c.requires.ready c.in_ok-playing.playing c.play.new.self c.new.new.files c.stop.new.files (c.in-Err.ensures.plan ∙ c.in_ok-playing.ensures.plan) c.in_ok-playing.ensures.many c.stop.ensures.many c.in_ok-playing.ensures.files c.stop.ensures.files c.in-Err.ensures.objects_then c.stop.ensures.written given R O c.in-Err.stop (c.in-Err.ensures.broken_off_with given (c.in_ok-playing.ensures.begun given R (are_offered g.S.Source g.K.Sink c.args.plan given c.args.files.now O))) c.in-Err.ensures.shows c.stop.ensures.sound)
