use Rattle.std.proofs.Common.{Err, None, Some, refl, sym, ◌∙◌, ap}
use Rattle.audio_parts.specs.AnyParts.{has_failed, held_of}
use Rattle.audio_parts.specs.ObjectLaws.{object_itself}
use Rattle.audio_parts.specs.Objects.{ObjectShows, ObjectStays}
use Rattle.il_graph.specs.Shown.{look_of}
use Rattle.il_graph.proofs.Returning.{are_terms_at, handed_back, terms_at}
use Rattle.play_graph.specs.Graphs.{kept_of}
use Rattle.play_run.specs.Playing.{PlayingValue}
use Rattle.play_plan_laws.specs.Assemblies.{play_cast_of}
use Rattle.play_run.proofs.Answering.{files_same, has_parts}
use Rattle.play_run.proofs.Commanding.{place_there, turn_there}
use Rattle.play_run.proofs.Recording.{still_there}
use Rattle.play_run.proofs.Stepping.{HasLines, failure_shows, files_stay_on, files_stayed_on, may_come, no_work_same, own_number, step_fails, step_turns, still_whole, unclaimed_turns, worked}
use Rattle.play_run.proofs.playing.Playing.step.Goals as goal

pub place-place-requires : goal.place-place-requires
place-place-requires g c = turn_there c.args.self.now c.args.component c.requires.plays c.requires.there

pub handle-h-requires-clause-there : goal.handle-h-requires-clause-there
handle-h-requires-clause-there g c = place_there c.args.self.now c.args.component c.place-place.result c.requires.plays c.requires.there c.place-place.ensures

pub handle-h-requires-clause-parts : goal.handle-h-requires-clause-parts
handle-h-requires-clause-parts g c = has_parts c.args.self.now c.requires.plays

pub returns-in-Err-clause-turned : goal.returns-in-Err-clause-turned
returns-in-Err-clause-turned g c =
    let h = c.handle-h.result in
    let t = terms_at h (look_of c.self.inside.graph) in
    let A = are_terms_at h (look_of c.self.inside.graph) in
    unclaimed_turns _ c.args.self.now c.self.view_is c.claim.new.self c.args.component c.place-place.result h (Err c.in-Err.field-0) c.requires.there c.place-place.ensures c.handle-h.ensures
    (λ w s. let v = c.in-Err.ensures.step t A w s in (v.0, v.2.0)) (λ work e. absurd cc) c.in-Err.ensures.unchanged

pub returns-in-None-clause-turned : goal.returns-in-None-clause-turned
returns-in-None-clause-turned g c =
    let h = c.handle-h.result in
    let t = terms_at h (look_of c.self.inside.graph) in
    let A = are_terms_at h (look_of c.self.inside.graph) in
    let none = c.in-None.ensures.none t in
    unclaimed_turns _ c.args.self.now c.self.view_is c.claim.new.self c.args.component c.place-place.result h _ c.requires.there c.place-place.ensures c.handle-h.ensures
    (λ w s. let v = c.in-Ok.ensures.step t A w s in (v.0, v.2.0)) (λ work e. none work cc) (no_work_same c.in-Ok.answer t none c.in-Ok.ensures.unchanged)

pub finish-requires-clause-comes : goal.finish-requires-clause-comes
finish-requires-clause-comes g c =
    let h = c.handle-h.result in
    let work = c.in-Some.work in
    let is = c.in-Some.ensures.some in
    let t = terms_at h (look_of c.self.inside.graph) in
    let A = are_terms_at h (look_of c.self.inside.graph) in
    let steps = rw is at c.in-Ok.ensures.step t A in
    let set_so = rw is at c.in-Ok.ensures.terms t A in
    let run = c.run-done.ensures in
    may_come (kept_of c.self.inside.graph) (kept_of c.claim.new.self) (kept_of c.claim.new.self) h t _ work c.run-done.result _ _ c.law_of_worlds.ensures.sound steps run.component set_so run.step run.announced (λ a. rw (run.unstepped a) refl) c.law_of_worlds.ensures.one

pub finish-requires-clause-handed : goal.finish-requires-clause-handed
finish-requires-clause-handed g c =
    let work = c.in-Some.work in
    handed_back c.handle-h.result.generation work.headers c.run-done.result.headers (look_of c.claim.new.self) (rw c.in-Some.ensures.some at c.in-Ok.ensures.lent) c.run-done.ensures.same

pub name_at-name-requires : goal.name_at-name-requires
name_at-name-requires g c =
    still_there _ c.args.self.now c.self.view_is c.place-place.result (place_there c.args.self.now c.args.component c.place-place.result c.requires.plays c.requires.there c.place-place.ensures)

pub returns-in-Err-clause-objects : goal.returns-in-Err-clause-objects
returns-in-Err-clause-objects g c = files_same (ObjectStays g.S.Source.name g.S.Source.size g.S.Source.told g.S.Source.ends g.S.Source.offset g.S.Source.faults g.K.Sink.name g.K.Sink.faults) (object_itself g.S.Source.name g.S.Source.size g.S.Source.told g.S.Source.ends g.S.Source.offset g.S.Source.faults g.K.Sink.name g.K.Sink.faults) _ c.args.self.now c.self.view_is c.claim.new.self c.self.inside.log c.in-Err.ensures.unchanged

pub returns-in-None-clause-objects : goal.returns-in-None-clause-objects
returns-in-None-clause-objects g c =
    let t = terms_at c.handle-h.result (look_of c.self.inside.graph) in
    files_same (ObjectStays g.S.Source.name g.S.Source.size g.S.Source.told g.S.Source.ends g.S.Source.offset g.S.Source.faults g.K.Sink.name g.K.Sink.faults) (object_itself g.S.Source.name g.S.Source.size g.S.Source.told g.S.Source.ends g.S.Source.offset g.S.Source.faults g.K.Sink.name g.K.Sink.faults) _ c.args.self.now c.self.view_is c.claim.new.self c.self.inside.log (no_work_same c.in-Ok.answer t (c.in-None.ensures.none t) c.in-Ok.ensures.unchanged)

pub returns-in-None-fault : goal.returns-in-None-fault
returns-in-None-fault g c =
    let h = c.handle-h.result in
    let work = c.in-Some.work in
    let is = c.in-Some.ensures.some in
    let t = terms_at h (look_of c.self.inside.graph) in
    let A = are_terms_at h (look_of c.self.inside.graph) in
    let steps = rw is at c.in-Ok.ensures.step t A in
    let set_so = rw is at c.in-Ok.ensures.terms t A in
    let its = rw is at c.in-Ok.ensures.component in
    let run = c.run-done.ensures in
    let done = worked (kept_of c.self.inside.graph) (kept_of c.claim.new.self) (kept_of c.finish.new.self) h t _ work c.run-done.result _ _ c.law_of_worlds.ensures.sound steps run.component set_so run.step run.announced (λ a. rw (run.unstepped a) refl) its None c.frames-frames.result (sym c.fault-fault.ensures ∙ c.in-None-fault.is) (sym c.frames-frames.ensures) c.finish.ensures.step in
    let lines : HasLines c.self.inside.plan.parts c.place-place.result c.frames-frames.result c.self.inside.log c.log_act-in-None-fault.new.log = record {
      name = c.name_at-name.result;
      named = c.name_at-name.ensures;
      first = c.claimed.result;
      says_first = c.claimed.ensures;
      between = c.log_act.new.log;
      told_first = c.log_act.ensures;
      second = c.finished.result;
      says_second = c.finished.ensures;
      told_second = c.log_act-in-None-fault.ensures;
    } in
    record {
      plan = ap (λ (x : PlayingValue g.row.S.Denot g.row.K.Denot). x.plan) c.self.view_is;
      objects =
          files_stay_on c.self.inside.graph c.claim.new.self c.finish.new.self c.args.self.now.graph (ap (λ (x : PlayingValue g.row.S.Denot g.row.K.Denot). x.graph) c.self.view_is) h c.run-done.result.component (run.component ∙ its) (held_of work.part) (held_of c.run-done.result.part)
          (rw is at c.in-Ok.ensures.whole) (rw is at c.in-Ok.ensures.file) c.finish.ensures.file (ObjectStays g.S.Source.name g.S.Source.size g.S.Source.told g.S.Source.ends g.S.Source.offset g.S.Source.faults g.K.Sink.name g.K.Sink.faults) (object_itself g.S.Source.name g.S.Source.size g.S.Source.told g.S.Source.ends g.S.Source.offset g.S.Source.faults g.K.Sink.name g.K.Sink.faults) c.claim.ensures.files c.finish.ensures.files run.kept
          (still_whole work.announces (has_failed work.part) (has_failed c.run-done.result.part) c.run-done.result.fault (rw is at c.in-Ok.ensures.whole) (sym c.fault-fault.ensures ∙ c.in-None-fault.is) run.failed (λ a. ap has_failed (run.unstepped a)));
      turned =
          step_turns _ c.args.self.now c.self.view_is c.claim.new.self c.finish.new.self c.args.component c.place-place.result h c.requires.there c.place-place.ensures c.handle-h.ensures
          c.law_of_worlds.ensures.closed c.claim.ensures.clients c.finish.ensures.clients
          (λ r recent p w v W b N s k later q H V e. c.law_of_component_streams.ensures.claimed (play_cast_of c.self.inside.plan) k recent later p q w v c.args.component h r W H V e b N s)
          c.log_act-in-None-fault.new.log c.frames-frames.result
          (λ recent p w v W b B k later q H V e. c.law_of_stepped_streams.ensures (play_cast_of c.self.inside.plan) k recent later p q w v c.args.component B.component B.work B.done W H V e b B.there B.out B.its B.does B.faults B.comes) lines done;
      failed = tt;
    }

pub returns-in-Some-fault-clause-failed : goal.returns-in-Some-fault-clause-failed
returns-in-Some-fault-clause-failed g c =
    let h = c.handle-h.result in
    let work = c.in-Some.work in
    let is = c.in-Some.ensures.some in
    let t = terms_at h (look_of c.self.inside.graph) in
    let A = are_terms_at h (look_of c.self.inside.graph) in
    let steps = rw is at c.in-Ok.ensures.step t A in
    let set_so = rw is at c.in-Ok.ensures.terms t A in
    let its = rw is at c.in-Ok.ensures.component in
    let run = c.run-done.ensures in
    let done = worked (kept_of c.self.inside.graph) (kept_of c.claim.new.self) (kept_of c.finish.new.self) h t _ work c.run-done.result _ _ c.law_of_worlds.ensures.sound steps run.component set_so run.step run.announced (λ a. rw (run.unstepped a) refl) its (Some c.in-Some-fault.fault) c.frames-frames.result (sym c.fault-fault.ensures ∙ c.in-Some-fault.is) (sym c.frames-frames.ensures) c.finish.ensures.step in
    let own = own_number c.args.self.now c.args.component c.place-place.result h c.requires.there c.place-place.ensures c.handle-h.ensures c.requires.plays in
    let viewed = ap (λ (x : PlayingValue g.row.S.Denot g.row.K.Denot). x.graph) c.self.view_is in
    let before = held_of work.part in
    let after = held_of c.run-done.result.part in
    let whole = rw is at c.in-Ok.ensures.whole in
    let file = rw is at c.in-Ok.ensures.file in
    let objects =
    files_stayed_on c.self.inside.graph c.claim.new.self c.finish.new.self c.args.self.now.graph viewed h c.run-done.result.component (run.component ∙ its) before after whole file c.finish.ensures.file
    (ObjectStays g.S.Source.name g.S.Source.size g.S.Source.told g.S.Source.ends g.S.Source.offset g.S.Source.faults g.K.Sink.name g.K.Sink.faults) (object_itself g.S.Source.name g.S.Source.size g.S.Source.told g.S.Source.ends g.S.Source.offset g.S.Source.faults g.K.Sink.name g.K.Sink.faults) c.claim.ensures.files c.finish.ensures.files run.kept in
    let shows =
    failure_shows c.self.inside.graph c.claim.new.self c.finish.new.self c.args.self.now.graph viewed h c.run-done.result.component (run.component ∙ its) before after whole file c.finish.ensures.file
    (ObjectShows g.S.Source.size g.S.Source.ends g.S.Source.offset g.S.Source.faults g.K.Sink.faults) c.place-place.result own c.run-done.result.fault c.in-Some-fault.fault (sym c.fault-fault.ensures ∙ c.in-Some-fault.is) run.shows in
    step_fails _ c.args.self.now c.self.view_is c.claim.new.self c.finish.new.self c.args.component c.place-place.result h c.requires.there c.place-place.ensures c.handle-h.ensures
    c.law_of_worlds.ensures.closed c.claim.ensures.clients c.finish.ensures.clients
    (λ r recent p w v W b N s k later q H V e. c.law_of_component_streams.ensures.claimed (play_cast_of c.self.inside.plan) k recent later p q w v c.args.component h r W H V e b N s)
    c.log_act.new.log c.frames-frames.result c.in-Some-fault.fault
    (λ recent p w v W b B k H stream Q. c.law_of_written_streams.ensures.failed (play_cast_of c.self.inside.plan) k recent p w v c.args.component B.component B.work B.done c.in-Some-fault.fault stream W H Q b B.there B.out B.its B.does B.faults B.comes) done objects shows
