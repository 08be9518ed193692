use Rattle.std.proofs.Common.{◌∙◌}
use Rattle.audio_parts.specs.ObjectLaws.{object_further, object_itself, shows_earlier}
use Rattle.audio_parts.specs.Objects.{ObjectShows, ObjectStays}
use Rattle.il_graph.specs.Shown.{file_of}
use Rattle.play_loop.specs.Turns.{IsOfComponent}
use Rattle.play_world_laws.specs.Tellings.{IsTellingOf}
use Rattle.play_turn_laws.specs.Turns.{IsRunOf}
use Rattle.play_run.specs.Playing.{FilesStay, layout_of, unfailed}
use Rattle.play_run.specs.Leading.{fails_on, leads_on}
use Rattle.play_run.proofs.Answering.{files_stay, leads_of, turned_of}
use Rattle.play_run.proofs.Rounding.{actor_turn, some_next, wants_memory}
use Rattle.play_run.proofs.player.PlayingTakeTurns.component_turn.Goals as goal

pub run-ran-requires-clause-plays : goal.run-ran-requires-clause-plays
run-ran-requires-clause-plays g c = some_next c.args.self.now c.tell-told.new.self c.tell-told.result (IsTellingOf (layout_of c.args.self.now.plan) c.args.component) c.tell-told.ensures.turned c.requires.plays

pub step-requires-clause-plays : goal.step-requires-clause-plays
step-requires-clause-plays g c =
    let some = some_next c.args.self.now c.tell-told.new.self c.tell-told.result (IsTellingOf (layout_of c.args.self.now.plan) c.args.component) c.tell-told.ensures.turned c.requires.plays in
    some_next c.tell-told.new.self c.run-ran.new.self c.run-ran.result (IsRunOf (layout_of c.tell-told.new.self.plan) c.args.component) c.run-ran.ensures.turned some

pub returns-then-not-is_logged-clause-failed : goal.returns-then-not-is_logged-clause-failed
returns-then-not-is_logged-clause-failed g c =
    let x = c.args.self.now in
    let a = c.tell-told in
    let b = c.run-ran in
    let leads = leads_on (ObjectStays g.S.Source.name g.S.Source.size g.S.Source.told g.S.Source.ends g.S.Source.offset g.S.Source.faults g.K.Sink.name g.K.Sink.faults) (ObjectShows g.S.Source.size g.S.Source.ends g.S.Source.offset g.S.Source.faults g.K.Sink.faults) (object_further g.S.Source.name g.S.Source.size g.S.Source.told g.S.Source.ends g.S.Source.offset g.S.Source.faults g.K.Sink.name g.K.Sink.faults) x a.new.self b.new.self
    (leads_of (ObjectStays g.S.Source.name g.S.Source.size g.S.Source.told g.S.Source.ends g.S.Source.offset g.S.Source.faults g.K.Sink.name g.K.Sink.faults) x a.new.self a.result (IsTellingOf (layout_of c.args.self.now.plan) c.args.component) a.ensures.plan (files_stay (ObjectStays g.S.Source.name g.S.Source.size g.S.Source.told g.S.Source.ends g.S.Source.offset g.S.Source.faults g.K.Sink.name g.K.Sink.faults) (object_itself g.S.Source.name g.S.Source.size g.S.Source.told g.S.Source.ends g.S.Source.offset g.S.Source.faults g.K.Sink.name g.K.Sink.faults) x a.new.self a.ensures.files) a.ensures.turned)
    (leads_of (ObjectStays g.S.Source.name g.S.Source.size g.S.Source.told g.S.Source.ends g.S.Source.offset g.S.Source.faults g.K.Sink.name g.K.Sink.faults) a.new.self b.new.self b.result (IsRunOf (layout_of c.tell-told.new.self.plan) c.args.component) b.ensures.plan (files_stay (ObjectStays g.S.Source.name g.S.Source.size g.S.Source.told g.S.Source.ends g.S.Source.offset g.S.Source.faults g.K.Sink.name g.K.Sink.faults) (object_itself g.S.Source.name g.S.Source.size g.S.Source.told g.S.Source.ends g.S.Source.offset g.S.Source.faults g.K.Sink.name g.K.Sink.faults) a.new.self b.new.self b.ensures.files) b.ensures.turned) in
    (leads, wants_memory b.new.self.log.broken c.is_logged.result c.is_logged.ensures.1 c.if-not-is_logged.true)

pub returns-in-Ok-clause-turned : goal.returns-in-Ok-clause-turned
returns-in-Ok-clause-turned g c =
    let x = c.args.self.now in
    let a = c.tell-told in
    let b = c.run-ran in
    turned_of x c.step.new.self _ (IsOfComponent (layout_of x.plan) c.args.component)
    (actor_turn x a.new.self b.new.self c.step.new.self c.args.component a.result b.result c.in-Ok.stepped a.ensures.plan b.ensures.plan a.ensures.turned b.ensures.turned c.in-Ok.ensures.turned)

pub returns-in-Ok-clause-leads : goal.returns-in-Ok-clause-leads
returns-in-Ok-clause-leads g c =
    let x = c.args.self.now in
    let a = c.tell-told in
    let b = c.run-ran in
    let two : FilesStay (ObjectStays g.S.Source.name g.S.Source.size g.S.Source.told g.S.Source.ends g.S.Source.offset g.S.Source.faults g.K.Sink.name g.K.Sink.faults) x b.new.self = files_stay (ObjectStays g.S.Source.name g.S.Source.size g.S.Source.told g.S.Source.ends g.S.Source.offset g.S.Source.faults g.K.Sink.name g.K.Sink.faults) (object_itself g.S.Source.name g.S.Source.size g.S.Source.told g.S.Source.ends g.S.Source.offset g.S.Source.faults g.K.Sink.name g.K.Sink.faults) x b.new.self (λ n. b.ensures.files n ∙ a.ensures.files n) in
    leads_of (ObjectStays g.S.Source.name g.S.Source.size g.S.Source.told g.S.Source.ends g.S.Source.offset g.S.Source.faults g.K.Sink.name g.K.Sink.faults) x c.step.new.self _ (IsOfComponent (layout_of x.plan) c.args.component) (c.step.ensures.plan ∙ (b.ensures.plan ∙ a.ensures.plan))
    (λ n. object_further _ _ _ _ _ _ _ _ (unfailed (file_of n x.graph)) (unfailed (file_of n b.new.self.graph)) (unfailed (file_of n c.step.new.self.graph)) (two n) (c.in-Ok.ensures.objects n))
    (actor_turn x a.new.self b.new.self c.step.new.self c.args.component a.result b.result c.in-Ok.stepped a.ensures.plan b.ensures.plan a.ensures.turned b.ensures.turned c.in-Ok.ensures.turned)

pub returns-in-Err-clause-failed : goal.returns-in-Err-clause-failed
returns-in-Err-clause-failed g c =
    let x = c.args.self.now in
    let a = c.tell-told in
    let b = c.run-ran in
    let leads = leads_on (ObjectStays g.S.Source.name g.S.Source.size g.S.Source.told g.S.Source.ends g.S.Source.offset g.S.Source.faults g.K.Sink.name g.K.Sink.faults) (ObjectShows g.S.Source.size g.S.Source.ends g.S.Source.offset g.S.Source.faults g.K.Sink.faults) (object_further g.S.Source.name g.S.Source.size g.S.Source.told g.S.Source.ends g.S.Source.offset g.S.Source.faults g.K.Sink.name g.K.Sink.faults) x a.new.self b.new.self
    (leads_of (ObjectStays g.S.Source.name g.S.Source.size g.S.Source.told g.S.Source.ends g.S.Source.offset g.S.Source.faults g.K.Sink.name g.K.Sink.faults) x a.new.self a.result (IsTellingOf (layout_of c.args.self.now.plan) c.args.component) a.ensures.plan (files_stay (ObjectStays g.S.Source.name g.S.Source.size g.S.Source.told g.S.Source.ends g.S.Source.offset g.S.Source.faults g.K.Sink.name g.K.Sink.faults) (object_itself g.S.Source.name g.S.Source.size g.S.Source.told g.S.Source.ends g.S.Source.offset g.S.Source.faults g.K.Sink.name g.K.Sink.faults) x a.new.self a.ensures.files) a.ensures.turned)
    (leads_of (ObjectStays g.S.Source.name g.S.Source.size g.S.Source.told g.S.Source.ends g.S.Source.offset g.S.Source.faults g.K.Sink.name g.K.Sink.faults) a.new.self b.new.self b.result (IsRunOf (layout_of c.tell-told.new.self.plan) c.args.component) b.ensures.plan (files_stay (ObjectStays g.S.Source.name g.S.Source.size g.S.Source.told g.S.Source.ends g.S.Source.offset g.S.Source.faults g.K.Sink.name g.K.Sink.faults) (object_itself g.S.Source.name g.S.Source.size g.S.Source.told g.S.Source.ends g.S.Source.offset g.S.Source.faults g.K.Sink.name g.K.Sink.faults) a.new.self b.new.self b.ensures.files) b.ensures.turned) in
    fails_on (ObjectStays g.S.Source.name g.S.Source.size g.S.Source.told g.S.Source.ends g.S.Source.offset g.S.Source.faults g.K.Sink.name g.K.Sink.faults) (ObjectShows g.S.Source.size g.S.Source.ends g.S.Source.offset g.S.Source.faults g.K.Sink.faults) (object_further g.S.Source.name g.S.Source.size g.S.Source.told g.S.Source.ends g.S.Source.offset g.S.Source.faults g.K.Sink.name g.K.Sink.faults) (shows_earlier g.S.Source.name g.S.Source.size g.S.Source.told g.S.Source.ends g.S.Source.offset g.S.Source.faults g.K.Sink.name g.K.Sink.faults) x b.new.self c.step.new.self c.in-Err.failure leads c.in-Err.ensures.failed
