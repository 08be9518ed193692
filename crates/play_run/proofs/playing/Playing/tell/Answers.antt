use Rattle.std.proofs.Common.{◌≡◌, Ok, subst}
use Rattle.il_machine.specs.declared.answer.Progress.{Progress}
use Rattle.il_machine.specs.Notes.{TakeNote}
use Rattle.il_machine.specs.Whole.{Steps}
use Rattle.note_queues.specs.declared.taken.Took.{Took}
use Rattle.note_queues.specs.Queues.{took_of}
use Rattle.graph_core.specs.Changes.{OnNoNote}
use Rattle.graph_core.specs.Clients.{TakesClient}
use Rattle.play_graph.specs.Graphs.{kept_of}
use Rattle.play_plan_laws.specs.Assemblies.{play_cast_of}
use Rattle.play_run.proofs.Answering.{has_parts}
use Rattle.play_run.proofs.Commanding.{place_there, turn_there}
use Rattle.play_run.proofs.Recording.{still_there}
use Rattle.play_run.proofs.Telling.{HasLines, event_for, tell_turns, untold_turns}
use Rattle.play_run.proofs.playing.Playing.tell.Goals as goal

pub place-place-requires : goal.place-place-requires
place-place-requires g c = turn_there c.args.self.now c.args.component c.requires.plays c.requires.there

pub handle-h-requires-clause-there : goal.handle-h-requires-clause-there
handle-h-requires-clause-there g c = place_there c.args.self.now c.args.component c.place-place.result c.requires.plays c.requires.there c.place-place.ensures

pub handle-h-requires-clause-parts : goal.handle-h-requires-clause-parts
handle-h-requires-clause-parts g c = has_parts c.args.self.now c.requires.plays

pub name_at-name-requires : goal.name_at-name-requires
name_at-name-requires g c =
    still_there _ c.args.self.now c.self.view_is c.place-place.result (place_there c.args.self.now c.args.component c.place-place.result c.requires.plays c.requires.there c.place-place.ensures)

pub event_of-event-requires : goal.event_of-event-requires
event_of-event-requires g c =
    let step = subst (λ (t : Took Progress). Steps (kept_of c.self.inside.graph) (kept_of c.take_note.new.self) (λ w v. TakeNote w c.handle-h.result (Ok (took_of t)) v)) c.in-Ok-Call.field-0-is c.in-Ok-Call.ensures.step in
    event_for _ c.args.self.now c.self.view_is c.take_note.new.self c.args.component c.place-place.result c.handle-h.result c.in-Ok-Call.call.taken c.requires.there c.place-place.ensures c.handle-h.ensures c.requires.plays step c.law_of_worlds.ensures.closed

pub returns-in-Ok-Call-clause-turned : goal.returns-in-Ok-Call-clause-turned
returns-in-Ok-Call-clause-turned g c =
    let step = subst (λ (t : Took Progress). Steps (kept_of c.self.inside.graph) (kept_of c.take_note.new.self) (λ w v. TakeNote w c.handle-h.result (Ok (took_of t)) v)) c.in-Ok-Call.field-0-is c.in-Ok-Call.ensures.step in
    let client = subst (λ (t : Took Progress). TakesClient c.handle-h.result c.self.inside.graph.core t c.take_note.new.self.core) c.in-Ok-Call.field-0-is c.in-Ok-Call.ensures.client in
    let lines : HasLines c.self.inside.plan.parts c.place-place.result c.event_of-event.result c.self.inside.log c.log_act-in-Ok-Call.new.log = record {
      name = c.name_at-name.result;
      named = c.name_at-name.ensures;
      first = c.took.result;
      says_first = c.took.ensures;
      between = c.log_act.new.log;
      told_first = c.log_act.ensures;
      second = c.ended.result;
      says_second = c.ended.ensures;
      told_second = c.log_act-in-Ok-Call.ensures;
    } in
    tell_turns _ c.args.self.now c.self.view_is c.take_note.new.self c.end_note.new.self c.log_act-in-Ok-Call.new.log c.args.component c.place-place.result c.handle-h.result c.in-Ok-Call.call.taken c.event_of-event.result c.in-Ok-Call.call.client c.told_of.result
    c.requires.there c.place-place.ensures c.handle-h.ensures step c.law_of_worlds.ensures.closed c.event_of-event.ensures c.told_of.ensures lines c.law_of_worlds.ensures.told client.0 c.take_note.ensures.clients c.end_note.ensures.clients c.end_note.ensures.client
    (λ recent p w v W b N s k later q H V e. c.law_of_component_streams.ensures.told (play_cast_of c.self.inside.plan) k recent later p q w v c.args.component c.handle-h.result _ W H V e b N s)
    (λ recent p w v W b N s k later q H V e. c.law_of_component_streams.ensures.heard (play_cast_of c.self.inside.plan) k recent later p q w v c.args.component c.handle-h.result W H V e b N s) c.end_note.ensures.step

pub returns-in-Ok-None-clause-turned : goal.returns-in-Ok-None-clause-turned
returns-in-Ok-None-clause-turned g c =
    let step = subst (λ (t : Took Progress). Steps (kept_of c.self.inside.graph) (kept_of c.take_note.new.self) (λ w v. TakeNote w c.handle-h.result (Ok (took_of t)) v)) c.in-Ok-None.field-0-is c.in-Ok-None.ensures.step in
    untold_turns _ c.args.self.now c.self.view_is c.take_note.new.self c.args.component c.place-place.result c.handle-h.result _ c.requires.there c.place-place.ensures c.handle-h.ensures step (λ taken e. absurd cc) (subst (λ (t : Took Progress). OnNoNote t (c.take_note.new.self ≡ c.self.inside.graph)) c.in-Ok-None.field-0-is c.in-Ok-None.ensures.idle)

pub returns-in-Ok-Busy-clause-turned : goal.returns-in-Ok-Busy-clause-turned
returns-in-Ok-Busy-clause-turned g c =
    let step = subst (λ (t : Took Progress). Steps (kept_of c.self.inside.graph) (kept_of c.take_note.new.self) (λ w v. TakeNote w c.handle-h.result (Ok (took_of t)) v)) c.in-Ok-Busy.field-0-is c.in-Ok-Busy.ensures.step in
    untold_turns _ c.args.self.now c.self.view_is c.take_note.new.self c.args.component c.place-place.result c.handle-h.result _ c.requires.there c.place-place.ensures c.handle-h.ensures step (λ taken e. absurd cc) (subst (λ (t : Took Progress). OnNoNote t (c.take_note.new.self ≡ c.self.inside.graph)) c.in-Ok-Busy.field-0-is c.in-Ok-Busy.ensures.idle)

pub returns-in-Err-clause-turned : goal.returns-in-Err-clause-turned
returns-in-Err-clause-turned g c =
    untold_turns _ c.args.self.now c.self.view_is c.take_note.new.self c.args.component c.place-place.result c.handle-h.result _ c.requires.there c.place-place.ensures c.handle-h.ensures c.in-Err.ensures.step (λ taken e. absurd cc) c.in-Err.ensures.unchanged
