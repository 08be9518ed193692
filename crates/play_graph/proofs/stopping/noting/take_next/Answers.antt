use Rattle.std.proofs.Common.{◌≡◌, Ok, subst, ◌∙◌}
use Rattle.il_machine.specs.declared.answer.Progress.{Progress}
use Rattle.il_machine.specs.Notes.{TakeNote}
use Rattle.il_machine.specs.Whole.{Steps}
use Rattle.note_queues.specs.declared.taken.Took.{Took}
use Rattle.note_queues.specs.Queues.{took_of}
use Rattle.graph_core.specs.Changes.{OnNoNote}
use Rattle.graph_core.specs.Clients.{TakesClient}
use Rattle.play_graph.specs.Graphs.{kept_of}
use Rattle.play_graph.proofs.Noted.{event_in, heard_in, none_left, note_fewer, note_steps}
use Rattle.play_graph.proofs.stopping.noting.take_next.Goals as goal

pub told_of-client-requires : goal.told_of-client-requires
told_of-client-requires g c =
    let step = subst (λ (t : Took Progress). Steps (kept_of c.args.graph.now) (kept_of c.take_note.new.self) (λ w v. TakeNote w c.handle-h.result (Ok (took_of t)) v)) c.in-Ok-Call.field-0-is c.in-Ok-Call.ensures.step in
    event_in c.args.place c.args.graph.now c.take_note.new.self c.handle-h.result c.handle-h.ensures c.in-Ok-Call.call.taken c.law_of_worlds.ensures.closed step c.requires

pub unreachable-requires : goal.unreachable-requires
unreachable-requires g c =
    let step = subst (λ (t : Took Progress). Steps (kept_of c.args.graph.now) (kept_of c.take_note.new.self) (λ w v. TakeNote w c.handle-h.result (Ok (took_of t)) v)) c.in-Ok-Busy.field-0-is c.in-Ok-Busy.ensures.step in
    heard_in c.args.place c.args.graph.now c.take_note.new.self c.handle-h.result c.handle-h.ensures _ c.requires step

pub unreachable-requires-in-Err : goal.unreachable-requires-in-Err
unreachable-requires-in-Err g c = heard_in c.args.place c.args.graph.now c.take_note.new.self c.handle-h.result c.handle-h.ensures _ c.requires c.in-Err.ensures.step

pub returns-in-Ok-Call-clause-steps : goal.returns-in-Ok-Call-clause-steps
returns-in-Ok-Call-clause-steps g c =
    let step = subst (λ (t : Took Progress). Steps (kept_of c.args.graph.now) (kept_of c.take_note.new.self) (λ w v. TakeNote w c.handle-h.result (Ok (took_of t)) v)) c.in-Ok-Call.field-0-is c.in-Ok-Call.ensures.step in
    let client = subst (λ (t : Took Progress). TakesClient c.handle-h.result c.args.graph.now.core t c.take_note.new.self.core) c.in-Ok-Call.field-0-is c.in-Ok-Call.ensures.client in
    note_steps c.args.place c.args.graph.now c.take_note.new.self c.handle-h.result c.handle-h.ensures c.in-Ok-Call.call.taken c.law_of_worlds.ensures.closed step c.end_note.new.self c.in-Ok-Call.call.client c.told_of-client.result
    c.told_of-client.ensures c.law_of_worlds.ensures.told client.0 c.end_note.ensures.step

pub returns-in-Ok-Call-clause-fewer : goal.returns-in-Ok-Call-clause-fewer
returns-in-Ok-Call-clause-fewer g c = λ t.
    let step = subst (λ (t : Took Progress). Steps (kept_of c.args.graph.now) (kept_of c.take_note.new.self) (λ w v. TakeNote w c.handle-h.result (Ok (took_of t)) v)) c.in-Ok-Call.field-0-is c.in-Ok-Call.ensures.step in
    let client = subst (λ (t : Took Progress). TakesClient c.handle-h.result c.args.graph.now.core t c.take_note.new.self.core) c.in-Ok-Call.field-0-is c.in-Ok-Call.ensures.client in
    note_fewer c.args.place c.args.graph.now c.take_note.new.self c.handle-h.result c.handle-h.ensures c.in-Ok-Call.call.taken c.law_of_worlds.ensures.closed step c.end_note.new.self c.in-Ok-Call.call.client c.told_of-client.result
    c.told_of-client.ensures c.law_of_worlds.ensures.told client.0 c.end_note.ensures.step c.requires

pub returns-in-Ok-None-clause-none : goal.returns-in-Ok-None-clause-none
returns-in-Ok-None-clause-none g c = λ f.
    let step = subst (λ (t : Took Progress). Steps (kept_of c.args.graph.now) (kept_of c.take_note.new.self) (λ w v. TakeNote w c.handle-h.result (Ok (took_of t)) v)) c.in-Ok-None.field-0-is c.in-Ok-None.ensures.step in
    let same = subst (λ (t : Took Progress). OnNoNote t (c.take_note.new.self ≡ c.args.graph.now)) c.in-Ok-None.field-0-is c.in-Ok-None.ensures.idle in
    none_left c.args.place c.args.graph.now c.take_note.new.self c.handle-h.result c.handle-h.ensures c.requires step same

pub returns-in-Ok-Call-clause-files : goal.returns-in-Ok-Call-clause-files
returns-in-Ok-Call-clause-files g c = λ number. c.end_note.ensures.files number ∙ c.take_note.ensures.files number
