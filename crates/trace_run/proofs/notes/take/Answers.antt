use Rattle.std.proofs.Common.{Ok, Err, refl, subst}
use Rattle.il_machine.specs.declared.answer.Progress.{Progress}
use Rattle.il_machine.specs.Notes.{TookNone, TookBusy, TakeNote}
use Rattle.il_machine.specs.Whole.{Steps}
use Rattle.note_queues.specs.declared.taken.Took.{Took}
use Rattle.note_queues.specs.Queues.{took_of}
use Rattle.graph_core.specs.Clients.{TakesClient}
use Rattle.il_graph.specs.HandedIn.{IsTookHandedOut}
use Rattle.il_graph.specs.Stood.{IsTookDone}
use Rattle.act_text.specs.declared.reply.TextReply.TheVariants as texts
use Rattle.trace_run.specs.Standing.{client_progress, graph_kept}
use Rattle.trace_run.proofs.Taking.{call_taken, nothing_taken, has_slot, is_out}
use Rattle.trace_run.proofs.notes.take.Goals as goal

pub end-requires-clause-out : goal.end-requires-clause-out
end-requires-clause-out c =
    let old = graph_kept c.args.graph.now in
    let mid = graph_kept c.take_note.new.self in
    let step = subst (λ (t : Took Progress). Steps old mid (λ w v. TakeNote w c.args.h (Ok (took_of t)) v)) c.in-Ok-Call.field-0-is c.in-Ok-Call.ensures.step in
    is_out c.args.slots.now.items old mid c.args.h c.in-Ok-Call.call.taken c.requires step

pub end-requires-clause-told : goal.end-requires-clause-told
end-requires-clause-told c = subst (λ (t : Took Progress). IsTookDone client_progress t) c.in-Ok-Call.field-0-is c.in-Ok-Call.ensures.done

pub end-requires-clause-slot : goal.end-requires-clause-slot
end-requires-clause-slot c =
    let old = graph_kept c.args.graph.now in
    let mid = graph_kept c.take_note.new.self in
    let step = subst (λ (t : Took Progress). Steps old mid (λ w v. TakeNote w c.args.h (Ok (took_of t)) v)) c.in-Ok-Call.field-0-is c.in-Ok-Call.ensures.step in
    let handed = subst (λ (t : Took Progress). IsTookHandedOut old.looks mid.looks t) c.in-Ok-Call.field-0-is c.in-Ok-Call.ensures.handed in
    has_slot c.args.slots.now.items old mid c.args.h c.in-Ok-Call.call.taken c.requires step handed

pub returns-in-Ok-Call : goal.returns-in-Ok-Call
returns-in-Ok-Call c components =
    let call = c.in-Ok-Call.call in
    let is = c.in-Ok-Call.field-0-is in
    let old = graph_kept c.args.graph.now in
    let mid = graph_kept c.take_note.new.self in
    let step = subst (λ (t : Took Progress). Steps old mid (λ w v. TakeNote w c.args.h (Ok (took_of t)) v)) is c.in-Ok-Call.ensures.step in
    let client = subst (λ (t : Took Progress). TakesClient c.args.h c.args.graph.now.core t c.take_note.new.self.core) is c.in-Ok-Call.ensures.client in
    let handed = subst (λ (t : Took Progress). IsTookHandedOut old.looks mid.looks t) is c.in-Ok-Call.ensures.handed in
    call_taken components c.args.slots.now.items c.end.new.slots.items old mid (graph_kept c.end.new.graph) c.args.h call.client call.taken c.end.result
    step (λ w S. c.law_of_worlds.ensures.told w S c.args.h call.client client.0) handed c.end.ensures.step c.end.ensures.kept

pub returns-in-Ok-None : goal.returns-in-Ok-None
returns-in-Ok-None c components =
    let old = graph_kept c.args.graph.now in
    let new = graph_kept c.take_note.new.self in
    let step = subst (λ (t : Took Progress). Steps old new (λ w v. TakeNote w c.args.h (Ok (took_of t)) v)) c.in-Ok-None.field-0-is c.in-Ok-None.ensures.step in
    nothing_taken components c.args.slots.now.items old new c.args.h (Ok TookNone) texts.NoNote refl (λ names. refl) (λ names. refl) step

pub returns-in-Ok-Busy : goal.returns-in-Ok-Busy
returns-in-Ok-Busy c components =
    let old = graph_kept c.args.graph.now in
    let new = graph_kept c.take_note.new.self in
    let step = subst (λ (t : Took Progress). Steps old new (λ w v. TakeNote w c.args.h (Ok (took_of t)) v)) c.in-Ok-Busy.field-0-is c.in-Ok-Busy.ensures.step in
    nothing_taken components c.args.slots.now.items old new c.args.h (Ok TookBusy) texts.Busy refl (λ names. refl) (λ names. refl) step

pub returns-in-Err : goal.returns-in-Err
returns-in-Err c components = nothing_taken components c.args.slots.now.items (graph_kept c.args.graph.now) (graph_kept c.take_note.new.self) c.args.h (Err c.in-Err.error) (texts.Error c.in-Err.error) refl (λ names. refl) (λ names. refl) c.in-Err.ensures.step
