use Rattle.std.proofs.Common.{◌≡◌, List, ◌∷◌, ◌++◌, drop, sym, ◌∙◌, ap, subst}
use Rattle.note_queues.specs.declared.taken.Taken.{Taken}
use Rattle.note_queues.specs.declared.taken.Took.{Took}
use Rattle.note_queues.specs.Queues.{left_by}
use Rattle.il_component.specs.Entries.{Entry, held_in}
use Rattle.port_stock.specs.Kept.{stocked}
use Rattle.graph_core.specs.Ending.{AreOutside, without_taken}
use Rattle.graph_core.proofs.Unmaking.{outside_front, taken_front, without_front}
use Rattle.graph_core.proofs.ending.end_next.Goals as goal

pub end_taken-requires : goal.end_taken-requires
end_taken-requires g c =
    let q = c.args.component.now.queues in
    let call = c.in-Call.call in
    let s = stocked c.args.stock.now in
    let front : q.notes ≡ call.taken ∷ drop 1 q.notes = taken_front q.client q.notes call c.in-Call.ensures.took in
    let held = c.requires.held in
    outside_front s held.0 call.taken (drop 1 q.notes) (subst (λ (ts : List Taken). AreOutside (held.0 ++ held_in ts) s) front held.1)

pub returns-in-Call-clause-others : goal.returns-in-Call-clause-others
returns-in-Call-clause-others g c = λ rest held.
    let q = c.args.component.now.queues in
    let call = c.in-Call.call in
    let s = stocked c.args.stock.now in
    let front : q.notes ≡ call.taken ∷ drop 1 q.notes = taken_front q.client q.notes call c.in-Call.ensures.took in
    let notes : c.put_client.new.self.queues.notes ≡ drop 1 q.notes
    = ap (λ (e : Entry (g.row.C.Denot)). e.queues.notes) c.put_client.ensures
    ∙ (ap (λ (e : Entry (g.row.C.Denot)). e.queues.notes) c.take.ensures.left ∙ ap (λ (t : Took (g.row.C.Denot)). (left_by t q).notes) (sym c.in-Call.ensures.took)) in
    let left = without_front s rest call.taken (drop 1 q.notes) (subst (λ (ts : List Taken). AreOutside (rest ++ held_in ts) s) front held) in
    rw c.end_taken.ensures (subst (λ (ts : List Taken). AreOutside (rest ++ held_in ts) (without_taken call.taken s)) (sym notes) left)
