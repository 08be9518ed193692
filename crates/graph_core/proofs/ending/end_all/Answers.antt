use Rattle.std.proofs.Common.{◌≡◌, List, [], ◌∷◌, ◌++◌, ◌∙◌, ap, arith, subst}
use Rattle.std.specs.Prelude.{IsSome}
use Rattle.machine_laws.proofs.Every.{at_place}
use Rattle.il_machine.specs.Whole.{Noticed}
use Rattle.std.proofs.lemmas.List.{append-nil}
use Rattle.note_queues.specs.declared.taken.Taken.{Taken}
use Rattle.il_component.specs.Entries.{Entry, held_in}
use Rattle.port_stock.specs.Kept.{stocked}
use Rattle.graph_core.specs.Entries.{noticed_in, held_by}
use Rattle.graph_core.specs.Ending.{AreOutside}
use Rattle.graph_core.proofs.Unmaking.{all_wait, each_from, each_last, each_left, none_left, noticed_last}
use Rattle.graph_core.proofs.ending.end_all.Goals as goal

pub loop-component-init : goal.loop-component-init
loop-component-init g c = record {
  held = c.requires.held;
  clients = each_from (λ (e : Entry (g.row.C.Denot)). IsSome e.queues.client) c.args.components.items (λ i e t. at_place (λ (e : Entry (g.row.C.Denot)). IsSome e.queues.client) c.args.components.items i e c.requires.clients t);
}

pub end_notes-requires-clause-client : goal.end_notes-requires-clause-client
end_notes-requires-clause-client g c = each_last (λ (e : Entry (g.row.C.Denot)). IsSome e.queues.client) c.pop.new.self.items c.in-Some.component (rw c.in-Some.ensures.items at c.loop-component.invariant.clients)

pub end_notes-requires-clause-held : goal.end_notes-requires-clause-held
end_notes-requires-clause-held g c =
    let held = rw c.in-Some.ensures.items at c.loop-component.invariant.held in
    (noticed_in c.pop.new.self.items, subst (λ (hs : List Noticed). AreOutside hs (stocked c.loop-component.stock)) (noticed_last c.pop.new.self.items c.in-Some.component) held)

pub loop-component-preserved : goal.loop-component-preserved
loop-component-preserved g c =
    let held = rw c.in-Some.ensures.items at c.loop-component.invariant.held in
    let before = subst (λ (hs : List Noticed). AreOutside hs (stocked c.loop-component.stock)) (noticed_last c.pop.new.self.items c.in-Some.component) held in
    let rest = noticed_in c.pop.new.self.items in
    let gone : rest ++ held_by c.end_notes.new.component ≡ rest = ap (λ (ts : List Taken). rest ++ held_in ts) c.end_notes.ensures.none ∙ append-nil rest in
    record {
      held = subst (λ (hs : List Noticed). AreOutside hs (stocked c.end_notes.new.stock)) gone (c.end_notes.ensures.others rest before);
      clients = each_left (λ (e : Entry (g.row.C.Denot)). IsSome e.queues.client) c.pop.new.self.items (c.in-Some.component ∷ []) (rw c.in-Some.ensures.items at c.loop-component.invariant.clients);
    }

pub returns : goal.returns
returns g c =
    let l = c.loop-component.components.ok.0 in
    all_wait (stocked c.loop-component.stock) (none_left c.loop-component.components.items (stocked c.loop-component.stock) (omega (arith, c.in_default.ensures)) c.loop-component.invariant.held)
