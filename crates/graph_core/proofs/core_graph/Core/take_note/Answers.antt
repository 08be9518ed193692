use Rattle.std.proofs.Common.{◌≡◌, ◌⊎◌, ℕ, slice_get, Some, refl, sym, ◌∙◌, ap, inl, inr}
use Rattle.il_machine.specs.declared.header.Owner.TheVariants as owners
use Rattle.il_machine.specs.Stock.{Stocked, header_given}
use Rattle.note_queues.specs.declared.taken.Call.{Call}
use Rattle.note_queues.specs.declared.taken.Took.{Took}
use Rattle.note_queues.specs.declared.taken.Took.TheVariants as tooks
use Rattle.port_stock.specs.Kept.{stocked}
use Rattle.il_component.specs.Entries.{Entry, component_of}
use Rattle.graph_core.specs.Entries.{Entries}
use Rattle.graph_core.proofs.Clients.{others_set}
use Rattle.graph_core.proofs.Renumbered.{own_place}
use Rattle.graph_core.proofs.Replacing.{there}
use Rattle.graph_core.proofs.TakenClients.{call_client, no_call_client}
use Rattle.graph_core.proofs.Taking.{call_worlds, done_worlds, done_out, call_returns, done_returns, none_returns, none_entries, none_unchanged}
use Rattle.graph_core.proofs.Cores.{core_with}
use Rattle.graph_core.proofs.Found.{bounds_of, found_of}
use Rattle.graph_core.proofs.Gathered.{gathered}
use Rattle.graph_core.proofs.core_graph.Core.take_note.Goals as goal

pub index_mut-component-requires : goal.index_mut-component-requires
index_mut-component-requires g c =
    let i = c.self.inside in
    bounds_of g.C.Client.progress (gathered i.components.items i.stock i.book i.registry.given) _ c.self.view_is c.args.place _ i.components.ok.0 c.requires

pub give_header-requires-clause-outside : goal.give_header-requires-clause-outside
give_header-requires-clause-outside g c =
    let i = c.self.inside in
    let e = c.index_mut-component.result.now in
    let G : Entries (g.row.C.Denot) = gathered i.components.items i.stock i.book i.registry.given in
    let at : slice_get i.components.items c.args.place ≡ Some e = found_of g.C.Client.progress G _ c.self.view_is c.args.place c.requires e c.index_mut-component.ensures.value in
    rw c.id.ensures (done_out g.C.Client.progress G c.args.place e c.self.invariant.0.worlds at c.in-Call.call c.in-EmptyDone.header (sym c.take-took.ensures.took ∙ c.in-Call.is) c.in-EmptyDone.is)

pub invariant_of-self : goal.invariant_of-self
invariant_of-self g c =
    let i = c.self.inside in
    let p = g.C.Client.progress in
    let e = c.index_mut-component.result.now in
    let d = c.take-took.new.self in
    let G : Entries (g.row.C.Denot) = gathered i.components.items i.stock i.book i.registry.given in
    let at : slice_get i.components.items c.args.place ≡ Some e = found_of p G _ c.self.view_is c.args.place c.requires e c.index_mut-component.ensures.value in
    core_with p i.components.items i.registry i.stock i.book i.marked i.components.cap c.self.invariant i.stock c.args.place e d _ at (ap component_of c.take-took.ensures.left) refl refl refl refl refl
    (call_worlds p G c.args.place e c.self.invariant.0.worlds at c.in-Call.call c.in-Told.field-0 d (sym c.take-took.ensures.took ∙ c.in-Call.is) c.take-took.ensures.left c.in-Told.is)

pub invariant_of-self-in-EmptyDone : goal.invariant_of-self-in-EmptyDone
invariant_of-self-in-EmptyDone g c =
    let i = c.self.inside in
    let p = g.C.Client.progress in
    let e = c.index_mut-component.result.now in
    let d = c.take-took.new.self in
    let G : Entries (g.row.C.Denot) = gathered i.components.items i.stock i.book i.registry.given in
    let at : slice_get i.components.items c.args.place ≡ Some e = found_of p G _ c.self.view_is c.args.place c.requires e c.index_mut-component.ensures.value in
    let now = c.give_header.ensures ∙ ap (λ (n : ℕ). header_given n owners.Client (stocked i.stock)) c.id.ensures in
    core_with p i.components.items i.registry i.stock i.book i.marked i.components.cap c.self.invariant c.give_header.new.self c.args.place e d _ at (ap component_of c.take-took.ensures.left) refl refl refl refl (ap (λ (s : Stocked). s.ports) now)
    (done_worlds p G c.args.place e c.self.invariant.0.worlds at c.in-Call.call c.in-EmptyDone.header d c.give_header.new.self (sym c.take-took.ensures.took ∙ c.in-Call.is) c.take-took.ensures.left c.in-EmptyDone.is now)

not_call : {C : Type 0} (r : Took C) → ((x : Call C) → r ≡ tooks.Call x → ⊥) → (r ≡ tooks.None) ⊎ (r ≡ tooks.Busy)
not_call (tooks.Call call) h = absurd (h call refl)
not_call tooks.None h = inl refl
not_call tooks.Busy h = inr refl

pub invariant_of-self-in_default : goal.invariant_of-self-in_default
invariant_of-self-in_default g c =
    let i = c.self.inside in
    let p = g.C.Client.progress in
    let e = c.index_mut-component.result.now in
    let d = c.take-took.new.self in
    let G : Entries (g.row.C.Denot) = gathered i.components.items i.stock i.book i.registry.given in
    let at : slice_get i.components.items c.args.place ≡ Some e = found_of p G _ c.self.view_is c.args.place c.requires e c.index_mut-component.ensures.value in
    let k = not_call c.take-took.result c.in_default.not-Call in
    let same = none_entries p G c.args.place e c.self.invariant.0.worlds at c.take-took.result d (sym c.take-took.ensures.took) k c.take-took.ensures.left in
    rw same c.self.invariant

pub returns-in-Told : goal.returns-in-Told
returns-in-Told g c =
    let i = c.self.inside in
    let p = g.C.Client.progress in
    let e = c.index_mut-component.result.now in
    let d = c.take-took.new.self in
    let G : Entries (g.row.C.Denot) = gathered i.components.items i.stock i.book i.registry.given in
    let at : slice_get i.components.items c.args.place ≡ Some e = found_of p G _ c.self.view_is c.args.place c.requires e c.index_mut-component.ensures.value in
    let own = own_place i.components.items i.registry c.args.place e c.self.invariant.0.registered at in record {
      change = rw (← c.self.view_is, c.in-Call.is) (call_returns p G c.args.place e c.self.invariant.0.worlds at c.in-Call.call c.in-Told.field-0 d (sym c.take-took.ensures.took ∙ c.in-Call.is) c.take-took.ensures.left c.in-Told.is);
      unchanged = rw c.in-Call.is tt;
      client = rw (← c.self.view_is, c.in-Call.is, there p G c.args.place e at) (call_client G c.args.place e d c.take-took.ensures.left own at c.in-Call.call (sym c.take-took.ensures.took ∙ c.in-Call.is));
      clients = rw (← c.self.view_is, there p G c.args.place e at) (others_set i.components.items c.args.place e d at (ap (λ (x : Entry (g.row.C.Denot)). x.handle) c.take-took.ensures.left));
    }

pub returns-in-EmptyDone : goal.returns-in-EmptyDone
returns-in-EmptyDone g c =
    let i = c.self.inside in
    let p = g.C.Client.progress in
    let e = c.index_mut-component.result.now in
    let d = c.take-took.new.self in
    let G : Entries (g.row.C.Denot) = gathered i.components.items i.stock i.book i.registry.given in
    let at : slice_get i.components.items c.args.place ≡ Some e = found_of p G _ c.self.view_is c.args.place c.requires e c.index_mut-component.ensures.value in
    let now = c.give_header.ensures ∙ ap (λ (n : ℕ). header_given n owners.Client (stocked i.stock)) c.id.ensures in
    let own = own_place i.components.items i.registry c.args.place e c.self.invariant.0.registered at in record {
      change = rw (← c.self.view_is, c.in-Call.is) (done_returns p G c.args.place e c.self.invariant.0.worlds at c.in-Call.call c.in-EmptyDone.header d c.give_header.new.self (sym c.take-took.ensures.took ∙ c.in-Call.is) c.take-took.ensures.left c.in-EmptyDone.is now);
      unchanged = rw c.in-Call.is tt;
      client = rw (← c.self.view_is, c.in-Call.is, there p G c.args.place e at) (call_client G c.args.place e d c.take-took.ensures.left own at c.in-Call.call (sym c.take-took.ensures.took ∙ c.in-Call.is));
      clients = rw (← c.self.view_is, there p G c.args.place e at) (others_set i.components.items c.args.place e d at (ap (λ (x : Entry (g.row.C.Denot)). x.handle) c.take-took.ensures.left));
    }

pub returns-in_default : goal.returns-in_default
returns-in_default g c =
    let i = c.self.inside in
    let p = g.C.Client.progress in
    let e = c.index_mut-component.result.now in
    let d = c.take-took.new.self in
    let G : Entries (g.row.C.Denot) = gathered i.components.items i.stock i.book i.registry.given in
    let at : slice_get i.components.items c.args.place ≡ Some e = found_of p G _ c.self.view_is c.args.place c.requires e c.index_mut-component.ensures.value in
    let k = not_call c.take-took.result c.in_default.not-Call in
    let own = own_place i.components.items i.registry c.args.place e c.self.invariant.0.registered at in record {
      change = rw (← c.self.view_is) (none_returns p G c.args.place e c.self.invariant.0.worlds at c.take-took.result d (sym c.take-took.ensures.took) k c.take-took.ensures.left);
      unchanged = rw (← c.self.view_is) (none_unchanged p G c.args.place e c.self.invariant.0.worlds at c.take-took.result d (sym c.take-took.ensures.took) k c.take-took.ensures.left);
      client = rw (← c.self.view_is, there p G c.args.place e at) (no_call_client G c.args.place e d c.take-took.ensures.left own at c.take-took.result (sym c.take-took.ensures.took) k);
      clients = rw (← c.self.view_is, there p G c.args.place e at) (others_set i.components.items c.args.place e d at (ap (λ (x : Entry (g.row.C.Denot)). x.handle) c.take-took.ensures.left));
    }
