use Rattle.std.proofs.Common.{◌≡◌, ℕ, [], ◌∷◌, length, Some, refl, sym, ◌∙◌, ap, subst, arith, length-append}
use Rattle.std.proofs.lemmas.Result.{err_from_is_err_and}
use Rattle.il_machine.specs.Kinds.{ports_in}
use Rattle.il_machine.specs.World.{Component, fresh}
use Rattle.il_machine.specs.Stock.{Stocked, added, removed}
use Rattle.registry.specs.Handles.{Handles, Gives}
use Rattle.il_component.specs.Entries.{component_of}
use Rattle.port_stock.specs.Kept.{stocked}
use Rattle.graph_core.specs.Standing.{IsGraph}
use Rattle.graph_core.specs.Entries.{Entries, kept}
use Rattle.graph_core.proofs.Registering.{added_sound, vacant_place, few_live}
use Rattle.graph_core.proofs.Clients.{client_added, clients_added, in_now}
use Rattle.graph_core.proofs.Waiters.{waiters_added}
use Rattle.graph_core.proofs.Adding.{IsNew, kept_restocked, without_ports, unnumbered_unmade, restored, graph_restocked, steps_added, worlds_added, ports_added, vacant_slot, numbers_below}
use Rattle.graph_core.proofs.Marking.{marked_push}
use Rattle.graph_core.proofs.Calming.{calm_made}
use Rattle.graph_core.proofs.Gathered.{gathered}
use Rattle.graph_core.proofs.BookKept.{pushed_rows}
use Rattle.graph_core.specs.Booked.{row_for}
use Rattle.resource_book.specs.Rows.{is_kept}
use Rattle.graph_core.proofs.core_graph.Core.add.Given.{Over}
use Rattle.graph_core.proofs.core_graph.Core.add.Goals.{After-close, After-put_last}
use Rattle.graph_core.proofs.core_graph.Core.add.Goals as goal

pub make-requires-clause-without : goal.make-requires-clause-without
make-requires-clause-without g c =
    let i = c.self.inside in
    rw c.given-number.ensures (without_ports (stocked i.stock) i.registry.given c.self.invariant.0.ports.below)

pub invariant_of-self : goal.invariant_of-self
invariant_of-self g c =
    let i = c.self.inside in (
      graph_restocked g.C.Client.progress i.components.items i.registry i.stock c.make.new.stock i.book.units i.book.numbered i.components.cap c.in_err-component.ensures.unchanged c.self.invariant.0,
      c.self.invariant.1,
      c.self.invariant.2,
    )

pub put_last-requires : goal.put_last-requires
put_last-requires g c =
    let i = c.self.inside in
    let ok = i.components.ok in
    let few = few_live i.registry c.in-Ok.ensures.room in
    let l = c.self.invariant.0.registered.live in
    let roomy = c.self.invariant.0.roomy in
    omega arith

-- the component that is put last is the one of the handle
module _ (g : Over) (c : After-put_last g) where
  gives : Gives c.self.inside.registry c.insert.new.self c.in-Ok.h (length c.self.inside.components.items)
  gives =
      let ok = c.self.inside.components.ok in
      let l : c.len.result ≡ length c.self.inside.components.items = grind arith in
      subst (λ (k : ℕ). Gives c.self.inside.registry c.insert.new.self c.in-Ok.h k) l c.in-Ok.ensures.given

  made : component_of c.set_handle.new.self ≡ fresh c.in-Ok.h c.args.kind
  made = c.set_handle.ensures.component ∙ ap (λ (x : Component). record x { handle = c.in-Ok.h }) c.in_ok-component.ensures.component

  client_in : c.set_handle.new.self.queues.client ≡ Some c.args.client
  client_in = c.set_handle.ensures.kept.client ∙ c.in_ok-component.ensures.client

  is_new : IsNew g.C.Client.progress c.in-Ok.h c.args.kind c.set_handle.new.self
  is_new = record { component = made; told = rw (client_in, c.requires.new) refl }

  named : c.set_handle.new.self.handle ≡ c.in-Ok.h
  named = ap (λ (x : Component). x.handle) made

  ports_come : stocked c.make.new.stock ≡ added c.self.inside.registry.given (ports_in c.args.kind) (stocked c.self.inside.stock)
  ports_come = subst (λ (k : ℕ). stocked c.make.new.stock ≡ added k (ports_in c.args.kind) (stocked c.self.inside.stock)) c.given-number.ensures c.in_ok-component.ensures.ports

pub invariant_of-self-in-Ok : goal.invariant_of-self-in-Ok
invariant_of-self-in-Ok g c =
    let i = c.self.inside in
    let p = g.C.Client.progress in
    let es = i.components.items in
    let r = i.registry in
    let n = i.registry.given in
    let h = c.in-Ok.h in
    let e = c.set_handle.new.self in
    let ok = i.components.ok in
    let G = gives g c in
    let cap = c.put_last.ensures.capacity in
    let roomy = c.self.invariant.0.roomy in
    let few = few_live r c.in-Ok.ensures.room in
    let lv = c.self.invariant.0.registered.live in
    let a = length-append es (e ∷ []) in (
      rw (c.put_last.ensures.items) (record {
        registered = added_sound es r c.insert.new.self h e c.self.invariant.0.registered G c.in-Ok.ensures.generations (named g c);
        roomy = omega arith;
        few = omega arith;
        ports = rw G.given (ports_added p h c.args.kind e (is_new g c) es (stocked i.stock) (stocked c.make.new.stock) n (ports_come g c) G.generation c.self.invariant.0.ports);
        numbers = waiters_added es e i.book.numbered (ap (λ (x : Component). x.pending) (made g c)) c.self.invariant.0.numbers;
        worlds = rw G.given (worlds_added p h c.args.kind e (is_new g c) es i.stock c.make.new.stock i.book.units i.book.numbered n (ports_in c.args.kind) c.requires.sized (ports_come g c) G.generation c.self.invariant.0.worlds);
      }),
      rw (c.put_last.ensures.items) (marked_push es i.marked e c.self.invariant.1 (calm_made h c.args.kind (component_of e) (made g c))),
      rw (c.put_last.ensures.items) (pushed_rows i.book es e c.self.invariant.2 (ap (λ (x : Component). is_kept (row_for x)) (made g c))),
    )

pub remove_ports-requires : goal.remove_ports-requires
remove_ports-requires g c =
    let i = c.self.inside in
    let G : Entries (g.row.C.Denot) = gathered i.components.items i.stock i.book i.registry.given in
    unnumbered_unmade g.C.Client.progress G c.given-number.result (stocked c.make.new.stock) c.self.invariant.0.worlds c.given-number.ensures (ap (λ (x : Stocked). x.headers) c.in_ok-component.ensures.ports)

-- the ports are gone again
restocked_back : (g : Over) (c : After-close g) → stocked c.remove_ports.new.self ≡ stocked c.self.inside.stock
restocked_back g c =
    let i = c.self.inside in
    let n = i.registry.given in
    let st : stocked c.make.new.stock ≡ added n (ports_in c.args.kind) (stocked i.stock) = subst (λ (k : ℕ). stocked c.make.new.stock ≡ added k (ports_in c.args.kind) (stocked i.stock)) c.given-number.ensures c.in_ok-component.ensures.ports in
    let rm : stocked c.remove_ports.new.self ≡ removed n (stocked c.make.new.stock) = subst (λ (k : ℕ). stocked c.remove_ports.new.self ≡ removed k (stocked c.make.new.stock)) c.given-number.ensures c.remove_ports.ensures in
    rm ∙ (ap (removed n) st ∙ restored (stocked i.stock) n (ports_in c.args.kind) c.self.invariant.0.ports.below)

pub invariant_of-self-in-Err : goal.invariant_of-self-in-Err
invariant_of-self-in-Err g c =
    let i = c.self.inside in (
      subst (λ (r : Handles ℕ). IsGraph g.C.Client.progress i.components.items r c.remove_ports.new.self i.book.units i.book.numbered i.components.cap) (sym c.in-Err.ensures.unchanged)
          (graph_restocked g.C.Client.progress i.components.items i.registry i.stock c.remove_ports.new.self i.book.units i.book.numbered i.components.cap (restocked_back g c) c.self.invariant.0),
      c.self.invariant.1,
      c.self.invariant.2,
    )

pub returns-in_err-component-clause-unchanged : goal.returns-in_err-component-clause-unchanged
returns-in_err-component-clause-unchanged g c =
    let i = c.self.inside in
    let r = err_from_is_err_and c.from_residual.result c.from_residual.ensures.1 in
    rw r.1 (kept_restocked g.C.Client.progress i.components.items i.stock c.make.new.stock i.book.units i.book.numbered i.registry.given c.in_err-component.ensures.unchanged ∙ ap (kept g.C.Client.progress) c.self.view_is)

pub returns-in-Err-clause-unchanged : goal.returns-in-Err-clause-unchanged
returns-in-Err-clause-unchanged g c =
    let i = c.self.inside in
    let p = g.C.Client.progress in
    ap (λ (r : Handles ℕ). kept p (gathered i.components.items c.remove_ports.new.self i.book r.given)) c.in-Err.ensures.unchanged
    ∙ (kept_restocked p i.components.items i.stock c.remove_ports.new.self i.book.units i.book.numbered i.registry.given (restocked_back g c) ∙ ap (kept p) c.self.view_is)

pub returns-in-Ok-clause-made : goal.returns-in-Ok-clause-made
returns-in-Ok-clause-made g c =
    let i = c.self.inside in
    let p = g.C.Client.progress in
    let n = i.registry.given in
    let G = gives g c in
    rw (← c.self.view_is, c.put_last.ensures.items, G.given) (steps_added p c.in-Ok.h c.args.kind c.set_handle.new.self (is_new g c) i.components.items i.stock c.make.new.stock i.book.units i.book.numbered n (ports_in c.args.kind) (ports_come g c) G.generation (numbers_below p (gathered i.components.items i.stock i.book n) c.self.invariant.0.worlds))

pub returns-in-Ok-clause-vacant : goal.returns-in-Ok-clause-vacant
returns-in-Ok-clause-vacant g c =
    let i = c.self.inside in
    rw (← c.self.view_is) (vacant_slot i.components.items i.registry c.in-Ok.h.slot c.self.invariant.0.registered c.in-Ok.ensures.given.vacant)

pub returns-in-Ok-clause-client : goal.returns-in-Ok-clause-client
returns-in-Ok-clause-client g c =
    let i = c.self.inside in
    let h = c.in-Ok.h in
    rw (c.put_last.ensures.items) (ap in_now (client_added i.components.items c.set_handle.new.self h (named g c) (vacant_place i.components.items i.registry c.insert.new.self h c.self.invariant.0.registered (gives g c) h refl)) ∙ client_in g c)

pub returns-in-Ok-clause-clients : goal.returns-in-Ok-clause-clients
returns-in-Ok-clause-clients g c =
    λ k d. rw (← c.self.view_is, c.put_last.ensures.items) (clients_added c.self.inside.components.items c.set_handle.new.self c.in-Ok.h k (named g c) d)
