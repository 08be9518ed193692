use Rattle.std.proofs.Common.{◌≡◌, List, Some, None, sym, ◌∙◌, ap, subst, arith, true, false}
use Rattle.omx_types.specs.declared.handle.Handle.{Handle}
use Rattle.il_machine.specs.World.{number_of}
use Rattle.il_machine.specs.Stock.{removed}
use Rattle.il_machine.specs.Components.{free_refusal}
use Rattle.il_machine.specs.Places.{first_place}
use Rattle.il_machine.proofs.Places.{once_removed}
use Rattle.registry.specs.Handles.{resolved, Removes}
use Rattle.il_component.specs.Entries.{Entry, component_of}
use Rattle.port_stock.specs.Kept.{stocked}
use Rattle.graph_core.specs.Entries.{Entries, is_entry_at, look_of}
use Rattle.graph_core.proofs.Renumbered.{sound_there, shifted_start, removed_length}
use Rattle.graph_core.proofs.Clients.{client_removed, clients_removed}
use Rattle.graph_core.proofs.Waiters.{waiters_left}
use Rattle.graph_core.proofs.Leaving.{leaves_no_header, leaves_no_note, client_in, some_client, steps_left, worlds_left, ports_left}
use Rattle.graph_core.proofs.Marking.{marked_down}
use Rattle.graph_core.proofs.Gathered.{gathered}
use Rattle.resource_book.specs.Rows.{blank_row, is_kept}
use Rattle.graph_core.proofs.BookKept.{freed_covered, freed_rows}
use Rattle.il_machine.specs.World.{Component}
use Rattle.graph_core.proofs.Found.{IsHere, bounds, found, here, is_within, one_entry}
use Rattle.graph_core.proofs.Replacing.{there}
use Rattle.graph_core.proofs.core_graph.Core.free_handle.Given.{Over}
use Rattle.graph_core.proofs.core_graph.Core.free_handle.Goals.{After-blank, After-index-component}
use Rattle.graph_core.proofs.core_graph.Core.free_handle.Goals as goal

abbrev MayFree : {C : Type 0} → Entries C → Component → Type 0
MayFree g c = free_refusal (look_of g).headers c ≡ None

-- the component at the place may be freed
module _ (g : Over) (c : After-index-component g) where
  abbrev before : Entries (g.row.C.Denot)
  before = gathered c.self.inside.components.items c.self.inside.stock c.self.inside.book c.self.inside.registry.given

  first_read : IsHere before c.args.place MayFree c.index-component.result.now
  first_read = here g.C.Client.progress before _ c.self.view_is c.args.place MayFree c.requires c.index-component.result.now c.index-component.ensures

-- it is taken out
module _ (g : Over) (c : After-blank g) where
  abbrev left : Entries (g.row.C.Denot)
  left = gathered c.self.inside.components.items c.self.inside.stock c.self.inside.book c.self.inside.registry.given

  taken : IsHere left c.args.place MayFree c.remove-component.result
  taken = here g.C.Client.progress left _ c.self.view_is c.args.place MayFree c.requires c.remove-component.result c.remove-component.ensures.value

  handle_is : c.handle-h.result ≡ c.remove-component.result.handle
  handle_is =
      let f = c.index-component.result.now in
      let e = c.remove-component.result in
      let at = found g.C.Client.progress left _ c.self.view_is c.args.place _ c.requires f c.index-component.ensures in
      c.handle-h.ensures ∙ ap (λ (x : Entry (g.row.C.Denot)). x.handle) (one_entry left.entries c.args.place f e at taken.at)

  ports_gone : stocked c.remove_ports.new.self ≡ removed (number_of (component_of c.remove-component.result)) (stocked c.self.inside.stock)
  ports_gone = subst (λ (x : Handle). stocked c.remove_ports.new.self ≡ removed x.generation (stocked c.self.inside.stock)) handle_is c.remove_ports.ensures

  as_many : c.renumber.new.registry.given ≡ c.self.inside.registry.given
  as_many = c.renumber.ensures.numbered ∙ c.in-Ok.ensures.removed.given

  no_row : c.blank.result ≡ blank_row c.remove-component.result.handle.generation
  no_row = c.blank.ensures ∙ ap (λ (x : Handle). blank_row x.generation) handle_is

pub index-component-requires : goal.index-component-requires
index-component-requires g c =
    let i = c.self.inside in
    bounds g.C.Client.progress (gathered i.components.items i.stock i.book i.registry.given) _ c.self.view_is c.args.place _ c.requires _ i.components.ok.0

pub unreachable-requires : goal.unreachable-requires
unreachable-requires g c =
    let i = c.self.inside in
    let e = c.index-component.result.now in
    let at = (first_read g (goal.at.unreachable-requires g c).After-index-component).at in
    let rs : resolved i.registry c.handle-h.result ≡ Some c.args.place = rw c.handle-h.ensures (sound_there i.components.items i.registry c.args.place e c.self.invariant.0.registered at) in
    let f = rw rs at c.in-Err.ensures.value in
    cc

pub remove-component-requires : goal.remove-component-requires
remove-component-requires g c =
    let i = c.self.inside in
    bounds g.C.Client.progress (gathered i.components.items i.stock i.book i.registry.given) _ c.self.view_is c.args.place _ c.requires _ i.components.ok.0

pub renumber-requires-clause-from : goal.renumber-requires-clause-from
renumber-requires-clause-from g c =
    let i = c.self.inside in
    let b = is_within g.C.Client.progress (gathered i.components.items i.stock i.book i.registry.given) _ c.self.view_is c.args.place _ c.requires in
    let l = removed_length i.components.items c.args.place b in
    rw (c.deref.ensures.value, c.remove-component.ensures.items) (omega (arith, l, b))

pub renumber-requires-clause-given : goal.renumber-requires-clause-given
renumber-requires-clause-given g c = c.remove.ensures.generations

pub renumber-requires-clause-shifted : goal.renumber-requires-clause-shifted
renumber-requires-clause-shifted g c =
    let i = c.self.inside in
    let at = (first_read g (goal.at.renumber-requires-clause-shifted g c).After-index-component).at in
    let T = subst (λ (h : Handle). Removes i.registry c.remove.new.self h) c.handle-h.ensures c.in-Ok.ensures.removed in
    rw (c.deref.ensures.value, c.remove-component.ensures.items) (shifted_start i.components.items i.registry c.remove.new.self c.args.place c.index-component.result.now c.self.invariant.0.registered at T)

pub remove_ports-requires : goal.remove_ports-requires
remove_ports-requires g c =
    let i = c.self.inside in
    let H = first_read g (goal.at.remove_ports-requires g c).After-index-component in
    rw c.handle-h.ensures (leaves_no_header g.C.Client.progress (gathered i.components.items i.stock i.book i.registry.given) c.args.place c.index-component.result.now c.self.invariant.0.worlds H.at H.has)

pub close-requires-clause-client : goal.close-requires-clause-client
close-requires-clause-client g c =
    let e = c.remove-component.result in
    some_client e.queues.client (client_in (stocked c.self.inside.stock).headers (component_of e) (taken g (goal.at.close-requires-clause-client g c).After-blank).has)

pub close-requires-clause-headers : goal.close-requires-clause-headers
close-requires-clause-headers g c =
    let i = c.self.inside in
    let H = taken g (goal.at.close-requires-clause-headers g c).After-blank in
    leaves_no_note g.C.Client.progress (gathered i.components.items i.stock i.book i.registry.given) c.args.place c.remove-component.result c.self.invariant.0.worlds H.at H.has

pub move_down-requires : goal.move_down-requires
move_down-requires g c =
    let i = c.self.inside in
    let b = is_within g.C.Client.progress (gathered i.components.items i.stock i.book i.registry.given) _ c.self.view_is c.args.place _ c.requires in
    let few = c.self.invariant.0.few in
    omega arith

pub put-requires-clause-room : goal.put-requires-clause-room
put-requires-clause-room g c kept = let two : false ≡ true = sym (ap is_kept c.blank.ensures) ∙ kept in absurd cc

pub put-requires-clause-covered : goal.put-requires-clause-covered
put-requires-clause-covered g c =
    let i = c.self.inside in
    let p = g.C.Client.progress in
    let e = c.remove-component.result in
    let G : Entries (g.row.C.Denot) = gathered i.components.items i.stock i.book i.registry.given in
    let a = (goal.at.put-requires-clause-covered g c).After-blank in
    let H = taken g a in
    rw (no_row g a) (freed_covered p G i.book c.self.invariant.0.worlds c.self.invariant.2 c.args.place e H.at c.remove_ports.new.self i.book.numbered i.registry.given (worlds_left p G c.args.place e c.self.invariant.0.worlds H.at H.has c.remove_ports.new.self (ports_gone g a)))

pub invariant_of-self : goal.invariant_of-self
invariant_of-self g c =
    let i = c.self.inside in
    let p = g.C.Client.progress in
    let e = c.remove-component.result in
    let G : Entries (g.row.C.Denot) = gathered i.components.items i.stock i.book i.registry.given in
    let a = (goal.at.invariant_of-self g c).After-blank in
    let H = taken g a in
    let b = is_within p G _ c.self.view_is c.args.place _ c.requires in
    let n = as_many g a in
    let rm = ports_gone g a in
    let l = c.renumber.ensures.live in
    let m = c.in-Ok.ensures.removed.live in
    let lv = c.self.invariant.0.registered.live in
    let k = removed_length i.components.items c.args.place b in
    let roomy = c.self.invariant.0.roomy in
    let few = c.self.invariant.0.few in
    let cap = c.remove-component.ensures.capacity in (
      rw (c.remove-component.ensures.items, c.put.ensures) (record {
        registered = record {
          registered = λ x. c.renumber.ensures.places x ∙ ap (λ (es : List (Entry (g.row.C.Denot))). first_place (is_entry_at x) es) (c.deref.ensures.value ∙ c.remove-component.ensures.items);
          once = λ x. once_removed (is_entry_at x) i.components.items c.args.place (c.self.invariant.0.registered.once x);
          live = omega arith;
          given = c.renumber.ensures.given;
        };
        roomy = omega arith;
        few = omega arith;
        ports = rw n (ports_left p G c.args.place e c.self.invariant.0.worlds H.at H.has (stocked c.remove_ports.new.self) rm c.self.invariant.0.ports);
        numbers = waiters_left i.components.items c.args.place i.book.numbered e H.at c.self.invariant.0.numbers;
        worlds = rw n (worlds_left p G c.args.place e c.self.invariant.0.worlds H.at H.has c.remove_ports.new.self rm);
      }),
      rw c.remove-component.ensures.items (marked_down i.components.items i.marked c.move_down.new.self c.args.place c.self.invariant.1 b c.move_down.ensures),
      rw (c.remove-component.ensures.items, c.put.ensures, no_row g a) (freed_rows p G i.book c.self.invariant.0.worlds c.self.invariant.2 c.args.place e H.at),
    )

pub returns : goal.returns
returns g c =
    let i = c.self.inside in
    let p = g.C.Client.progress in
    let e = c.remove-component.result in
    let G : Entries (g.row.C.Denot) = gathered i.components.items i.stock i.book i.registry.given in
    let a = (goal.at.returns g c).After-blank in
    let H = taken g a in
    let once = c.self.invariant.0.registered.once in record {
      freed = rw (← c.self.view_is, there p G c.args.place e H.at, c.remove-component.ensures.items, as_many g a, c.put.ensures) (steps_left p G c.args.place e c.self.invariant.0.worlds H.at H.has c.remove_ports.new.self (ports_gone g a));
      client = rw (← c.self.view_is, H.at) (sym c.close.ensures);
      gone = rw (← c.self.view_is, there p G c.args.place e H.at, c.remove-component.ensures.items) (client_removed i.components.items c.args.place e (once e.handle) H.at);
      clients = rw (← c.self.view_is, there p G c.args.place e H.at, c.remove-component.ensures.items) (λ k d. clients_removed i.components.items c.args.place e k (once k) H.at d);
    }
