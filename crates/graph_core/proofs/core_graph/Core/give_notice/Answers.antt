use Rattle.il_machine.specs.World.{Component}
use Rattle.il_machine.specs.declared.port.Port.{Port}
use Rattle.std.proofs.Common.{◌≡◌, ℕ, List, set, slice_get, Some, None, option_map, refl, sym, ◌∙◌, ap, subst}
use Rattle.il_machine.specs.declared.header.Owner.TheVariants as owners
use Rattle.il_machine.specs.Headers.{in_todo}
use Rattle.il_machine.specs.Stock.{Stocked, header_given, todo_pulled}
use Rattle.stock_laws.proofs.Entries.{set_same}
use Rattle.header_core.specs.BufferHeader.{BufferHeader, cleared}
use Rattle.note_queues.specs.Queues.{noted, header_note}
use Rattle.port_stock.specs.Kept.{stocked}
use Rattle.port_stock.specs.Conditions.{IsFrom, IsOutside, number_of}
use Rattle.il_component.specs.Entries.{Entry, component_of}
use Rattle.graph_core.specs.Entries.{Entries}
use Rattle.graph_core.proofs.Clients.{clients_set}
use Rattle.graph_core.proofs.Stepping.{graph_stocked, port_kept, with_stocked}
use Rattle.graph_core.proofs.Noticing.{Clause, nothing_returns, nothing_worlds, fewer_notes, given_returns, given_worlds, pulled_ports}
use Rattle.graph_core.proofs.Marking.{marked_set}
use Rattle.graph_core.proofs.Found.{port_here, bounds, found, port_has}
use Rattle.graph_core.proofs.Cores.{core_with}
use Rattle.graph_core.proofs.Gathered.{gathered}
use Rattle.graph_core.proofs.BookKept.{kept_rows}
use Rattle.graph_core.proofs.core_graph.Core.give_notice.Goals as goal

abbrev IsClients : {C : Type 0} → Entries C → Component → Port → Type 0
IsClients g c p = p.state.link ≡ None

pub index_mut-component-requires : goal.index_mut-component-requires
index_mut-component-requires g c =
    let i = c.self.inside in
    bounds g.C.Client.progress (gathered i.components.items i.stock i.book i.registry.given) _ c.self.view_is c.args.place _ c.requires _ i.components.ok.0

pub unreachable-requires : goal.unreachable-requires
unreachable-requires g c =
    let i = c.self.inside in
    port_has g.C.Client.progress (gathered i.components.items i.stock i.book i.registry.given) _ c.self.view_is c.args.place c.args.index c.index_mut-component.result.now c.index_mut-component.ensures.value c.port.result c.port.ensures c.in_default.is _ c.requires

pub pull_todo-requires : goal.pull_todo-requires
pull_todo-requires g c =
    let i = c.self.inside in
    let e = c.index_mut-component.result.now in
    let p = c.in-Some.port in
    let G : Entries (g.row.C.Denot) = gathered i.components.items i.stock i.book i.registry.given in
    let H = port_here g.C.Client.progress G _ c.self.view_is c.args.place c.args.index IsClients c.requires e c.index_mut-component.ensures.value c.port.result c.port.ensures p c.in-Some.is in
    port_kept g.C.Client.progress i.components.items (stocked i.stock) i.registry.given c.args.place c.args.index e p c.self.invariant.0.ports H.at H.here

pub invariant_of-self : goal.invariant_of-self
invariant_of-self g c =
    let i = c.self.inside in
    let e = c.index_mut-component.result.now in
    let p = c.in-Some.port in
    let G : Entries (g.row.C.Denot) = gathered i.components.items i.stock i.book i.registry.given in
    let H = port_here g.C.Client.progress G _ c.self.view_is c.args.place c.args.index IsClients c.requires e c.index_mut-component.ensures.value c.port.result c.port.ensures p c.in-Some.is in
    let none : None ≡ slice_get ((stocked i.stock).headers.todo p.key) 0 = sym (ap (option_map number_of) c.in_default-pull_todo.is) ∙ c.pull_todo.ensures.front in (
      rw (set_same i.components.items c.args.place e H.at) (graph_stocked g.C.Client.progress i.components.items i.registry i.stock c.pull_todo.new.self i.book.units i.book.numbered i.components.cap c.self.invariant.0
          (ap (λ (s : Stocked). s.ports) c.pull_todo.ensures.stock ∙ pulled_ports p.key ((stocked i.stock).headers.todo p.key) (stocked i.stock))
          (nothing_worlds g.C.Client.progress G c.args.place e c.args.index p c.self.invariant.0.worlds H.at H.here H.has c.pull_todo.new.self c.pull_todo.ensures.stock none)),
      marked_set i.components.items i.marked c.args.place e e c.self.invariant.1 H.at (λ rests. rests),
      kept_rows i.book i.components.items c.args.place e e c.self.invariant.2 H.at refl,
    )

pub returns-in_default-pull_todo-clause-change : goal.returns-in_default-pull_todo-clause-change
returns-in_default-pull_todo-clause-change g c =
    let i = c.self.inside in
    let e = c.index_mut-component.result.now in
    let p = c.in-Some.port in
    let G : Entries (g.row.C.Denot) = gathered i.components.items i.stock i.book i.registry.given in
    let H = port_here g.C.Client.progress G _ c.self.view_is c.args.place c.args.index IsClients c.requires e c.index_mut-component.ensures.value c.port.result c.port.ensures p c.in-Some.is in
    let none : None ≡ slice_get ((stocked i.stock).headers.todo p.key) 0 = sym (ap (option_map number_of) c.in_default-pull_todo.is) ∙ c.pull_todo.ensures.front in
    let stay : Clause g.C.Client.progress G c.args.place e c.args.index p c.self.invariant.0.worlds H.at H.here H.has (with_stocked g.C.Client.progress c.pull_todo.new.self (record G { entries = set i.components.items c.args.place e })) =
    subst (λ (es : List (Entry (g.row.C.Denot))). Clause g.C.Client.progress G c.args.place e c.args.index p c.self.invariant.0.worlds H.at H.here H.has (with_stocked g.C.Client.progress c.pull_todo.new.self (record G { entries = es }))) (sym (set_same i.components.items c.args.place e H.at))
    (nothing_returns g.C.Client.progress G c.args.place e c.args.index p c.self.invariant.0.worlds H.at H.here H.has c.pull_todo.new.self c.pull_todo.ensures.stock none) in
    rw (← c.self.view_is) stay

pub put_header-requires : goal.put_header-requires
put_header-requires g c =
    let i = c.self.inside in
    let e = c.index_mut-component.result.now in
    let p = c.in-Some.port in
    let G : Entries (g.row.C.Denot) = gathered i.components.items i.stock i.book i.registry.given in
    let H = port_here g.C.Client.progress G _ c.self.view_is c.args.place c.args.index IsClients c.requires e c.index_mut-component.ensures.value c.port.result c.port.ensures p c.in-Some.is in
    let h = c.in-Some-pull_todo.header in
    let front : Some h.held.number ≡ slice_get ((stocked i.stock).headers.todo p.key) 0 = sym (ap (option_map number_of) c.in-Some-pull_todo.is) ∙ c.pull_todo.ensures.front in
    let was : IsFrom (in_todo p.key) h (stocked i.stock) = rw c.in-Some-pull_todo.is at c.pull_todo.ensures.was in
    let out : IsOutside h (stocked c.pull_todo.new.self) = rw c.in-Some-pull_todo.is at c.pull_todo.ensures.outside in
    let outside : IsOutside h (todo_pulled p.key (stocked i.stock)) = subst (λ (s : Stocked). IsOutside h s) c.pull_todo.ensures.stock out in
    fewer_notes g.C.Client.progress G c.args.place e c.args.index p c.self.invariant.0.worlds H.at H.here H.has h front was outside

pub invariant_of-self-2 : goal.invariant_of-self-2
invariant_of-self-2 g c =
    let i = c.self.inside in
    let e = c.index_mut-component.result.now in
    let p = c.in-Some.port in
    let G : Entries (g.row.C.Denot) = gathered i.components.items i.stock i.book i.registry.given in
    let H = port_here g.C.Client.progress G _ c.self.view_is c.args.place c.args.index IsClients c.requires e c.index_mut-component.ensures.value c.port.result c.port.ensures p c.in-Some.is in
    let h = c.in-Some-pull_todo.header in
    let front : Some h.held.number ≡ slice_get ((stocked i.stock).headers.todo p.key) 0 = sym (ap (option_map number_of) c.in-Some-pull_todo.is) ∙ c.pull_todo.ensures.front in
    let was : IsFrom (in_todo p.key) h (stocked i.stock) = rw c.in-Some-pull_todo.is at c.pull_todo.ensures.was in
    let out : IsOutside h (stocked c.pull_todo.new.self) = rw c.in-Some-pull_todo.is at c.pull_todo.ensures.outside in
    let outside : IsOutside h (todo_pulled p.key (stocked i.stock)) = subst (λ (s : Stocked). IsOutside h s) c.pull_todo.ensures.stock out in
    let id : c.id.result ≡ h.held.number = c.id.ensures ∙ ap (λ (x : BufferHeader). x.held.number) c.clear.ensures in
    let now : stocked c.give_header.new.self ≡ header_given h.held.number (owners.Notice p.key.component) (todo_pulled p.key (stocked i.stock)) =
    c.give_header.ensures ∙ (ap (λ (n : ℕ). header_given n (owners.Notice p.key.component) (stocked c.pull_todo.new.self)) id ∙ ap (λ (s : Stocked). header_given h.held.number (owners.Notice p.key.component) s) c.pull_todo.ensures.stock) in
    let left : c.put_header.new.self ≡ record e { queues = noted (header_note p.setting.definition.input (cleared h)) e.queues } =
    c.put_header.ensures ∙ ap (λ (x : BufferHeader). record e { queues = noted (header_note p.setting.definition.input x) e.queues }) c.clear.ensures in
    core_with g.C.Client.progress i.components.items i.registry i.stock i.book i.marked i.components.cap c.self.invariant c.give_header.new.self c.args.place e c.put_header.new.self _ H.at (ap component_of left) refl refl refl refl
    (ap (λ (s : Stocked). s.ports) now ∙ pulled_ports p.key ((stocked i.stock).headers.todo p.key) (stocked i.stock))
    (given_worlds g.C.Client.progress G c.args.place e c.args.index p c.self.invariant.0.worlds H.at H.here H.has h front was outside c.put_header.new.self c.give_header.new.self left now)

pub returns-clause-change : goal.returns-clause-change
returns-clause-change g c =
    let i = c.self.inside in
    let e = c.index_mut-component.result.now in
    let p = c.in-Some.port in
    let G : Entries (g.row.C.Denot) = gathered i.components.items i.stock i.book i.registry.given in
    let H = port_here g.C.Client.progress G _ c.self.view_is c.args.place c.args.index IsClients c.requires e c.index_mut-component.ensures.value c.port.result c.port.ensures p c.in-Some.is in
    let h = c.in-Some-pull_todo.header in
    let front : Some h.held.number ≡ slice_get ((stocked i.stock).headers.todo p.key) 0 = sym (ap (option_map number_of) c.in-Some-pull_todo.is) ∙ c.pull_todo.ensures.front in
    let was : IsFrom (in_todo p.key) h (stocked i.stock) = rw c.in-Some-pull_todo.is at c.pull_todo.ensures.was in
    let out : IsOutside h (stocked c.pull_todo.new.self) = rw c.in-Some-pull_todo.is at c.pull_todo.ensures.outside in
    let outside : IsOutside h (todo_pulled p.key (stocked i.stock)) = subst (λ (s : Stocked). IsOutside h s) c.pull_todo.ensures.stock out in
    let id : c.id.result ≡ h.held.number = c.id.ensures ∙ ap (λ (x : BufferHeader). x.held.number) c.clear.ensures in
    let now : stocked c.give_header.new.self ≡ header_given h.held.number (owners.Notice p.key.component) (todo_pulled p.key (stocked i.stock)) =
    c.give_header.ensures ∙ (ap (λ (n : ℕ). header_given n (owners.Notice p.key.component) (stocked c.pull_todo.new.self)) id ∙ ap (λ (s : Stocked). header_given h.held.number (owners.Notice p.key.component) s) c.pull_todo.ensures.stock) in
    let left : c.put_header.new.self ≡ record e { queues = noted (header_note p.setting.definition.input (cleared h)) e.queues } =
    c.put_header.ensures ∙ ap (λ (x : BufferHeader). record e { queues = noted (header_note p.setting.definition.input x) e.queues }) c.clear.ensures in
    rw (← c.self.view_is) (given_returns g.C.Client.progress G c.args.place e c.args.index p c.self.invariant.0.worlds H.at H.here H.has h front was outside c.put_header.new.self c.give_header.new.self left now)

pub returns-in_default-pull_todo-clause-clients : goal.returns-in_default-pull_todo-clause-clients
returns-in_default-pull_todo-clause-clients g c =
    let i = c.self.inside in
    let e = c.index_mut-component.result.now in
    let G : Entries (g.row.C.Denot) = gathered i.components.items i.stock i.book i.registry.given in
    let at = found g.C.Client.progress G _ c.self.view_is c.args.place _ c.requires e c.index_mut-component.ensures.value in
    rw (← c.self.view_is, set_same i.components.items c.args.place e at) (λ k. refl)

pub returns-clause-clients : goal.returns-clause-clients
returns-clause-clients g c =
    let i = c.self.inside in
    let e = c.index_mut-component.result.now in
    let G : Entries (g.row.C.Denot) = gathered i.components.items i.stock i.book i.registry.given in
    let at = found g.C.Client.progress G _ c.self.view_is c.args.place _ c.requires e c.index_mut-component.ensures.value in
    let p = c.in-Some.port in
    let h = c.in-Some-pull_todo.header in
    let left : c.put_header.new.self ≡ record e { queues = noted (header_note p.setting.definition.input (cleared h)) e.queues } =
    c.put_header.ensures ∙ ap (λ (x : BufferHeader). record e { queues = noted (header_note p.setting.definition.input x) e.queues }) c.clear.ensures in
    rw (← c.self.view_is) (clients_set i.components.items c.args.place e c.put_header.new.self at (ap (λ (x : Entry (g.row.C.Denot)). x.handle) left) (ap (λ (x : Entry (g.row.C.Denot)). x.queues.client) left))
