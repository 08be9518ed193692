use Rattle.std.proofs.Common.{◌<◌, List, length, nat_eq, position, slice_get, option_and_then, sym, ◌∙◌, ap, subst}
use Rattle.std.specs.Prelude.{IfSome}
use Rattle.il_component.specs.Entries.{Entry}
use Rattle.graph_core.specs.Entries.{Entries, components_of}
use Rattle.graph_core.proofs.BookKept.{no_waiter, waiter_place}
use Rattle.graph_core.proofs.Gathered.{gathered}
use Rattle.graph_core.proofs.Numbers.{graph_differs}
use Rattle.graph_core.proofs.core_graph.Core.first_waiter.Goals as goal

pub place_numbered-requires : goal.place_numbered-requires
place_numbered-requires g c =
    let i = c.self.inside in
    let G : Entries (g.row.C.Denot) = gathered i.components.items i.stock i.book i.registry.given in
    rw c.deref.ensures.value (graph_differs g.C.Client.progress G c.self.invariant.0.worlds)

pub returns-in_err-number-clause-waiter : goal.returns-in_err-number-clause-waiter
returns-in_err-number-clause-waiter g c =
    let i = c.self.inside in
    let G : Entries (g.row.C.Denot) = gathered i.components.items i.stock i.book i.registry.given in
    rw (c.from_residual.ensures, ← c.self.view_is) (no_waiter g.C.Client.progress G i.book c.self.invariant.0.worlds c.self.invariant.2 (sym c.in_err-number.was ∙ c.first_waiter.ensures.answer))

pub returns-clause-waiter : goal.returns-clause-waiter
returns-clause-waiter g c =
    let i = c.self.inside in
    let G : Entries (g.row.C.Denot) = gathered i.components.items i.stock i.book i.registry.given in
    let number = c.in_ok-number.number in
    rw (← c.self.view_is) (
    ap (option_and_then (slice_get (components_of i.components.items)))
    (c.place_numbered.ensures.place ∙ ap (position (λ (e : Entry (g.row.C.Denot)). nat_eq e.handle.generation number)) c.deref.ensures.value)
    ∙ waiter_place g.C.Client.progress G i.book c.self.invariant.0.worlds c.self.invariant.2 number (sym c.in_ok-number.was ∙ c.first_waiter.ensures.answer)
    )

pub returns-clause-within : goal.returns-clause-within
returns-clause-within g c =
    rw (← c.self.view_is) (subst (λ (xs : List (Entry (g.row.C.Denot))). IfSome c.place_numbered.result (λ j. j < length xs)) c.deref.ensures.value c.place_numbered.ensures.within)
