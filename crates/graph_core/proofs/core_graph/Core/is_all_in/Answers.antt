use Rattle.std.proofs.Common.{◌≡◌, true, sym, ◌∙◌}
use Rattle.graph_core.specs.Entries.{Entries, look_of}
use Rattle.graph_core.specs.Ending.{IsAllIn}
use Rattle.graph_core.proofs.Unmaking.{all_in_inside, all_in_tested, tested_in}
use Rattle.graph_core.proofs.Gathered.{gathered}
use Rattle.graph_core.proofs.core_graph.Core.is_all_in.Goals as goal

pub returns-then-not-all_inside : goal.returns-then-not-all_inside
returns-then-not-all_inside g c =
    let i = c.self.inside in
    let G : Entries (g.row.C.Denot) = gathered i.components.items i.stock i.book i.registry.given in
    let here : IsAllIn (look_of G) → c.all_inside.result ≡ true = λ asked. c.all_inside.ensures.1 (all_in_inside g.C.Client.progress G c.self.invariant.0.worlds asked) in
    ((λ t. absurd cc), (λ asked. sym c.if-not-all_inside.true ∙ here (rw (← c.self.view_is) at asked)))

pub returns : goal.returns
returns g c =
    let i = c.self.inside in
    let G : Entries (g.row.C.Denot) = gathered i.components.items i.stock i.book i.registry.given in
    let told = rw c.deref.ensures.value at c.all_in.ensures in (
      (λ t. rw (← c.self.view_is) (tested_in g.C.Client.progress G c.self.invariant.0.worlds (c.all_inside.ensures.0 c.if-not-all_inside.false) (sym told ∙ t))),
      (λ asked. told ∙ all_in_tested g.C.Client.progress G c.self.invariant.0.worlds (rw (← c.self.view_is) at asked)),
    )
