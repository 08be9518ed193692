use Rattle.std.proofs.Common.{◌≡◌, true, Some, slice_get, sym, ◌∙◌, ap}
use Rattle.std.proofs.lemmas.Option.{slice_get-get_or}
use Rattle.il_machine.specs.World.{same_handle}
use Rattle.graph_core.proofs.Registering.{stands_named}
use Rattle.graph_core.proofs.core_graph.Core.find_near.Goals as goal

pub returns-in-Some : goal.returns-in-Some
returns-in-Some g c =
    let i = c.self.inside in
    let e = c.in-Some.component.now in
    let there = rw c.deref.ensures.value at c.in-Some.ensures.lookup in
    let at : slice_get i.components.items c.args.place ≡ Some e = slice_get-get_or i.components.items c.args.place e there.3.0 ∙ ap Some (sym there.1) in
    let same : same_handle e.handle c.args.h ≡ true = sym (rw c.handle.ensures at c.if-eq.ensures) in
    rw (← c.self.view_is) (sym (stands_named i.components.items i.registry c.args.h c.args.place e c.self.invariant.0.registered at same))
