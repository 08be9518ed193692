use Rattle.std.proofs.Common.{◌≡◌, true, Option, IsSomeAnd, refl, ◌∙◌, ap, subst}
use Rattle.il_machine.specs.World.{Component}
use Rattle.il_component.specs.Entries.{component_of}
use Rattle.graph_core.specs.Entries.{Entries}
use Rattle.graph_core.proofs.Announced.{announcing_by, graph_told, told_handle, told_returns, there_announcing, announced_row}
use Rattle.graph_core.proofs.Clients.{clients_set}
use Rattle.graph_core.proofs.Replacing.{there}
use Rattle.graph_core.proofs.Marking.{marked_set}
use Rattle.graph_core.proofs.Calming.{calm_as, calm_announced}
use Rattle.il_machine.specs.Finishing.{announced}
use Rattle.graph_core.proofs.Found.{bounds, found}
use Rattle.graph_core.proofs.Gathered.{gathered}
use Rattle.graph_core.proofs.BookKept.{kept_rows}
use Rattle.graph_core.specs.Booked.{row_for}
use Rattle.graph_core.proofs.core_graph.Core.finish_announcement.Goals as goal

pub index_mut-component-requires : goal.index_mut-component-requires
index_mut-component-requires g c =
    let i = c.self.inside in
    bounds g.C.Client.progress (gathered i.components.items i.stock i.book i.registry.given) _ c.self.view_is c.args.place _ c.requires _ i.components.ok.0

pub announce-requires : goal.announce-requires
announce-requires g c =
    let i = c.self.inside in
    let p = g.C.Client.progress in
    let e = c.index_mut-component.result.now in
    let G : Entries (g.row.C.Denot) = gathered i.components.items i.stock i.book i.registry.given in
    let asked = rw (← c.self.view_is) at c.requires in
    let at = found p G _ c.self.view_is c.args.place _ c.requires e c.index_mut-component.ensures.value in
    let A = announcing_by (component_of e) e.work refl (subst (λ (o : Option Component). IsSomeAnd o (λ x. IsSomeAnd x.work (λ work. work.announces ≡ true))) (there p G c.args.place e at) asked) in
    there_announcing (component_of e) A

pub invariant_of-self : goal.invariant_of-self
invariant_of-self g c =
    let i = c.self.inside in
    let p = g.C.Client.progress in
    let e = c.index_mut-component.result.now in
    let G : Entries (g.row.C.Denot) = gathered i.components.items i.stock i.book i.registry.given in
    let asked = rw (← c.self.view_is) at c.requires in
    let at = found p G _ c.self.view_is c.args.place _ c.requires e c.index_mut-component.ensures.value in
    let A = announcing_by (component_of e) e.work refl (subst (λ (o : Option Component). IsSomeAnd o (λ x. IsSomeAnd x.work (λ work. work.announces ≡ true))) (there p G c.args.place e at) asked) in (
      graph_told p i.components.items i.registry i.stock i.book.units i.book.numbered i.components.cap c.args.place e c.announce.new.self c.self.invariant.0 at A c.announce.ensures.component c.announce.ensures.kept,
      marked_set i.components.items i.marked c.args.place e c.announce.new.self c.self.invariant.1 at (calm_as (component_of e) (component_of c.announce.new.self) (announced (component_of e)) c.announce.ensures.component (calm_announced (component_of e))),
      kept_rows i.book i.components.items c.args.place e c.announce.new.self c.self.invariant.2 at (ap row_for c.announce.ensures.component ∙ announced_row (component_of e)),
    )

pub returns-clause-change : goal.returns-clause-change
returns-clause-change g c =
    let i = c.self.inside in
    let p = g.C.Client.progress in
    let e = c.index_mut-component.result.now in
    let G : Entries (g.row.C.Denot) = gathered i.components.items i.stock i.book i.registry.given in
    let asked = rw (← c.self.view_is) at c.requires in
    let at = found p G _ c.self.view_is c.args.place _ c.requires e c.index_mut-component.ensures.value in
    let A = announcing_by (component_of e) e.work refl (subst (λ (o : Option Component). IsSomeAnd o (λ x. IsSomeAnd x.work (λ work. work.announces ≡ true))) (there p G c.args.place e at) asked) in
    λ done. rw (← c.self.view_is) (told_returns p G c.args.place e c.announce.new.self at A c.announce.ensures.component c.announce.ensures.kept done)

pub returns-clause-clients : goal.returns-clause-clients
returns-clause-clients g c =
    let i = c.self.inside in
    let p = g.C.Client.progress in
    let e = c.index_mut-component.result.now in
    let G : Entries (g.row.C.Denot) = gathered i.components.items i.stock i.book i.registry.given in
    let asked = rw (← c.self.view_is) at c.requires in
    let at = found p G _ c.self.view_is c.args.place _ c.requires e c.index_mut-component.ensures.value in
    let A = announcing_by (component_of e) e.work refl (subst (λ (o : Option Component). IsSomeAnd o (λ x. IsSomeAnd x.work (λ work. work.announces ≡ true))) (there p G c.args.place e at) asked) in
    let same : (c.announce.new.self).handle ≡ e.handle = ap (λ (x : Component). x.handle) c.announce.ensures.component ∙ told_handle (component_of e) in
    rw (← c.self.view_is) (clients_set i.components.items c.args.place e c.announce.new.self at same c.announce.ensures.kept.client)
