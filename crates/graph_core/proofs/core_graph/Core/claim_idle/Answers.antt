use Rattle.std.proofs.Common.{◌≡◌, MatchOption, option_map, refl, subst}
use Rattle.il_machine.specs.Claims.{claim_idle}
use Rattle.port_rules.specs.Claiming.{claimed_by}
use Rattle.graph_core.specs.Entries.{Entries, component_at, look_of}
use Rattle.graph_core.proofs.Replacing.{there}
use Rattle.graph_core.proofs.Setting.{all_ports}
use Rattle.graph_core.proofs.Found.{bounds_of, found_of}
use Rattle.graph_core.proofs.Gathered.{gathered}
use Rattle.graph_core.proofs.core_graph.Core.claim_idle.Goals as goal

pub index-component-requires : goal.index-component-requires
index-component-requires g c =
    let i = c.self.inside in
    bounds_of g.C.Client.progress (gathered i.components.items i.stock i.book i.registry.given) _ c.self.view_is c.args.place _ i.components.ok.0 c.requires

pub claim_idle-requires : goal.claim_idle-requires
claim_idle-requires g c =
    let i = c.self.inside in
    let p = g.C.Client.progress in
    let G : Entries (g.row.C.Denot) = gathered i.components.items i.stock i.book i.registry.given in
    let e = c.index-component.result.now in
    let at = found_of p G _ c.self.view_is c.args.place c.requires e c.index-component.ensures in
    all_ports p i.components.items i.registry i.stock i.book.units i.book.numbered i.components.cap c.args.place e c.self.invariant.0 at

pub returns : goal.returns
returns g c =
    let i = c.self.inside in
    let p = g.C.Client.progress in
    let G : Entries (g.row.C.Denot) = gathered i.components.items i.stock i.book i.registry.given in
    let e = c.index-component.result.now in
    let at = found_of p G _ c.self.view_is c.args.place c.requires e c.index-component.ensures in
    let Says : Entries (g.row.C.Denot) → Type 0 = λ x. MatchOption (component_at c.args.place x) ⊥ (λ k. option_map claimed_by c.claim_idle.result ≡ claim_idle (look_of x) k) in
    let it_says : Says G = rw (there p G c.args.place e at) (c.claim_idle.ensures (look_of G) refl) in
    subst Says c.self.view_is it_says
