use Rattle.std.proofs.Common.{sym, ◌∙◌}
use Rattle.il_machine.specs.World.{ports_of}
use Rattle.il_component.specs.Entries.{component_of}
use Rattle.port_stock.specs.Kept.{stocked}
use Rattle.port_rules.specs.Claiming.{claim_test}
use Rattle.port_rules.proofs.Walking.{port_within, port_kept}
use Rattle.port_rules.proofs.Idling.{where_found, where_passed}
use Rattle.port_rules.proofs.claiming.first_port.Goals as goal

pub unreachable-requires : goal.unreachable-requires
unreachable-requires g c =
    port_within (component_of c.args.component.now) (stocked c.args.stock.now) c.loop-index.index c.requires (rw (← c.ports-index-end.ensures.count) c.loop-index-test.true) (sym c.port.ensures ∙ c.in_default.is)

pub holds-requires : goal.holds-requires
holds-requires g c =
    port_kept (component_of c.args.component.now) (stocked c.args.stock.now) c.loop-index.index c.in-Some.port c.requires (sym c.port.ensures ∙ c.in-Some.is)

pub returns-then-holds : goal.returns-then-holds
returns-then-holds g c =
    let k = component_of c.args.component.now in
    let test = claim_test c.args.test (stocked c.args.stock.now).headers k in
    sym (c.loop-index.invariant ∙ where_found test (ports_of k) c.loop-index.index c.in-Some.port (sym c.port.ensures ∙ c.in-Some.is) (sym c.holds.ensures ∙ c.if-holds.true))

pub loop-index-preserved : goal.loop-index-preserved
loop-index-preserved g c =
    let k = component_of c.args.component.now in
    let test = claim_test c.args.test (stocked c.args.stock.now).headers k in
    c.loop-index.invariant ∙ where_passed test (ports_of k) c.loop-index.index c.in-Some.port (sym c.port.ensures ∙ c.in-Some.is) (sym c.holds.ensures ∙ c.if-holds.false)
