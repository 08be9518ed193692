use Rattle.std.proofs.Common.{sym, ◌∙◌}
use Rattle.il_machine.specs.World.{ports_of}
use Rattle.il_component.specs.Entries.{component_of}
use Rattle.port_stock.specs.Kept.{stocked}
use Rattle.port_rules.specs.Tests.{port_test}
use Rattle.port_rules.proofs.Walking.{port_within, port_kept, all_fails, all_passes}
use Rattle.port_rules.proofs.terms.each_port.Goals as goal

pub unreachable-requires : goal.unreachable-requires
unreachable-requires g c =
    port_within (component_of c.args.component.now) (stocked c.args.stock.now) c.loop-index.index c.requires (rw (← c.ports-index-end.ensures.count) c.loop-index-test.true) (sym c.port.ensures ∙ c.in_default.is)

pub holds-requires : goal.holds-requires
holds-requires g c =
    port_kept (component_of c.args.component.now) (stocked c.args.stock.now) c.loop-index.index c.in-Some.port c.requires (sym c.port.ensures ∙ c.in-Some.is)

pub returns-then-not-holds : goal.returns-then-not-holds
returns-then-not-holds g c =
    let k = component_of c.args.component.now in
    let test = port_test c.args.test (stocked c.args.stock.now).headers in
    sym (c.loop-index.invariant ∙ all_fails test (ports_of k) c.loop-index.index c.in-Some.port (sym c.port.ensures ∙ c.in-Some.is) (sym c.holds.ensures ∙ c.if-not-holds.true))

pub loop-index-preserved : goal.loop-index-preserved
loop-index-preserved g c =
    let k = component_of c.args.component.now in
    let test = port_test c.args.test (stocked c.args.stock.now).headers in
    c.loop-index.invariant ∙ all_passes test (ports_of k) c.loop-index.index c.in-Some.port (sym c.port.ensures ∙ c.in-Some.is) (sym c.holds.ensures ∙ c.if-not-holds.false)
