use Rattle.std.proofs.Common.{◌≡◌, true, List, sym, ◌∙◌, subst}
use Rattle.il_machine.specs.declared.port.PortKey.{PortKey}
use Rattle.il_machine.specs.Due.{reset_ports}
use Rattle.il_machine.specs.World.{ports_of}
use Rattle.il_component.specs.Entries.{component_of}
use Rattle.port_stock.specs.Kept.{stocked}
use Rattle.port_stock.specs.Conditions.{has_key}
use Rattle.port_rules.proofs.Walking.{port_within, port_kept}
use Rattle.port_rules.proofs.Resetting.{port_step}
use Rattle.port_rules.proofs.happening.reset_ports.Goals as goal

pub unreachable-requires : goal.unreachable-requires
unreachable-requires g c =
    port_within (component_of c.args.component.now) (stocked c.args.stock.now) c.loop-index.index c.requires (rw (← c.ports-index-end.ensures.count) c.loop-index-test.true) (sym c.port.ensures ∙ c.in_default.is)

pub reset_home-requires : goal.reset_home-requires
reset_home-requires g c =
    subst (λ (ks : List PortKey). has_key c.in-Some.port.key ks ≡ true) (sym c.loop-index.invariant.ports)
    (port_kept (component_of c.args.component.now) (stocked c.args.stock.now) c.loop-index.index c.in-Some.port c.requires (sym c.port.ensures ∙ c.in-Some.is))

pub loop-index-preserved : goal.loop-index-preserved
loop-index-preserved g c =
    let ps = ports_of (component_of c.args.component.now) in
    port_step (reset_ports ps) (stocked c.args.stock.now) (stocked c.loop-index.stock) (stocked c.reset_home.new.stock) ps c.loop-index.index c.in-Some.port (sym c.port.ensures ∙ c.in-Some.is) c.loop-index.invariant c.reset_home.ensures
