use Rattle.std.proofs.Common.{sym, ◌∙◌, arith}
use Rattle.il_machine.specs.World.{ports_of}
use Rattle.il_machine.specs.Claims.{gives_header}
use Rattle.il_component.specs.Entries.{component_of}
use Rattle.port_stock.specs.Kept.{stocked}
use Rattle.port_rules.proofs.Walking.{port_within}
use Rattle.port_rules.proofs.Idling.{count_found, count_passed}
use Rattle.port_rules.proofs.claiming.wanted_count.Goals.{then-gives_header, else-gives_header}
use Rattle.port_rules.proofs.claiming.wanted_count.Goals as goal

pub unreachable-requires : goal.unreachable-requires
unreachable-requires g c =
    port_within (component_of c.args.component.now) (stocked c.args.stock.now) c.loop-index.index c.requires (rw (← c.ports-index-end.ensures.count) c.loop-index-test.true) (sym c.port.ensures ∙ c.in_default.is)

pub loop-index-preserved : goal.loop-index-preserved
loop-index-preserved g c =
    let k = component_of c.args.component.now in
    let here = sym c.port.ensures ∙ c.in-Some.is in
    elim c.if-gives_header.branch [
      | then-gives_header w ↦
          let more = count_found (gives_header k) (ports_of k) c.loop-index.index c.in-Some.port here (sym c.gives_header.ensures ∙ w.if-gives_header.true) in
          record { all = omega (arith, c.loop-index.invariant.all, more); few = omega arith }
      | else-gives_header w ↦
          let same = count_passed (gives_header k) (ports_of k) c.loop-index.index c.in-Some.port here (sym c.gives_header.ensures ∙ w.if-gives_header.false) in
          record { all = omega (arith, c.loop-index.invariant.all, same); few = omega arith }
    ]
