use Rattle.std.proofs.Common.{ℕ, ◌<◌, ◌≡◌, length, map, take, subst, sym, ◌∙◌, arith, length-set}
use Rattle.il_machine.specs.World.{ports_of}
use Rattle.il_component.specs.Entries.{component_of}
use Rattle.port_stock.specs.Kept.{stocked}
use Rattle.port_rules.proofs.Walking.{port_within}
use Rattle.graph_core.specs.Claiming.{gives_to}
use Rattle.graph_core.proofs.Picked.{all_flags, flags_more}
use Rattle.graph_core.proofs.picking.giving.Goals as goal

pub unreachable-requires : goal.unreachable-requires
unreachable-requires g c =
    port_within (component_of c.args.component.now) (stocked c.args.stock.now) c.loop-index.index c.requires (rw (← c.ports-index-end.ensures.count) c.loop-index-test.true) (sym c.port.ensures ∙ c.in_default.is)

pub loop-index-preserved : goal.loop-index-preserved
loop-index-preserved g c =
    let k = component_of c.args.component.now in
    let few = c.ports-index-end.ensures.few in
    let all = c.loop-index.invariant.all in
    let l : c.loop-index.index < length c.loop-index.gives = omega arith in
    record {
      flags = flags_more (gives_to c.args.announces k) (ports_of k) c.loop-index.index c.in-Some.port c.loop-index.gives c.gives_to.result (sym c.port.ensures ∙ c.in-Some.is) c.loop-index.invariant.flags c.gives_to.ensures l;
      all = length-set c.loop-index.gives c.loop-index.index c.gives_to.result ∙ all;
    }

pub returns : goal.returns
returns g c =
    let k = component_of c.args.component.now in
    let count = c.ports-index-end.ensures.count in
    let many = c.requires.many in
    let end : c.loop-index.index ≡ length (ports_of k) = omega arith in
    let flags : take c.loop-index.index c.loop-index.gives ≡ map (gives_to c.args.announces k) (take c.loop-index.index (ports_of k)) = c.loop-index.invariant.flags in
    all_flags (gives_to c.args.announces k) (ports_of k) c.loop-index.gives (subst (λ (n : ℕ). take n c.loop-index.gives ≡ map (gives_to c.args.announces k) (take n (ports_of k))) end flags)
