use Rattle.std.proofs.Common.{◌<◌, length, sym, ◌∙◌, subst, arith}
use Rattle.il_machine.specs.World.{ports_of}
use Rattle.il_machine.proofs.Calm.{calm_due}
use Rattle.il_component.specs.Entries.{component_of}
use Rattle.port_stock.specs.Kept.{stocked}
use Rattle.port_rules.proofs.Walking.{port_within, port_kept, due_found, due_passed, skipped, skipped_all}
use Rattle.port_rules.proofs.due.due_in.Goals as goal

pub returns-then-is_calm : goal.returns-then-is_calm
returns-then-is_calm g c = sym (calm_due (stocked c.args.stock.now).headers (component_of c.args.component.now) (c.is_calm.ensures.0 c.if-is_calm.true))

pub unreachable-requires : goal.unreachable-requires
unreachable-requires g c =
    port_within (component_of c.args.component.now) (stocked c.args.stock.now) c.in-Some.index c.requires c.in-Some.ensures.within (sym c.port.ensures ∙ c.in_default-port.is)

pub overflow_add-from : goal.overflow_add-from
overflow_add-from g c = let b = c.in-Some.ensures.within in let n = c.ports-ports.ensures.count in let few = c.ports-ports.ensures.few in omega arith

pub port_due-due-requires : goal.port_due-due-requires
port_due-due-requires g c =
    port_kept (component_of c.args.component.now) (stocked c.args.stock.now) c.in-Some.index c.in-Some-port.port c.requires (sym c.port.ensures ∙ c.in-Some-port.is)

pub returns-then-is_some : goal.returns-then-is_some
returns-then-is_some g c =
    let k = component_of c.args.component.now in
    let headers = (stocked c.args.stock.now).headers in
    let b : c.in-Some.index < length (ports_of k) = subst (λ n. c.in-Some.index < n) (sym c.requires.many) c.in-Some.ensures.within in
    sym (c.loop-index.invariant.passed ∙ (skipped headers k c.loop-index.from c.in-Some.index c.in-Some.ensures.next.0 (omega arith) c.in-Some.ensures.next.2
    ∙ due_found headers k (ports_of k) c.in-Some.index c.in-Some-port.port c.port_due-due.result (sym c.port.ensures ∙ c.in-Some-port.is) c.port_due-due.ensures (sym c.is_some.ensures ∙ c.if-is_some.true)))

pub loop-index-preserved : goal.loop-index-preserved
loop-index-preserved g c =
    let k = component_of c.args.component.now in
    let headers = (stocked c.args.stock.now).headers in
    let b : c.in-Some.index < length (ports_of k) = subst (λ n. c.in-Some.index < n) (sym c.requires.many) c.in-Some.ensures.within in
    record {
      passed = c.loop-index.invariant.passed ∙ (skipped headers k c.loop-index.from c.in-Some.index c.in-Some.ensures.next.0 (omega arith) c.in-Some.ensures.next.2
          ∙ due_passed headers k (ports_of k) c.in-Some.index c.in-Some-port.port c.port_due-due.result (sym c.port.ensures ∙ c.in-Some-port.is) c.port_due-due.ensures (sym c.is_some.ensures ∙ c.if-is_some.false));
      within = omega arith;
    }

pub returns : goal.returns
returns g c =
    let k = component_of c.args.component.now in
    let headers = (stocked c.args.stock.now).headers in
    sym (c.loop-index.invariant.passed ∙ skipped_all headers k c.loop-index.from c.loop-index.invariant.within c.in_default.ensures.next)
