use Rattle.std.proofs.Common.{List, [], sym, subst, arith}
use Rattle.il_graph.specs.Shown.{look_of}
use Rattle.trace_run.specs.declared.names.NamedComponent.{NamedComponent}
use Rattle.trace_run.specs.Standing.{parts, graph_kept, HasMoment}
use Rattle.trace_run.specs.Works.{kept_with}
use Rattle.trace_run.proofs.Freeing.{can_free, ended_more, ended_all}
use Rattle.trace_run.proofs.HeldLines.{none_held, stood_of}
use Rattle.trace_run.proofs.desk.Desk.give_back.Goals as goal

pub loop-entry-init : goal.loop-entry-init
loop-entry-init c =
    let slots = c.args.self.slots.items in
    let S = c.bring_all_back.ensures c.args.self.components.items slots c.requires in
    record {
      stood = subst (λ (cs : List NamedComponent). HasMoment (parts c.bring_all_back.new.graph cs slots)) (sym c.deref-entry-items.ensures.value) (stood_of (kept_with (graph_kept c.bring_all_back.new.graph) c.args.self.components.items slots []) S);
      ended = λ i entry below at. absurd (omega (arith, below));
      works = none_held (parts c.bring_all_back.new.graph c.args.self.components.items slots) S;
    }

pub end_component-requires : goal.end_component-requires
end_component-requires c = (c.deref-entry-items.result.now, c.loop-entry.invariant.stood)

pub loop-entry-preserved : goal.loop-entry-preserved
loop-entry-preserved c =
    let components = c.deref-entry-items.result.now in
    record {
      stood = c.end_component.ensures.stood components c.loop-entry.invariant.stood;
      ended = ended_more components (look_of c.loop-entry.graph) (look_of c.end_component.new.graph) c.loop-entry.entry-index c.entry-item.result c.entry-item.is c.loop-entry.invariant.ended c.end_component.ensures.stay c.end_component.ensures.ended;
      works = c.end_component.ensures.stay.works c.loop-entry.invariant.works;
    }

pub free_slots-requires : goal.free_slots-requires
free_slots-requires c =
    let components = c.deref-entry-items.result.now in
    can_free (parts c.loop-entry.graph components c.loop-entry.slots.items) c.loop-entry.invariant.stood
    (ended_all components (look_of c.loop-entry.graph) c.loop-entry.entry-index c.loop-entry-test.false c.loop-entry.invariant.ended) c.loop-entry.invariant.works
