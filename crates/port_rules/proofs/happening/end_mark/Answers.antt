use Rattle.std.proofs.Common.{◌≡◌, ◌≤◌, true, is_some, sym, ◌∙◌}
use Rattle.il_machine.specs.Room.{used}
use Rattle.il_machine.specs.World.{port_of}
use Rattle.il_component.specs.Entries.{component_of}
use Rattle.il_component.specs.PortChanges.{mark_ended}
use Rattle.port_stock.specs.Kept.{stocked}
use Rattle.port_rules.proofs.Walking.{port_kept}
use Rattle.port_rules.proofs.Happenings.{of_some, of_match, to_match, index_within, mark_sound, mark_happens}
use Rattle.port_rules.proofs.happening.end_mark.Goals as goal

pub attach_mark-requires : goal.attach_mark-requires
attach_mark-requires g c =
    port_kept (component_of c.args.component.now) (stocked c.args.stock.now) c.args.index c.in-Some.port c.requires.in_order.ports (sym c.port.ensures ∙ c.in-Some.is)

pub end_mark-requires-clause-there : goal.end_mark-requires-clause-there
end_mark-requires-clause-there g c =
    index_within (component_of c.args.component.now) (stocked c.args.stock.now) c.args.index c.in-Some.port c.requires.in_order (sym c.port.ensures ∙ c.in-Some.is)

pub end_mark-requires-clause-fits : goal.end_mark-requires-clause-fits
end_mark-requires-clause-fits g c =
    let k = component_of c.args.component.now in
    let p = c.in-Some.port in
    let e : port_of k c.args.index ≡ _ = sym c.port.ensures ∙ c.in-Some.is in
    let f = of_some (port_of k c.args.index) (λ p. is_some p.state.waiting_mark ≡ true) p e c.requires.due in
    to_match (port_of k c.args.index) (λ p. used (mark_ended p k) ≤ 256) p e (mark_sound k c.args.index p c.requires.in_order.sound e f).room

pub returns-clause-happened : goal.returns-clause-happened
returns-clause-happened g c =
    let k = component_of c.args.component.now in
    let d = component_of c.end_mark.new.self in
    let p = c.in-Some.port in
    let e : port_of k c.args.index ≡ _ = sym c.port.ensures ∙ c.in-Some.is in
    mark_happens k d (stocked c.args.stock.now) (stocked c.attach_mark.new.stock) c.args.waits c.args.index p c.in-Some-waiting_mark.mark c.requires.in_order e c.in-Some-waiting_mark.is
    (of_match (port_of k c.args.index) (λ p. d ≡ mark_ended p k) p e c.end_mark.ensures.component) c.attach_mark.ensures.leads
