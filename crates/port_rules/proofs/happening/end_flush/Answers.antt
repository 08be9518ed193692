use Rattle.std.proofs.Common.{◌≡◌, ◌≤◌, true, sym, ◌∙◌}
use Rattle.il_machine.specs.Room.{used}
use Rattle.il_machine.specs.World.{port_of}
use Rattle.il_component.specs.Entries.{component_of}
use Rattle.il_component.specs.PortChanges.{flush_ended}
use Rattle.port_stock.specs.Kept.{stocked}
use Rattle.port_rules.proofs.Walking.{port_kept}
use Rattle.port_rules.proofs.Happenings.{of_some, of_match, to_match, index_within, flush_sound, flush_happens}
use Rattle.port_rules.proofs.happening.end_flush.Goals as goal

pub reset_home-requires : goal.reset_home-requires
reset_home-requires g c =
    port_kept (component_of c.args.component.now) (stocked c.args.stock.now) c.args.index c.in-Some.port c.requires.in_order.ports (sym c.port.ensures ∙ c.in-Some.is)

pub end_flush-requires-clause-there : goal.end_flush-requires-clause-there
end_flush-requires-clause-there g c =
    index_within (component_of c.args.component.now) (stocked c.args.stock.now) c.args.index c.in-Some.port c.requires.in_order (sym c.port.ensures ∙ c.in-Some.is)

pub end_flush-requires-clause-fits : goal.end_flush-requires-clause-fits
end_flush-requires-clause-fits g c =
    let k = component_of c.args.component.now in
    let p = c.in-Some.port in
    let e : port_of k c.args.index ≡ _ = sym c.port.ensures ∙ c.in-Some.is in
    let f = of_some (port_of k c.args.index) (λ p. p.state.flushing ≡ true) p e c.requires.due in
    to_match (port_of k c.args.index) (λ p. used (flush_ended p k) ≤ 256) p e (flush_sound k c.args.index p c.requires.in_order.sound e f).room

pub returns-clause-happened : goal.returns-clause-happened
returns-clause-happened g c =
    let k = component_of c.args.component.now in
    let d = component_of c.end_flush.new.self in
    let p = c.in-Some.port in
    let e : port_of k c.args.index ≡ _ = sym c.port.ensures ∙ c.in-Some.is in
    let f = of_some (port_of k c.args.index) (λ p. p.state.flushing ≡ true) p e c.requires.due in
    flush_happens k d (stocked c.args.stock.now) (stocked c.reset_home.new.stock) c.args.waits c.args.index p c.requires.in_order e f
    (of_match (port_of k c.args.index) (λ p. d ≡ flush_ended p k) p e c.end_flush.ensures.component) c.reset_home.ensures
