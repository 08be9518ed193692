use Rattle.std.proofs.Common.{◌≡◌, ◌≤◌, false}
use Rattle.il_machine.specs.Ports.{is_steady}
use Rattle.il_machine.specs.Room.{used}
use Rattle.il_machine.specs.World.{port_of}
use Rattle.il_component.specs.Entries.{component_of}
use Rattle.il_component.specs.PortChanges.{mode_ended}
use Rattle.port_stock.specs.Kept.{stocked}
use Rattle.port_rules.proofs.Happenings.{some_there, of_match, to_match, mode_sound, mode_happens}
use Rattle.port_rules.proofs.happening.end_mode.Goals as goal

pub end_mode-requires-clause-fits : goal.end_mode-requires-clause-fits
end_mode-requires-clause-fits g c =
    let k = component_of c.args.component.now in
    let x = some_there (port_of k c.args.index) (λ p. is_steady p.state.mode ≡ false) c.requires.due in
    to_match (port_of k c.args.index) (λ p. used (mode_ended p k) ≤ 256) x.0 x.1 (mode_sound k c.args.index x.0 c.requires.in_order.sound x.1 x.2).room

pub returns-clause-happened : goal.returns-clause-happened
returns-clause-happened g c =
    let k = component_of c.args.component.now in
    let d = component_of c.end_mode.new.self in
    let x = some_there (port_of k c.args.index) (λ p. is_steady p.state.mode ≡ false) c.requires.due in
    mode_happens k d (stocked c.args.stock.now) c.args.waits c.args.index x.0 c.requires.in_order x.1 x.2 (of_match (port_of k c.args.index) (λ p. d ≡ mode_ended p k) x.0 x.1 c.end_mode.ensures.component)
