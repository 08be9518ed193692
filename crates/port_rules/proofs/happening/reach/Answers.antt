use Rattle.std.proofs.Common.{◌≡◌, ◌≤◌, Some, sym, ◌∙◌}
use Rattle.il_machine.specs.Room.{used}
use Rattle.il_machine.specs.Due.{arrived}
use Rattle.machine_laws.proofs.Arriving.{sound_arrived}
use Rattle.il_component.specs.Entries.{component_of}
use Rattle.port_stock.specs.Kept.{stocked}
use Rattle.port_rules.proofs.Happenings.{of_match, to_match, transition_happens}
use Rattle.port_rules.proofs.happening.reach.Goals as goal

pub arrive-requires-clause-fits : goal.arrive-requires-clause-fits
arrive-requires-clause-fits g c =
    let k = component_of c.args.component.now in
    let p = c.in-Some.pending in
    let e : k.pending ≡ Some p = sym c.pending.ensures ∙ c.in-Some.is in
    to_match k.pending (λ p. used (arrived c.args.waits p k) ≤ 256) p e (sound_arrived c.args.waits p k c.requires.in_order.sound e).room

pub returns-clause-happened : goal.returns-clause-happened
returns-clause-happened g c =
    let k = component_of c.args.component.now in
    let d = component_of c.arrive.new.self in
    let p = c.in-Some.pending in
    let e : k.pending ≡ Some p = sym c.pending.ensures ∙ c.in-Some.is in
    rw c.waits_after.ensures (transition_happens k d (stocked c.args.stock.now) (stocked c.reset_on.new.stock) c.args.waits p c.requires.in_order e (of_match k.pending (λ p. d ≡ arrived c.args.waits p k) p e c.arrive.ensures.component) c.reset_on.ensures)
