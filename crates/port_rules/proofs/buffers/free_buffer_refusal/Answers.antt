use Rattle.std.proofs.Common.{◌≡◌, true, false, Some, sym, ◌∙◌}
use Rattle.il_machine.specs.World.{port_of}
use Rattle.il_component.specs.Entries.{component_of}
use Rattle.port_rules.proofs.Refusing.{free_at}
use Rattle.port_rules.proofs.buffers.free_buffer_refusal.Goals as goal

pub returns-then-lacks_room : goal.returns-then-lacks_room
returns-then-lacks_room g c =
    let k = component_of c.args.component.now in
    let here : port_of k c.args.index ≡ Some c.in-Some.port = sym c.port.ensures ∙ c.in-Some.is in
    sym (free_at k (port_of k c.args.index) c.in-Some.port c.args.state true here (sym c.is_made_for.ensures ∙ c.if-not-is_made_for.false) (sym c.lacks_room.ensures ∙ c.if-lacks_room.true))

pub returns-else-lacks_room : goal.returns-else-lacks_room
returns-else-lacks_room g c =
    let k = component_of c.args.component.now in
    let here : port_of k c.args.index ≡ Some c.in-Some.port = sym c.port.ensures ∙ c.in-Some.is in
    sym (free_at k (port_of k c.args.index) c.in-Some.port c.args.state false here (sym c.is_made_for.ensures ∙ c.if-not-is_made_for.false) (sym c.lacks_room.ensures ∙ c.if-lacks_room.false))
