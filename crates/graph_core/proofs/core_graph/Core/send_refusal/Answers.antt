use Rattle.std.proofs.Common.{◌≡◌, ◌<◌, true, false, length, slice_get, Some, refl, sym, ◌∙◌, ap}
use Rattle.std.proofs.lemmas.Option.{slice_get-get_or}
use Rattle.il_machine.specs.States.{is_invalid}
use Rattle.il_machine.specs.Commands.{lacks_port, lacks_target, lacks_command_room}
use Rattle.il_component.specs.Entries.{component_of}
use Rattle.graph_core.specs.Entries.{look_of}
use Rattle.graph_core.proofs.Replacing.{there}
use Rattle.graph_core.proofs.Found.{bounds_of}
use Rattle.graph_core.proofs.Gathered.{gathered}
use Rattle.graph_core.proofs.core_graph.Core.send_refusal.Goals as goal

pub index-component-requires : goal.index-component-requires
index-component-requires g c =
    let i = c.self.inside in
    bounds_of g.C.Client.progress (gathered i.components.items i.stock i.book i.registry.given) _ c.self.view_is c.args.place _ i.components.ok.0 c.requires

pub returns-then-lacks_command_room : goal.returns-then-lacks_command_room
returns-then-lacks_command_room g c =
    let e = c.index-component.result.now in
    let k = component_of e in
    let b : c.args.place < length c.self.inside.components.items = rw (← c.self.view_is) at c.requires in
    let at : slice_get c.args.self.now.entries c.args.place ≡ Some e = rw (← c.self.view_is) (slice_get-get_or c.self.inside.components.items c.args.place e b ∙ ap Some (sym c.index-component.ensures)) in
    let v : is_invalid k.state ≡ false = sym c.is_invalid.ensures ∙ c.if-is_invalid.false in
    let p : lacks_port k c.args.command ≡ false = sym c.lacks_port.ensures ∙ c.if-lacks_port.false in
    let t : lacks_target (look_of c.args.self.now) c.args.command ≡ false = sym c.lacks_target.ensures ∙ c.if-lacks_target.false in
    let l : lacks_command_room k c.args.command ≡ true = sym c.lacks_command_room.ensures ∙ c.if-lacks_command_room.true in
    rw (there g.C.Client.progress c.args.self.now c.args.place e at, v, p, t, l) refl

pub returns-else-lacks_command_room : goal.returns-else-lacks_command_room
returns-else-lacks_command_room g c =
    let e = c.index-component.result.now in
    let k = component_of e in
    let b : c.args.place < length c.self.inside.components.items = rw (← c.self.view_is) at c.requires in
    let at : slice_get c.args.self.now.entries c.args.place ≡ Some e = rw (← c.self.view_is) (slice_get-get_or c.self.inside.components.items c.args.place e b ∙ ap Some (sym c.index-component.ensures)) in
    let v : is_invalid k.state ≡ false = sym c.is_invalid.ensures ∙ c.if-is_invalid.false in
    let p : lacks_port k c.args.command ≡ false = sym c.lacks_port.ensures ∙ c.if-lacks_port.false in
    let t : lacks_target (look_of c.args.self.now) c.args.command ≡ false = sym c.lacks_target.ensures ∙ c.if-lacks_target.false in
    let l : lacks_command_room k c.args.command ≡ false = sym c.lacks_command_room.ensures ∙ c.if-lacks_command_room.false in
    rw (there g.C.Client.progress c.args.self.now c.args.place e at, v, p, t, l) refl
