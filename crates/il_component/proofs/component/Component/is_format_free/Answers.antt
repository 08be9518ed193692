use Rattle.std.proofs.Common.{◌≡◌, length, Some, sym, arith}
use Rattle.il_machine.specs.Kinds.{ports_in}
use Rattle.il_machine.specs.World.{number_of, port_of}
use Rattle.il_component.specs.Entries.{component_of}
use Rattle.il_component.proofs.Ports.{port_numbered}
use Rattle.il_component.proofs.component.Component.is_format_free.Goals as goal

pub is_format_fixed-requires : goal.is_format_fixed-requires
is_format_fixed-requires g c =
    let k = component_of c.args.self.now in
    let e : port_of k c.args.index ≡ Some c.in-Some.port = sym c.in-Some.ensures in
    let t = port_numbered (number_of k) 0 c.args.index k.settings.ports k.ports c.in-Some.port e in
    let w : length k.settings.ports ≡ ports_in k.settings.kind = rw (← c.self.view_is) c.self.invariant.0.whole.ports in
    omega (arith, t.0, t.1)
