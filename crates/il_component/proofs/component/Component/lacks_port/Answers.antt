use Rattle.std.proofs.Common.{◌≡◌, length, sym, ◌∙◌, inl, inr, is_none, nat_le}
use Rattle.il_machine.specs.World.{port_of}
use Rattle.il_component.specs.Entries.{component_of}
use Rattle.il_component.proofs.Named.{is_missing}
use Rattle.il_component.proofs.component.Component.lacks_port.Goals as goal

pub returns-in-MarkBuffer : goal.returns-in-MarkBuffer
returns-in-MarkBuffer g c =
    let k = component_of c.args.self.now in
    let n = c.ports-ports.result in
    let s : length k.settings.ports ≡ n = rw (← c.self.view_is) (sym c.ports-ports.ensures.settings) in
    let p : length k.ports ≡ n = rw (← c.self.view_is) (c.self.invariant.0.ports ∙ sym c.ports-ports.ensures.count) in
    rw c.in-MarkBuffer.is (is_missing k n c.in-MarkBuffer.port s p)

pub returns-in-One : goal.returns-in-One
returns-in-One g c =
    let k = component_of c.args.self.now in
    let n = c.ports-ports.result in
    let s : length k.settings.ports ≡ n = rw (← c.self.view_is) (sym c.ports-ports.ensures.settings) in
    let p : length k.ports ≡ n = rw (← c.self.view_is) (c.self.invariant.0.ports ∙ sym c.ports-ports.ensures.count) in
    let m : nat_le n c.in-One.port ≡ is_none (port_of k c.in-One.port) = is_missing k n c.in-One.port s p in
    elim c.in-Flush.is [
      | inl e ↦ rw (e, c.in-One.is) m
      | inr f ↦ elim f [ inl e ↦ rw (e, c.in-One.is) m | inr e ↦ rw (e, c.in-One.is) m ]
    ]
