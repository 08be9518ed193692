use Rattle.std.proofs.Common.{◌≡◌, length, refl, sym, ◌∙◌}
use Rattle.il_machine.proofs.Joined.{ports_any}
use Rattle.il_component.specs.Entries.{component_of}
use Rattle.il_component.proofs.component.Component.is_joined.Goals as goal

pub returns : goal.returns
returns g c =
    let k = component_of c.args.self.now in
    let i = c.self.inside in
    let a : length k.settings.ports ≡ length k.ports = rw (← c.self.view_is) (c.self.invariant.0.whole.ports ∙ sym c.self.invariant.0.ports) in
    let p : k.ports ≡ i.ports.items = rw (← c.self.view_is) refl in
    c.has_link.ensures ∙ rw (c.deref.ensures.value, ← p) (sym (ports_any k a))
