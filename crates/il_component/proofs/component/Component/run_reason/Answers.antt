use Rattle.std.proofs.Common.{◌≡◌, length, sym, ◌∙◌, inl, inr}
use Rattle.omx_types.specs.declared.command.PortSel.TheVariants.{One}
use Rattle.il_machine.specs.World.{number_of}
use Rattle.il_machine.specs.Commands.{is_flushing, is_changing, is_waiting}
use Rattle.il_component.specs.Entries.{component_of}
use Rattle.il_component.proofs.Named.{busy_is}
use Rattle.il_component.proofs.component.Component.run_reason.Goals as goal

pub returns-in-Flush : goal.returns-in-Flush
returns-in-Flush g c =
    let k = component_of c.args.self.now in
    let s : length k.settings.ports ≡ length k.ports = rw (← c.self.view_is) (c.self.invariant.0.whole.ports ∙ sym c.self.invariant.0.ports) in
    let p : c.deref.result.now ≡ k.ports = rw (← c.self.view_is) c.deref.ensures.value in
    rw c.in-Flush.is (c.first_busy.ensures ∙ rw p (busy_is (number_of k) 0 c.in-Flush.sel is_flushing k.settings.ports k.ports s))

pub returns-in-MarkBuffer : goal.returns-in-MarkBuffer
returns-in-MarkBuffer g c =
    let k = component_of c.args.self.now in
    let s : length k.settings.ports ≡ length k.ports = rw (← c.self.view_is) (c.self.invariant.0.whole.ports ∙ sym c.self.invariant.0.ports) in
    let p : c.deref-in-MarkBuffer.result.now ≡ k.ports = rw (← c.self.view_is) c.deref-in-MarkBuffer.ensures.value in
    rw c.in-MarkBuffer.is (c.first_busy-in-MarkBuffer.ensures ∙ rw p (busy_is (number_of k) 0 (One c.in-MarkBuffer.port) is_waiting k.settings.ports k.ports s))

pub returns-in-PortDisable : goal.returns-in-PortDisable
returns-in-PortDisable g c =
    let k = component_of c.args.self.now in
    let s : length k.settings.ports ≡ length k.ports = rw (← c.self.view_is) (c.self.invariant.0.whole.ports ∙ sym c.self.invariant.0.ports) in
    let p : c.deref-in-PortDisable.result.now ≡ k.ports = rw (← c.self.view_is) c.deref-in-PortDisable.ensures.value in
    let m = c.first_busy-in-PortDisable.ensures ∙ rw p (busy_is (number_of k) 0 c.in-PortDisable.sel is_changing k.settings.ports k.ports s) in
    elim c.in-PortDisable.is [ inl e ↦ rw e m | inr e ↦ rw e m ]
