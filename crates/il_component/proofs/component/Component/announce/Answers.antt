use Rattle.std.proofs.Common.{◌≡◌, false, Option, Some, None, subst, sym, ◌∙◌, ap, MatchOption}
use Rattle.omx_types.specs.declared.command.Event.TheVariants.{PortSettingsChanged}
use Rattle.part_api.specs.declared.attached.Attached.{Attached}
use Rattle.il_machine.specs.declared.port.Port.{Port}
use Rattle.il_machine.specs.Settings.{same_format}
use Rattle.il_machine.specs.World.{Component, port_of, told, with_port}
use Rattle.il_machine.specs.Parts.{file_format}
use Rattle.il_machine.specs.Room.{work_reserve}
use Rattle.il_component.specs.Entries.{component_of}
use Rattle.il_component.proofs.Named.{held_state}
use Rattle.il_component.proofs.Announcing.{announced_held, room_to_tell, work_some}
use Rattle.il_component.proofs.component.Component.announce.Goals as goal

pub queue_event-requires : goal.queue_event-requires
queue_event-requires g c =
    let k = component_of c.take_work.new.self in
    let p = c.in-Some.port in
    let e : port_of k 0 ≡ Some p = sym c.in-Some.ensures in
    let m : component_of c.hold_port.new.self ≡ with_port 0 (held_state p.state) k = subst (λ (o : Option Port). MatchOption o ⊥ (λ q. component_of c.hold_port.new.self ≡ with_port 0 (held_state q.state) k)) e c.hold_port.ensures.component in
    room_to_tell (component_of c.hold_port.new.self) k p (work_reserve c.args.self.now.work) e m (work_some c.args.self.now.work c.requires) c.take_work.ensures.room

pub returns-clause-component : goal.returns-clause-component
returns-clause-component g c =
    let c0 = component_of c.args.self.now in
    let k = component_of c.take_work.new.self in
    let p = c.in-Some.port in
    let x : k ≡ record c0 { work = None } = c.take_work.ensures.component in
    let e : port_of k 0 ≡ Some p = sym c.in-Some.ensures in
    let m : component_of c.hold_port.new.self ≡ with_port 0 (held_state p.state) k = subst (λ (o : Option Port). MatchOption o ⊥ (λ q. component_of c.hold_port.new.self ≡ with_port 0 (held_state q.state) k)) e c.hold_port.ensures.component in
    let old : port_of c0 0 ≡ Some p = subst (λ (y : Component). port_of y 0 ≡ Some p) x e in
    let same : k.file ≡ c0.file = ap (λ (y : Component). y.file) x in
    let f : same_format p.setting.definition.format (file_format c0.file) ≡ false = ap (λ (a : Option Attached). same_format p.setting.definition.format (file_format a)) (sym same) ∙ (sym c.has_file_format.ensures ∙ c.if-has_file_format.false) in
    c.queue_event.ensures.told ∙ (ap (told (PortSettingsChanged 0)) (m ∙ ap (with_port 0 (held_state p.state)) x) ∙ sym (announced_held c0 p old f))
