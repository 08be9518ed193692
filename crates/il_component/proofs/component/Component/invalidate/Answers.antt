use Rattle.std.proofs.Common.{◌≡◌, length, map, sum_by, sym, ◌∙◌, ap, arith, rules}
use Rattle.std.proofs.lemmas.Grind.{common_steps}
use Rattle.il_machine.specs.Commands.{calmed}
use Rattle.il_component.proofs.Calm.{rest_idle}
use Rattle.std.proofs.lemmas.List.{take_at}
use Rattle.il_machine.specs.Room.{port_reserve}
use Rattle.il_component.proofs.Queueing.{rest_places}
use Rattle.il_component.proofs.component.Component.invalidate.Goals as goal

pub hold-requires-clause-fits : goal.hold-requires-clause-fits
hold-requires-clause-fits g c =
    let b = c.room-room.ensures.within.room in
    let same : length c.put_at_rest.new.ports ≡ length c.self.inside.ports.items = c.put_at_rest.auto.ports ∙ ap length c.deref_mut.ensures.value in
    let z : sum_by port_reserve c.put_at_rest.new.ports ≡ 0 = ap (sum_by port_reserve) c.put_at_rest.ensures ∙ rest_places c.deref_mut.result.now in
    rw (c.deref.ensures.value, take_at c.put_at_rest.new.ports _ _ (same ∙ sym c.self.inside.ports.ok.0), c.drop_commands.ensures) (omega arith)

pub invariant_of-self : goal.invariant_of-self
invariant_of-self g c =
    let i = c.self.inside in
    let same : length c.put_at_rest.new.ports ≡ length i.ports.items = c.put_at_rest.auto.ports ∙ ap length c.deref_mut.ensures.value in
    let changed : c.put_at_rest.new.ports ≡ map calmed i.ports.items = c.put_at_rest.ensures ∙ ap (map calmed) c.deref_mut.ensures.value in (
      first_of (search rules, grind (arith, common_steps)),
      rw (take_at c.put_at_rest.new.ports _ _ (same ∙ sym i.ports.ok.0), changed) (rest_idle i.ports.items c.empty-self-inside.result c.empty-self-inside.ensures),
    )
