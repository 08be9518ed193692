use Rattle.std.proofs.Common.{sym, ◌∙◌, ap, is_some}
use Rattle.il_machine.specs.World.{ports_of}
use Rattle.il_machine.specs.Claims.{is_unannounced}
use Rattle.il_component.specs.Entries.{component_of}
use Rattle.port_rules.proofs.Idling.{any_where, none_late}
use Rattle.port_rules.proofs.claiming.must_announce.Goals as goal

pub returns : goal.returns
returns g c =
    let k = component_of c.args.component.now in
    c.is_some.ensures ∙ (ap is_some c.first_port.ensures ∙ sym (any_where (is_unannounced k) (ports_of k)))

pub returns-then-not-is_late : goal.returns-then-not-is_late
returns-then-not-is_late g c =
    let k = component_of c.args.component.now in
    none_late k (ports_of k) (sym c.is_late.ensures ∙ c.if-not-is_late.true)
