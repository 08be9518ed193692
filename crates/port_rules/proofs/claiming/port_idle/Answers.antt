use Rattle.std.proofs.Common.{is_some, not, false, sym, ◌∙◌, ap}
use Rattle.il_component.specs.Entries.{component_of}
use Rattle.port_stock.specs.Kept.{stocked}
use Rattle.port_rules.proofs.Idling.{none_idle, none_there}
use Rattle.port_rules.proofs.claiming.port_idle.Goals as goal

pub returns-then-is_none : goal.returns-then-is_none
returns-then-is_none g c =
    none_idle (stocked c.args.stock.now).headers (component_of c.args.component.now) (none_there _ (ap is_some (sym c.first_port.ensures) ∙ (c.is_none.ensures ∙ ap not c.if-is_none.true)))
