use Rattle.std.proofs.Common.{sym, ◌∙◌}
use Rattle.il_component.specs.Entries.{component_of}
use Rattle.port_stock.specs.Kept.{stocked}
use Rattle.port_rules.proofs.Walking.{port_kept}
use Rattle.port_rules.proofs.making.is_wrong_time.Goals as goal

pub is_fixed-requires : goal.is_fixed-requires
is_fixed-requires g c = port_kept (component_of c.args.component.now) (stocked c.args.stock.now) c.args.key.port c.in-Some.port c.requires (sym c.port.ensures ∙ c.in-Some.is)
