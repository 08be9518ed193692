use Rattle.std.proofs.Common.{sym, ◌∙◌}
use Rattle.il_component.specs.Entries.{component_of}
use Rattle.port_stock.specs.Kept.{stocked}
use Rattle.port_rules.proofs.Walking.{port_kept}
use Rattle.port_rules.proofs.tunnels.drop_refusal.Goals as goal

pub is_unmade-requires : goal.is_unmade-requires
is_unmade-requires g c = port_kept (component_of c.args.giver.now) (stocked c.args.stock.now) c.args.output c.in-Some.output c.requires.giver (sym c.port.ensures ∙ c.in-Some.is)

pub is_unmade-requires-else-not-is_unmade : goal.is_unmade-requires-else-not-is_unmade
is_unmade-requires-else-not-is_unmade g c = port_kept (component_of c.args.taker.now) (stocked c.args.stock.now) c.args.input c.in-Some-port.input c.requires.taker (sym c.port-2.ensures ∙ c.in-Some-port.is)
