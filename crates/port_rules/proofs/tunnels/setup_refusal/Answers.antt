use Rattle.std.proofs.Common.{sym, ◌∙◌}
use Rattle.il_component.specs.Entries.{component_of}
use Rattle.port_stock.specs.Kept.{stocked}
use Rattle.port_rules.proofs.Walking.{port_kept}
use Rattle.port_rules.proofs.tunnels.setup_refusal.Goals as goal

pub ports_refusal-requires-clause-output : goal.ports_refusal-requires-clause-output
ports_refusal-requires-clause-output g c = port_kept (component_of c.args.giver.now) (stocked c.args.stock.now) c.args.output c.in-Some.output c.requires.giver (sym c.port.ensures ∙ c.in-Some.is)

pub ports_refusal-requires-clause-input : goal.ports_refusal-requires-clause-input
ports_refusal-requires-clause-input g c = port_kept (component_of c.args.taker.now) (stocked c.args.stock.now) c.args.input c.in-Some-port.input c.requires.taker (sym c.port-2.ensures ∙ c.in-Some-port.is)
