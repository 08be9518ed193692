use Rattle.std.proofs.Common.{sym, ◌∙◌}
use Rattle.il_component.specs.Entries.{component_of}
use Rattle.graph_core.specs.Entries.{components_of}
use Rattle.graph_core.proofs.Idling.{over_peer}
use Rattle.graph_core.proofs.passing.over_idle.Goals as goal

pub returns-then-is_some : goal.returns-then-is_some
returns-then-is_some g c = λ l headers components.
    over_peer l (component_of c.args.component.now) c.args.port (components_of c.args.components.now) c.peer_idle-idle.result components
    (sym c.is_supplier.ensures ∙ c.if-not-is_supplier.false) (sym c.is_giving.ensures ∙ c.if-not-is_giving.false) c.peer_idle-idle.ensures (sym c.if-is_some.true ∙ c.is_some.ensures)
