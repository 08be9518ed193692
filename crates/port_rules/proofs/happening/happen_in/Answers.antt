use Rattle.std.proofs.Common.{Some, ◌∙◌, ap}
use Rattle.il_component.specs.Entries.{component_of}
use Rattle.port_stock.specs.Kept.{stocked}
use Rattle.port_rules.specs.declared.due.Due.{Due}
use Rattle.port_rules.specs.Tests.{thing_of}
use Rattle.port_rules.proofs.Happenings.{due_transition, due_flush, due_mode, due_mark}
use Rattle.port_rules.proofs.happening.happen_in.Goals as goal

pub reach-requires-clause-pending : goal.reach-requires-clause-pending
reach-requires-clause-pending g c =
    due_transition (stocked c.args.stock.now).headers (component_of c.args.component.now) (c.requires.first ∙ ap (λ (d : Due). Some (thing_of d)) c.in-Transition.is)

pub end_flush-requires-clause-due : goal.end_flush-requires-clause-due
end_flush-requires-clause-due g c =
    due_flush (stocked c.args.stock.now).headers (component_of c.args.component.now) c.in-Flush.index (c.requires.first ∙ ap (λ (d : Due). Some (thing_of d)) c.in-Flush.is)

pub end_mode-requires-clause-due : goal.end_mode-requires-clause-due
end_mode-requires-clause-due g c =
    due_mode (stocked c.args.stock.now).headers (component_of c.args.component.now) c.in-Mode.index (c.requires.first ∙ ap (λ (d : Due). Some (thing_of d)) c.in-Mode.is)

pub end_mark-requires-clause-due : goal.end_mark-requires-clause-due
end_mark-requires-clause-due g c =
    due_mark (stocked c.args.stock.now).headers (component_of c.args.component.now) c.in-Mark.index (c.requires.first ∙ ap (λ (d : Due). Some (thing_of d)) c.in-Mark.is)
