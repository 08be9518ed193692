use Rattle.std.specs.Prelude.{◌<◌, ◌≡◌, ℕ, Some, slice_get}
use Rattle.il_graph.specs.Shown.{look_of}
use Rattle.trace_run.specs.declared.names.NamedComponent.{NamedComponent}
use Rattle.trace_run.specs.Standing.{parts, HasMoment}
use Rattle.trace_run.specs.Closing.{HaveNoWork, IsEnded}
use Rattle.trace_run.proofs.desk.Desk.give_back.Given as goal

abbrev pub invariant-loop-entry : goal.invariant-loop-entry
invariant-loop-entry l = record {
  stood : HasMoment (parts l.graph l.entry-items l.slots.items);
  ended : (i : ℕ) (entry : NamedComponent) → i < l.entry-index → slice_get l.entry-items i ≡ Some entry → IsEnded entry.handle (look_of l.graph);
  works : HaveNoWork (look_of l.graph);
}
