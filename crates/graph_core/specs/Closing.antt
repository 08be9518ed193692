-- What is due first at a component of a graph.
use Rattle.std.specs.Prelude.{◌≡◌, ℕ, List, slice_get, Some, IsSomeAnd}
use Rattle.il_machine.specs.Due.{due_in}
use Rattle.il_machine.specs.Headers.{Seen}
use Rattle.il_component.specs.Entries.{Entry, component_of}
use Rattle.port_rules.specs.declared.due.Due.{Due}
use Rattle.port_rules.specs.Tests.{thing_of}

-- the component at the place has this due first
abbrev pub IsDueAt : {C : Type 0} → Seen → List (Entry C) → ℕ → Due → Type 0
IsDueAt headers entries place due = IsSomeAnd (slice_get entries place) (λ e. due_in headers (component_of e) ≡ Some (thing_of due))
