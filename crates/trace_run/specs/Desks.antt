-- What is kept of a trace, by the code's own record.
use Rattle.std.specs.Prelude.{List}
use Rattle.trace_run.specs.declared.desk.Desk.{Desk}
use Rattle.trace_run.specs.declared.names.NamedComponent.{NamedComponent}
use Rattle.trace_run.specs.declared.slots.Slot.{Slot}
use Rattle.trace_run.specs.Standing.{GraphShown, parts}
use Rattle.held_work_laws.specs.Works.{HeldWork}
use Rattle.trace_run.specs.Works.{OnDesk}

abbrev pub desk_of : GraphShown → List NamedComponent → List Slot → List HeldWork → OnDesk
desk_of graph components slots works = record { parts = parts graph components slots; works = works }

abbrev pub on_desk : Desk → OnDesk
on_desk desk = desk_of desk.graph desk.components.items desk.slots.items desk.works.items
