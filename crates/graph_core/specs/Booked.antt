-- What a graph's book has of each component: the units that it holds, and its wait for some.
use Rattle.std.specs.Prelude.{List, map, filter, Option, Some, None, if◌then◌else◌}
use Rattle.resource_book.specs.declared.row.Held.{Held}
use Rattle.resource_book.specs.declared.row.Row.{Row}
use Rattle.resource_book.specs.declared.row.Wait.{Wait}
use Rattle.resource_book.specs.Rows.{is_kept}
use Rattle.il_machine.specs.World.{Component, number_of}
use Rattle.il_machine.specs.Units.{need_of, number_or_0, is_giving_back, is_waiter}

abbrev pub held_for : Component → Option Held
held_for c = if c.holds then Some (record { units = need_of c; returning = is_giving_back c }) else None

abbrev pub wait_for : Component → Option Wait
wait_for c = if is_waiter c then Some (record { need = need_of c; number = number_or_0 c.waiting }) else None

abbrev pub row_for : Component → Row
row_for c = record { component = number_of c; priority = c.settings.priority; held = held_for c; wait = wait_for c }

-- a row for each that holds units or waits, in the order of the components
abbrev pub booked : List Component → List Row
booked components = filter is_kept (map row_for components)
