-- What calls on buffers look at beside one component.
use Rattle.std.specs.Prelude.{[]}
use Rattle.il_machine.specs.Look.{Look}
use Rattle.il_machine.specs.Stock.{Stocked}

-- what is seen of a graph of this stock that has no component and no units
abbrev pub look_of_stock : Stocked → Look
look_of_stock s = record { key = s.key; components = []; headers = s.headers; units = 0; numbered = 0; made = s.next; waits = 0 }
