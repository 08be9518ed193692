-- Changes of flat lists and of what is kept that aren't among the machine's own.
use Rattle.std.specs.Prelude.{ℕ, Bool, true, false, List, [], ◌∷◌, Option, Some, option_map}
use Rattle.il_machine.specs.declared.port.PortKey.{PortKey}
use Rattle.il_machine.specs.declared.port.Mark.{Mark}
use Rattle.il_machine.specs.World.{HeaderRecord, Load}
use Rattle.il_machine.specs.Headers.{changed, cleared, unloaded}
use Rattle.il_machine.specs.Stock.{Stocked, state_out, at_key, at_number}

-- ---- flat lists

abbrev pub out_of_list : HeaderRecord → HeaderRecord
out_of_list r = record r { state = state_out r.state }

-- the header at the front of the numbers leaves its list where it stands
abbrev pub front_out : List ℕ → List HeaderRecord → List HeaderRecord
front_out [] headers = headers
front_out (number ∷ rest) headers = changed number out_of_list headers

-- cleared where the test says so
abbrev pub cleared_where : Bool → HeaderRecord → HeaderRecord
cleared_where true r = cleared r
cleared_where false r = r

-- ---- what is kept

abbrev pub emptied : List ℕ → (ℕ → Option Load) → ℕ → Option Load
emptied [] loads = loads
emptied (number ∷ rest) loads = emptied rest (at_number number (option_map unloaded (loads number)) loads)

-- every header of todo is cleared where it stands
abbrev pub todo_cleared : PortKey → Stocked → Stocked
todo_cleared key s = record s {
  headers = record s.headers { unmarked = at_key key (s.headers.todo key) s.headers.unmarked };
  loads = emptied (s.headers.todo key) s.loads;
}

-- every header of done is cleared where it stands
abbrev pub done_cleared : PortKey → Stocked → Stocked
done_cleared key s = record s { loads = emptied (s.headers.done key) s.loads }

abbrev pub load_marked : Mark → Load → Load
load_marked mark load = record load { mark = Some mark }

abbrev pub front_marked : PortKey → Mark → List ℕ → Stocked → Stocked
front_marked key mark [] s = s
front_marked key mark (number ∷ rest) s = record s {
  headers = record s.headers { unmarked = at_key key rest s.headers.unmarked };
  loads = at_number number (option_map (load_marked mark) (s.loads number)) s.loads;
}

-- the first header of todo without a mark gets the mark
abbrev pub marked_first : PortKey → Mark → Stocked → Stocked
marked_first key mark s = front_marked key mark (s.headers.unmarked key) s
