-- The other end of a tunnel, as the code has it.
use Rattle.std.specs.Prelude.{ℕ, List}
use Rattle.il_machine.specs.Flow as machine
use Rattle.il_machine.specs.Places.{AtMostOne}
use Rattle.il_machine.specs.World.{is_numbered}
use Rattle.il_component.specs.Entries.{Entry, component_of}
use Rattle.graph_core.specs.declared.other_end.End.{End}

abbrev pub end_seen : machine.End → End
end_seen e = record { place = e.place; port = e.port }

-- no two have one number
abbrev pub NumbersDiffer : {C : Type 0} → List (Entry C) → Type 0
NumbersDiffer entries = (number : ℕ) → AtMostOne (λ e. is_numbered number (component_of e)) entries
