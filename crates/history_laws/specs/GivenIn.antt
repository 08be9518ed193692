-- The notes that acts gave for a component.
use Rattle.std.specs.Prelude.{ℕ, List, [], ◌∷◌, ◌++◌, Option, Some, None}
use Rattle.omx_types.specs.declared.command.Note.{Note}
use Rattle.il_machine.specs.Acts.{Act, Reply}
use Rattle.history_laws.specs.Given.{note_for}

abbrev pub note_list : Option Note → List Note
note_list None = []
note_list (Some note) = note ∷ []

-- one after another, for the component of the number
abbrev pub given_in : ℕ → List (Act × Reply) → List Note
given_in number [] = []
given_in number (x ∷ xs) = note_list (note_for number x.0 x.1) ++ given_in number xs
