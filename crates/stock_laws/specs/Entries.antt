-- What is kept of a list of entries, each with a component's record, its client object's progress and the headers in its notes.
use Rattle.std.specs.Prelude.{List, [], ◌∷◌, ◌++◌}
use Rattle.il_machine.specs.Whole.{Noticed}

-- the headers in the notes of all entries
abbrev pub all_held : {E : Type 0} → (E → List Noticed) → List E → List Noticed
all_held held [] = []
all_held held (e ∷ entries) = held e ++ all_held held entries
