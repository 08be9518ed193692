-- Which files the opening of a play asked for.
use Rattle.std.specs.Prelude.{◌≡◌, ℕ, List}
use Rattle.std.specs.List.{filter_map}
use Rattle.outside_io.specs.Files.{Outside, with_names}
use Rattle.script_lang.specs.declared.play_line.PartLine.{PartLine}
use Rattle.play_result_laws.specs.Files.{read_by, written_by}

-- the names of the files that these components read, and of those that they write, in the script's order
abbrev pub read_names : List PartLine → List (List ℕ)
read_names = filter_map (λ (part : PartLine). read_by part.form)

abbrev pub written_names : List PartLine → List (List ℕ)
written_names = filter_map (λ (part : PartLine). written_by part.form)

-- these names were asked for, in this order and each once, and no others, where that is told
abbrev pub HasAskedFor : Outside → Outside → List (List ℕ) → Type 0
HasAskedFor old new names = new.openings ≡ with_names names old.openings
