-- The file of a graph without files.
use Rattle.il_graph.specs.declared.no_file.EmptyFile.{EmptyFile}
use Rattle.il_graph.specs.declared.no_file.Nothing.{Nothing}

abbrev pub NoFile : Type 0
NoFile = EmptyFile Nothing
