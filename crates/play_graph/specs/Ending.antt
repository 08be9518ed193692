-- The graph of a play is taken apart, and its files come back.
use Rattle.std.specs.Prelude.{◌≡◌, ℕ, ◌<◌, List, length, slice_get, Option, Some, option_map}
use Rattle.il_machine.specs.declared.answer.Progress.{Progress}
use Rattle.il_machine.specs.World.{Component, World}
use Rattle.il_machine.specs.Whole.{Stands}
use Rattle.audio_parts.specs.AnyParts.{attached_of}
use Rattle.audio_parts.specs.declared.part_file.PartFile.{PartFile}
use Rattle.il_graph.specs.Shown.{Shown, file_of}
use Rattle.play_graph.specs.Graphs.{kept_of}

module _ {S K : Type 0} where
  -- What came back of each component is the file object that the graph had of it. A component's number is its place.
  abbrev pub AreFilesOf : Shown S K Progress → ℕ → List (Option (PartFile S K)) → Type 0
  AreFilesOf graph places entries = (place : ℕ) → place < places → slice_get entries place ≡ Some (file_of place graph)

  -- the graph stands for a world of the kind
  abbrev pub StandsFor : (World → Type 0) → Shown S K Progress → Type 0
  StandsFor Kind graph = (w : World) × Stands (kept_of graph) w × Kind w

  -- what came back of the component at the place is its file, where it has one
  pub record IsBackAt (w : World) (place : ℕ) (file : Option (PartFile S K)) : Type 0 where
    pub component : Component
    pub there : slice_get w.components place ≡ Some component
    pub its : option_map attached_of file ≡ component.file

  -- each file is back at its place
  abbrev pub AreBack : World → List (Option (PartFile S K)) → Type 0
  AreBack w entries = (place : ℕ) → place < length w.components → (file : Option (PartFile S K)) × (slice_get entries place ≡ Some file) × IsBackAt w place file
