-- A play that ends before its time.
use Rattle.std.specs.Prelude.{List, Option}
use Rattle.audio_parts.specs.declared.part_file.PartFile.{PartFile}
use Rattle.play_graph.specs.Ending.{AreBack}
use Rattle.play_run.specs.declared.failure.Stop.{Stop}
use Rattle.play_run.specs.Playing.{PlayingValue}
use Rattle.play_run.specs.Turning.{HasBrokenOff, world_then}

module _ {S K : Type 0} where
  -- each component's file is back at its place
  abbrev pub GivesBackStopped : PlayingValue S K → List (Option (PartFile S K)) → Type 0
  GivesBackStopped x entries = (stop : Stop) (B : HasBrokenOff x stop) → AreBack (world_then x stop B) entries
