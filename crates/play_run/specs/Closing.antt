-- A play that is over.
use Rattle.audio_parts.specs.declared.part_file.PartFile.{PartFile}
use Rattle.std.specs.Prelude.{◌≡◌, List, Option}
use Rattle.play_model.specs.Play.{Play}
use Rattle.play_model.specs.Reached.{IsOver}
use Rattle.play_plan_laws.specs.Assemblies.{PlayFiles}
use Rattle.play_graph.specs.Ending.{AreBack}
use Rattle.play_log.specs.Kept.{LogValue}
use Rattle.play_run.specs.Logging.{IsKeptTo}
use Rattle.play_run.specs.Playing.{IsPlaying, PlayingValue, layout_of}

module _ {S K : Type 0} where
  -- one that the graph stands for is over
  abbrev pub HasPlayed : PlayingValue S K → Type 0
  HasPlayed x = (p : Play) × IsPlaying x p × IsOver (layout_of x.plan) p

  -- one that the graph stands for began with the files
  abbrev pub HasBegun : PlayingValue S K → PlayFiles → Type 0
  HasBegun x given = (p : Play) × (Y : IsPlaying x p) × (Y.standing.files ≡ given)

  -- such a one is over
  abbrev pub HasPlayedWith : PlayingValue S K → PlayFiles → Type 0
  HasPlayedWith x given = (p : Play) × (Y : IsPlaying x p) × IsOver (layout_of x.plan) p × (Y.standing.files ≡ given)

  -- Whichever of its plays is over, the log is that of the play, from where it begins with its files to the world that it came to.
  abbrev pub KeepsLog : PlayingValue S K → LogValue → Type 0
  KeepsLog x log = (p : Play) (Y : IsPlaying x p) → IsOver (layout_of x.plan) p → IsKeptTo x.plan Y.standing.files log Y.standing.world

  -- Whichever of its plays is over, each component's file is back at its place.
  abbrev pub GivesBack : PlayingValue S K → List (Option (PartFile S K)) → Type 0
  GivesBack x entries = (p : Play) (Y : IsPlaying x p) → IsOver (layout_of x.plan) p → AreBack Y.standing.world entries
