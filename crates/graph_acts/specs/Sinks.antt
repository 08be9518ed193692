-- The sink that a part writes to, by what is shown of the part.
use Rattle.std.specs.Prelude.{Option, Some, None, option_and_then}
use Rattle.audio_parts.specs.declared.part_file.PartFile.{PartFile}
use Rattle.audio_parts.specs.declared.part_file.PartFile.TheVariants as files
use Rattle.audio_parts.specs.Shown.{ShownPart}

module _ {S K : Type 0} where
  abbrev pub written_to : PartFile S K → Option K
  written_to (files.From src format frames) = None
  written_to (files.To snk frames) = Some snk

  abbrev pub sink_in : ShownPart S K → Option K
  sink_in part = option_and_then written_to part.file
