-- What a contract sees of the open files of a play.
use Rattle.std.specs.Prelude.{ℕ, ◌-◌, List, drop, map, Option, option_map}
use Rattle.omx_types.specs.declared.format.Format.{Format}
use Rattle.outside_io.specs.declared.sink.Sink.{Ghosts as SinkGhosts}
use Rattle.outside_io.specs.declared.source.Source.{Ghosts as SourceGhosts}
use Rattle.il_machine.specs.Files.{Offered, OfferedFrom, OfferedTo}
use Rattle.audio_parts.specs.declared.part_file.PartFile.{PartFile}
use Rattle.audio_parts.specs.declared.part_file.PartFile.TheVariants as files

pub record SourceSeen : Type 0 where
  pub offset : ℕ
  pub size : ℕ
  pub told : Option (List ℕ)
  pub ends : Option ℕ
  pub name : List ℕ
  pub faults : ℕ

pub record SinkSeen : Type 0 where
  pub told : Option (List ℕ)
  pub name : List ℕ
  pub faults : ℕ

-- a file that is read, with the format and the frames of its head; one that is written, with the frames that are planned
pub data FileSeen : Type 0 where
  Reads : (source : SourceSeen) (format : Format) (frames : ℕ) → FileSeen
  Writes : (sink : SinkSeen) (frames : ℕ) → FileSeen

abbrev pub source_seen : {S : Type 0} → SourceGhosts S → S → SourceSeen
source_seen g src = record { offset = g.offset src; size = g.size src; told = g.told src; ends = g.ends src; name = g.name src; faults = g.faults src }

abbrev pub sink_seen : {K : Type 0} → SinkGhosts K → K → SinkSeen
sink_seen g snk = record { told = g.told snk; name = g.name snk; faults = g.faults snk }

abbrev pub file_seen : {S K : Type 0} → SourceGhosts S → SinkGhosts K → PartFile S K → FileSeen
file_seen reads writes (files.From src format frames) = Reads (source_seen reads src) format frames
file_seen reads writes (files.To snk frames) = Writes (sink_seen writes snk) frames

abbrev pub files_seen : {F : Type 0} → (F → FileSeen) → List (Option F) → List (Option FileSeen)
files_seen seen entries = map (option_map seen) entries

-- as the machine is offered it
abbrev pub offer : FileSeen → Offered
offer (Reads source format frames) = OfferedFrom format frames (source.size - source.offset) (option_map (drop source.offset) source.told)
offer (Writes sink frames) = OfferedTo frames sink.told
