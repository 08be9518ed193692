-- The files of a replay's components, each in the graph or with the work that is out, and what stays of them.
use Rattle.std.specs.Prelude.{ℕ, Bool, Option, Some, None, slice_get}
use Rattle.omx_types.specs.declared.fault.PartFault.{PartFault}
use Rattle.audio_parts.specs.Objects.{BothOrNone, FileShows, FileStays, OnBoth, SinkShows, SinkStays, SourceShows, SourceStays}
use Rattle.audio_parts.specs.Shown.{ShownPart}
use Rattle.audio_parts.specs.declared.part_file.PartFile.{PartFile}
use Rattle.il_flow.specs.Works.{WorkOf}
use Rattle.compared_files.specs.Comparing.{ComparingValue}
use Rattle.graph_acts.specs.Objects.{files_in}
use Rattle.graph_acts.specs.Plain.{Sight}
use Rattle.run_audit.specs.declared.replay.Replay.{Replay}

-- the file of a component, by what is held of it, and by its file in the graph
abbrev pub file_with : {S K : Type 0} → Option (Option (WorkOf (ShownPart S K))) → Option (PartFile S K) → Option (PartFile S K)
file_with (Some (Some work)) inside = (work.part).file
file_with (Some None) inside = inside
file_with None inside = inside

module _ {S C : Type 0} (see : Sight S (ComparingValue S) C) where
  abbrev pub file_at : Replay S C → ℕ → Option (PartFile S (ComparingValue S))
  file_at r place = file_with (slice_get r.works.items place) (files_in r.served.graph place)

  -- a component has no file then and now, or the object that it had, read or written further; also where a step failed
  abbrev pub FileGoesOn : Bool → Option (PartFile S (ComparingValue S)) → Option (PartFile S (ComparingValue S)) → Type 0
  FileGoesOn failed before now =
      BothOrNone (FileStays (SourceStays see.reads.name see.reads.size see.reads.told see.reads.ends see.reads.offset see.reads.faults failed) (SinkStays see.writes.name see.writes.faults)) before now

  abbrev pub FilesGoOn : Bool → Replay S C → Replay S C → Type 0
  FilesGoOn failed old new = (place : ℕ) → FileGoesOn failed (file_at old place) (file_at new place)

  -- it shows of the file of the component at the place that a step of it answered the fault since then
  abbrev pub ShowsFault : PartFault → ℕ → Replay S C → Replay S C → Type 0
  ShowsFault fault place old new =
      OnBoth (FileShows (SourceShows see.reads.size see.reads.ends see.reads.offset see.reads.faults fault) (SinkShows see.writes.faults fault)) (file_at old place) (file_at new place)
