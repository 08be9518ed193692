-- What is known of a play's files and clients.
use Rattle.std.specs.Prelude.{List, Option}
use Rattle.outside_io.specs.declared.sink.Sink.{Ghosts as SinkGhosts}
use Rattle.outside_io.specs.declared.source.Source.{Ghosts as SourceGhosts}
use Rattle.audio_parts.specs.declared.part_file.PartFile.{PartFile}
use Rattle.il_machine.specs.declared.answer.Progress.{Progress}
use Rattle.note_queues.specs.contracts.client.ProgressClientClient.TheImpl.{ghosts}
use Rattle.graph_acts.specs.Plain.{Sight, sight_of}
use Rattle.play_files.specs.Seen.{FileSeen, file_seen, files_seen}

module _ {S K : Type 0} (reads : SourceGhosts S) (writes : SinkGhosts K) where
  -- a client object is its progress
  abbrev pub play_sight : Sight S K Progress
  play_sight = sight_of ghosts reads writes

  abbrev pub all_seen : List (Option (PartFile S K)) → List (Option FileSeen)
  all_seen entries = files_seen (file_seen reads writes) entries
