-- What a media in memory tells, and what each of its calls does.
use Rattle.std.specs.Prelude.{◌≡◌, ◌≢◌, ◌⊎◌, ℕ, List, [], ◌∷◌, true, false, Option, Some, None, Vec, String, string_bytes, bytes_eq, if◌then◌else◌, Result, Ok, Err}
use Rattle.std.specs.declared.alloc.Global.{Global}
use Rattle.outside_io.specs.Causes.{sum_of_counts}
use Rattle.outside_io.specs.Entries.{content}
use Rattle.outside_io.specs.Fails.{end_of, ends_of, fails_of, refuses, next_fails, seen_more, due_of}
use Rattle.outside_io.specs.Files.{Outside}
use Rattle.outside_io.specs.Memory.{source_bytes, source_name, source_offset, source_ends, source_asked, source_faults, source_reads, source_seeks, sink_bytes, sink_name, sink_faults, sink_room, sink_writes, sink_writing}
use Rattle.outside_io.specs.Named.{kept_names, names}
use Rattle.outside_io.specs.declared.fails.FailKind.TheVariants.{OpenSource, Read, Seek, OpenSink, AbsentSink, Write, Close}
use Rattle.outside_io.specs.declared.media.Refused.{Refused}
use Rattle.outside_io.specs.declared.media.Refused.TheVariants.{Absent, Failed, OutOfMemory}
use Rattle.outside_io.specs.declared.memory_media.MemoryMedia.{MemoryMedia}
use Rattle.outside_io.specs.declared.memory_sink.MemorySink.{MemorySink}
use Rattle.outside_io.specs.declared.memory_source.MemorySource.{MemorySource}
use Rattle.outside_io.specs.declared.plans.Planned.{Planned}
use Rattle.outside_io.specs.declared.source.Failed.{Failed as Fault}
use Rattle.outside_io.specs.declared.writing.Writing.TheVariants.{Going}

abbrev pub memory_file : MemoryMedia → List ℕ → Option (List ℕ)
memory_file m = content m.entries

abbrev pub memory_plans : MemoryMedia → List Planned
memory_plans m = m.plans.items

abbrev pub memory_room : MemoryMedia → ℕ
memory_room m = m.room

abbrev pub memory_outside : MemoryMedia → Outside
memory_outside m = record {
  tells = true;
  file = memory_file m;
  ends = ends_of (fails_of (memory_plans m));
  may_refuse = refuses (fails_of (memory_plans m));
  read_faults = m.read_faults;
  write_faults = m.write_faults;
  absences = m.absences;
  openings = Some (kept_names m.openings);
  failed_reads = Some (names m.failed_reads);
  failed_writes = Some (names m.failed_writes);
}

-- the three counts of a media
pub record HasCounts (m : MemoryMedia) (read_faults write_faults absences : ℕ) : Type 0 where
  pub read : (memory_outside m).read_faults ≡ read_faults
  pub write : (memory_outside m).write_faults ≡ write_faults
  pub absent : (memory_outside m).absences ≡ absences

-- a new source of a file: its reads and seeks fail where this plan says so
pub record IsNewSource (name bytes : List ℕ) (plans : List Planned) (src : MemorySource) : Type 0 where
  pub bytes_are : source_bytes src ≡ bytes
  pub named : source_name src ≡ name
  pub offset : source_offset src ≡ 0
  pub ends : source_ends src ≡ end_of (fails_of plans) name
  pub asked : source_asked src ≡ 0
  pub faults : source_faults src ≡ 0
  pub reads : (source_reads src).made ≡ 0
  pub failing_reads : (source_reads src).due.items ≡ due_of Read name plans
  pub seeks : (source_seeks src).made ≡ 0
  pub failing_seeks : (source_seeks src).due.items ≡ due_of Seek name plans

-- a new sink: its writes fail where this plan says so
pub record IsNewSink (name : List ℕ) (room : ℕ) (plans : List Planned) (snk : MemorySink) : Type 0 where
  pub empty : sink_bytes snk ≡ []
  pub named : sink_name snk ≡ name
  pub has_room : sink_room snk ≡ room
  pub faults : sink_faults snk ≡ 0
  pub writing : sink_writing snk ≡ Going
  pub writes : (sink_writes snk).made ≡ 0
  pub failing_writes : (sink_writes snk).due.items ≡ due_of Write name plans

-- The opening of a source fails where that call is listed, and is absent where else there is no such file. Where it wants memory, it
-- isn't counted, so that the failure listed for it comes with the next one; or it is, and isn't listed.
abbrev pub SourceAnswers : List ℕ → MemoryMedia → MemoryMedia → Result MemorySource Refused → Type 0
SourceAnswers name old new (Ok src) =
    (next_fails OpenSource name (memory_plans old) ≡ false)
    × ((bytes : List ℕ) × (memory_file old name ≡ Some bytes) × IsNewSource name bytes (memory_plans new) src)
    × HasCounts new (memory_outside old).read_faults (memory_outside old).write_faults (memory_outside old).absences
SourceAnswers name old new (Err Failed) =
    (next_fails OpenSource name (memory_plans old) ≡ true)
    × HasCounts new (sum_of_counts (memory_outside old).read_faults 1) (memory_outside old).write_faults (memory_outside old).absences
SourceAnswers name old new (Err Absent) =
    (next_fails OpenSource name (memory_plans old) ≡ false) × (memory_file old name ≡ None)
    × HasCounts new (memory_outside old).read_faults (memory_outside old).write_faults (sum_of_counts (memory_outside old).absences 1)
SourceAnswers name old new (Err OutOfMemory) =
    ((memory_plans new ≡ memory_plans old)
    ⊎ ((next_fails OpenSource name (memory_plans old) ≡ false) × (memory_plans new ≡ seen_more OpenSource name 1 (memory_plans old))))
    × HasCounts new (memory_outside old).read_faults (memory_outside old).write_faults (memory_outside old).absences

pub record OpensSource (name : List ℕ) (old new : MemoryMedia) (result : Result MemorySource Refused) : Type 0 where
  pub answers : SourceAnswers name old new result
  pub seen : result ≢ Err OutOfMemory → memory_plans new ≡ seen_more OpenSource name 1 (memory_plans old)
  pub room : memory_room new ≡ memory_room old

-- The opening of a sink is absent where that call is listed as such, and fails where else it is listed. Where it wants memory, the same
-- holds as of a source.
abbrev pub SinkAnswers : List ℕ → MemoryMedia → MemoryMedia → Result MemorySink Refused → Type 0
SinkAnswers name old new (Ok snk) =
    (next_fails AbsentSink name (memory_plans old) ≡ false) × (next_fails OpenSink name (seen_more AbsentSink name 1 (memory_plans old)) ≡ false)
    × IsNewSink name (memory_room old) (memory_plans new) snk
    × HasCounts new (memory_outside old).read_faults (memory_outside old).write_faults (memory_outside old).absences
SinkAnswers name old new (Err Absent) =
    (next_fails AbsentSink name (memory_plans old) ≡ true)
    × HasCounts new (memory_outside old).read_faults (memory_outside old).write_faults (sum_of_counts (memory_outside old).absences 1)
SinkAnswers name old new (Err Failed) =
    (next_fails AbsentSink name (memory_plans old) ≡ false) × (next_fails OpenSink name (seen_more AbsentSink name 1 (memory_plans old)) ≡ true)
    × HasCounts new (memory_outside old).read_faults (sum_of_counts (memory_outside old).write_faults 1) (memory_outside old).absences
SinkAnswers name old new (Err OutOfMemory) =
    ((memory_plans new ≡ memory_plans old)
    ⊎ ((next_fails AbsentSink name (memory_plans old) ≡ false)
    × (next_fails OpenSink name (seen_more AbsentSink name 1 (memory_plans old)) ≡ false)
    × (memory_plans new ≡ seen_more OpenSink name 1 (seen_more AbsentSink name 1 (memory_plans old)))))
    × HasCounts new (memory_outside old).read_faults (memory_outside old).write_faults (memory_outside old).absences

pub record OpensSink (name : List ℕ) (old new : MemoryMedia) (result : Result MemorySink Refused) : Type 0 where
  pub answers : SinkAnswers name old new result
  pub seen : result ≢ Err OutOfMemory → memory_plans new ≡ seen_more OpenSink name 1 (seen_more AbsentSink name 1 (memory_plans old))
  pub room : memory_room new ≡ memory_room old

-- the closing of a source adds its faults, and its reads and seeks to those of its name
pub record ClosesSource (src : MemorySource) (old new : MemoryMedia) : Type 0 where
  pub counts : HasCounts new (sum_of_counts (memory_outside old).read_faults (source_faults src)) (memory_outside old).write_faults (memory_outside old).absences
  pub seen : memory_plans new ≡ seen_more Seek (source_name src) (source_seeks src).made (seen_more Read (source_name src) (source_reads src).made (memory_plans old))
  pub room : memory_room new ≡ memory_room old

-- the closing of a sink fails where that call is listed
abbrev pub CloseAnswers : MemorySink → MemoryMedia → MemoryMedia → Result (Unit {0}) Fault → Type 0
CloseAnswers snk old new (Ok done) =
    (next_fails Close (sink_name snk) (seen_more Write (sink_name snk) (sink_writes snk).made (memory_plans old)) ≡ false)
    × HasCounts new (memory_outside old).read_faults (sum_of_counts (memory_outside old).write_faults (sink_faults snk)) (memory_outside old).absences
CloseAnswers snk old new (Err failed) =
    (next_fails Close (sink_name snk) (seen_more Write (sink_name snk) (sink_writes snk).made (memory_plans old)) ≡ true)
    × HasCounts new (memory_outside old).read_faults (sum_of_counts (sum_of_counts (memory_outside old).write_faults (sink_faults snk)) 1) (memory_outside old).absences

pub record ClosesSink (snk : MemorySink) (old new : MemoryMedia) (result : Result (Unit {0}) Fault) : Type 0 where
  pub answers : CloseAnswers snk old new result
  pub seen : memory_plans new ≡ seen_more Close (sink_name snk) 1 (seen_more Write (sink_name snk) (sink_writes snk).made (memory_plans old))
  pub room : memory_room new ≡ memory_room old

-- the content of the first of these files that has the name, or else what the rest holds
abbrev pub chained : List (String Global × Vec ℕ Global) → (List ℕ → Option (List ℕ)) → List ℕ → Option (List ℕ)
chained [] rest asked = rest asked
chained (file ∷ files) rest asked = if bytes_eq (string_bytes file.0) asked then Some file.1.items else chained files rest asked

-- a file, or else what the rest holds
abbrev pub file_or : String Global × Vec ℕ Global → (List ℕ → Option (List ℕ)) → List ℕ → Option (List ℕ)
file_or file rest asked = if bytes_eq (string_bytes file.0) asked then Some file.1.items else rest asked
