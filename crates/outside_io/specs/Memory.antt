-- What a source and a sink in memory hold, and what one call does to them.
use Rattle.std.specs.Prelude.{◌≡◌, ℕ, ◌-◌, ◌==◌, min, Bool, true, false, ◌||◌, List, length, string_bytes, Result, Ok, Err}
use Rattle.outside_io.specs.Calls.{called, call_fails}
use Rattle.outside_io.specs.Causes.{sum_of_counts}
use Rattle.outside_io.specs.declared.calls.Calls.{Calls}
use Rattle.outside_io.specs.declared.memory_source.MemorySource.{MemorySource}
use Rattle.outside_io.specs.declared.memory_sink.MemorySink.{MemorySink}
use Rattle.outside_io.specs.declared.source.Failed.{Failed}
use Rattle.outside_io.specs.declared.writing.Writing.{Writing}

abbrev pub source_bytes : MemorySource → List ℕ
source_bytes s = s.bytes.items

abbrev pub source_name : MemorySource → List ℕ
source_name s = string_bytes s.name

abbrev pub source_offset : MemorySource → ℕ
source_offset s = s.offset

abbrev pub source_ends : MemorySource → ℕ
source_ends s = s.end

-- the greatest offset up to which it was asked for bytes
abbrev pub source_asked : MemorySource → ℕ
source_asked s = s.asked

abbrev pub source_faults : MemorySource → ℕ
source_faults s = s.faults

-- the reads so far, and those that fail
abbrev pub source_reads : MemorySource → Calls
source_reads s = s.reads

-- the seeks so far, and those that fail
abbrev pub source_seeks : MemorySource → Calls
source_seeks s = s.seeks

-- how many bytes it gives from its offset on
abbrev pub source_left : MemorySource → ℕ
source_left s = min s.end (length s.bytes.items) - s.offset

-- a read into so many bytes gives all that fit, unless it is one that fails
abbrev pub ReadAnswers : MemorySource → MemorySource → ℕ → Result ℕ Failed → Type 0
ReadAnswers old new size (Ok count) =
    (call_fails (source_reads old) ≡ false) × (count ≡ min size (source_left old)) × (source_faults new ≡ source_faults old)
ReadAnswers old new size (Err failed) =
    (call_fails (source_reads old) ≡ true) × (source_offset new ≡ source_offset old) × (source_faults new ≡ sum_of_counts (source_faults old) 1)

pub record Reads (old new : MemorySource) (size : ℕ) (result : Result ℕ Failed) : Type 0 where
  pub answers : ReadAnswers old new size result
  pub reads : source_reads new ≡ called (source_reads old)
  pub seeks : source_seeks new ≡ source_seeks old
  pub name : source_name new ≡ source_name old

-- a seek reaches its offset, unless it is one that fails
abbrev pub SeekAnswers : MemorySource → MemorySource → Result (Unit {0}) Failed → Type 0
SeekAnswers old new (Ok done) = (call_fails (source_seeks old) ≡ false) × (source_faults new ≡ source_faults old)
SeekAnswers old new (Err failed) =
    (call_fails (source_seeks old) ≡ true) × (source_offset new ≡ source_offset old) × (source_faults new ≡ sum_of_counts (source_faults old) 1)

pub record Seeks (old new : MemorySource) (result : Result (Unit {0}) Failed) : Type 0 where
  pub answers : SeekAnswers old new result
  pub reads : source_reads new ≡ source_reads old
  pub seeks : source_seeks new ≡ called (source_seeks old)
  pub name : source_name new ≡ source_name old

abbrev pub sink_bytes : MemorySink → List ℕ
sink_bytes s = s.bytes.items

abbrev pub sink_name : MemorySink → List ℕ
sink_name s = string_bytes s.name

abbrev pub sink_faults : MemorySink → ℕ
sink_faults s = s.faults

abbrev pub sink_room : MemorySink → ℕ
sink_room s = s.room

-- how its writes went
abbrev pub sink_writing : MemorySink → Writing
sink_writing s = s.writing

-- the writes so far, and those that fail
abbrev pub sink_writes : MemorySink → Calls
sink_writes s = s.writes

-- how many bytes of the room are left
abbrev pub sink_left : MemorySink → ℕ
sink_left s = s.room - length s.bytes.items

-- whether the next write fails: it is one that fails, or no byte of the room is left
abbrev pub write_fails : MemorySink → Bool
write_fails s = call_fails (sink_writes s) || (sink_left s == 0)

-- a write takes the front that fits, unless it fails
abbrev pub WriteAnswers : MemorySink → MemorySink → ℕ → Result ℕ Failed → Type 0
WriteAnswers old new size (Ok count) =
    (write_fails old ≡ false) × (count ≡ min size (sink_left old)) × (sink_faults new ≡ sink_faults old)
WriteAnswers old new size (Err failed) =
    (write_fails old ≡ true) × (sink_faults new ≡ sum_of_counts (sink_faults old) 1)

pub record Writes (old new : MemorySink) (size : ℕ) (result : Result ℕ Failed) : Type 0 where
  pub answers : WriteAnswers old new size result
  pub writes : sink_writes new ≡ called (sink_writes old)
  pub room : sink_room new ≡ sink_room old
