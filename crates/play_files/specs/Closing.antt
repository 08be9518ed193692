-- What the closing of files leaves.
use Rattle.std.specs.Prelude.{◌≡◌, ◌≢◌, ℕ, ◌-◌, ◌<◌, ◌^◌, ◌≤◌, List, [], ◌∷◌, length, slice_get, sum_by, Option, Some, Result, Ok, Err, OnOk, OnErr}
use Rattle.omx_types.specs.declared.format.Format.{Format}
use Rattle.outside_io.specs.Causes.{Rose, sum_of_counts}
use Rattle.outside_io.specs.Files.{GoesOn, IsFrontOf, Outside, with_names}
use Rattle.outside_io.specs.Moves.{WhereTold}
use Rattle.outside_io.specs.declared.source.Failed.{Failed}
use Rattle.play_files.specs.Seen.{FileSeen, Reads, SinkSeen, SourceSeen, Writes}

-- the failed reads of a file, and its failed writes
abbrev pub failed_reads : Option FileSeen → ℕ
failed_reads (Some (Reads source format frames)) = source.faults
failed_reads other = 0

abbrev pub failed_writes : Option FileSeen → ℕ
failed_writes (Some (Writes sink frames)) = sink.faults
failed_writes other = 0

-- at the place stands that sink
abbrev pub IsSinkAt : List (Option FileSeen) → ℕ → SinkSeen → Type 0
IsSinkAt files place sink = (frames : ℕ) × (slice_get files place ≡ Some (Some (Writes sink frames)))

-- at the place stands that source
abbrev pub IsSourceAt : List (Option FileSeen) → ℕ → SourceSeen → Type 0
IsSourceAt files place source = (format : Format) × (frames : ℕ) × (slice_get files place ≡ Some (Some (Reads source format frames)))

-- it is the name of a source that failed
abbrev pub IsOfFailed : List (Option FileSeen) → List ℕ → Type 0
IsOfFailed files name = (place : ℕ) × (source : SourceSeen) × IsSourceAt files place source × (source.name ≡ name) × (1 ≤ source.faults)

-- the names of sources that failed were added, one for each of their failed calls, and no other
abbrev pub NamesFailed : List (Option FileSeen) → Option (List (List ℕ)) → Option (List (List ℕ)) → Type 0
NamesFailed files old new =
    (more : List (List ℕ)) × (length more ≡ sum_by failed_reads files) × ((k : ℕ) (name : List ℕ) → slice_get more k ≡ Some name → IsOfFailed files name)
    × (new ≡ with_names more old)

-- no two sinks have one name
abbrev pub AreNamedApart : List (Option FileSeen) → Type 0
AreNamedApart files = (place other : ℕ) (a b : SinkSeen) → IsSinkAt files place a → IsSinkAt files other b → a.name ≡ b.name → place ≡ other

-- no sink has this name
abbrev pub IsNoneOf : List (Option FileSeen) → List ℕ → Type 0
IsNoneOf files name = (place : ℕ) (sink : SinkSeen) → IsSinkAt files place sink → sink.name ≢ name

-- Files were closed, and this is the answer. Their faults are counted. Of names, only those of sinks changed: each has what its sink
-- took, unless a closing failed, and a front of that in any case. Where no read failed that count stands, and where there is no sink
-- nothing is written; each failed read is named by its source, and where no failed write was counted, none is named.
pub record AreClosed (files : List (Option FileSeen)) (old new : Outside) (result : Result (Unit {0}) Failed) : Type 0 where
  pub goes_on : GoesOn old new
  pub absences : new.absences ≡ old.absences
  pub openings : new.openings ≡ old.openings
  pub named : old.write_faults < 2 ^ 64 - 1 → new.write_faults ≡ old.write_faults → new.failed_writes ≡ old.failed_writes
  pub named_reads : NamesFailed files old.failed_reads new.failed_reads
  pub reads : old.read_faults < 2 ^ 64 → new.read_faults ≡ sum_of_counts old.read_faults (sum_by failed_reads files)
  pub writes : sum_of_counts old.write_faults (sum_by failed_writes files) ≤ new.write_faults
  pub unread : sum_by failed_reads files ≡ 0 → new.read_faults ≡ old.read_faults
  pub whole : old.write_faults < 2 ^ 64 → OnOk result (new.write_faults ≡ sum_of_counts old.write_faults (sum_by failed_writes files))
  pub failed : OnErr result (Rose (sum_of_counts old.write_faults (sum_by failed_writes files)) new.write_faults)
  pub others : (name : List ℕ) → IsNoneOf files name → new.file name ≡ old.file name
  pub unwritten : ((place : ℕ) (sink : SinkSeen) → IsSinkAt files place sink → ⊥) → (new.file ≡ old.file) × (new.write_faults ≡ old.write_faults) × (new.failed_writes ≡ old.failed_writes)
  pub held : AreNamedApart files → (place : ℕ) (sink : SinkSeen) → IsSinkAt files place sink → OnOk result (new.file sink.name ≡ sink.told)
  pub front : AreNamedApart files → (place : ℕ) (sink : SinkSeen) → IsSinkAt files place sink → WhereTold sink.told (IsFrontOf (new.file sink.name))

-- the same of one file
pub record IsClosed (file : Option FileSeen) (old new : Outside) (result : Result (Unit {0}) Failed) : Type 0 where
  pub goes_on : GoesOn old new
  pub absences : new.absences ≡ old.absences
  pub openings : new.openings ≡ old.openings
  pub named : old.write_faults < 2 ^ 64 - 1 → new.write_faults ≡ old.write_faults → new.failed_writes ≡ old.failed_writes
  pub named_reads : NamesFailed (file ∷ []) old.failed_reads new.failed_reads
  pub reads : old.read_faults < 2 ^ 64 → new.read_faults ≡ sum_of_counts old.read_faults (failed_reads file)
  pub writes : sum_of_counts old.write_faults (failed_writes file) ≤ new.write_faults
  pub unread : failed_reads file ≡ 0 → new.read_faults ≡ old.read_faults
  pub whole : old.write_faults < 2 ^ 64 → OnOk result (new.write_faults ≡ sum_of_counts old.write_faults (failed_writes file))
  pub failed : OnErr result (Rose (sum_of_counts old.write_faults (failed_writes file)) new.write_faults)
  pub unwritten : ((sink : SinkSeen) (frames : ℕ) → file ≡ Some (Writes sink frames) → ⊥) → (new.file ≡ old.file) × (new.write_faults ≡ old.write_faults) × (new.failed_writes ≡ old.failed_writes)
  pub others : (name : List ℕ) → ((sink : SinkSeen) (frames : ℕ) → file ≡ Some (Writes sink frames) → sink.name ≢ name) → new.file name ≡ old.file name
  pub held : (sink : SinkSeen) (frames : ℕ) → file ≡ Some (Writes sink frames) → OnOk result (new.file sink.name ≡ sink.told)
  pub front : (sink : SinkSeen) (frames : ℕ) → file ≡ Some (Writes sink frames) → WhereTold sink.told (IsFrontOf (new.file sink.name))

-- what two closings come to: one that failed isn't made good by the other
abbrev pub joined : Result (Unit {0}) Failed → Result (Unit {0}) Failed → Result (Unit {0}) Failed
joined (Ok done) then = then
joined (Err failed) then = Err failed
