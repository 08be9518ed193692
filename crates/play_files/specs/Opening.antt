-- How far the files of a play are open.
use Rattle.std.specs.Prelude.{◌≡◌, ◌≢◌, ℕ, ◌+◌, ◌<◌, ◌≤◌, List, take, [], ◌∷◌, length, slice_get, slice_index_or, Option, Some, None, option_map, Ok, Err, IsTrue}
use Rattle.omx_types.specs.declared.fault.Fault.{Fault}
use Rattle.omx_types.specs.declared.fault.Fault.TheVariants as Faults
use Rattle.omx_types.specs.declared.fault.WavFault.{WavFault}
use Rattle.omx_types.specs.declared.fault.WavFault.TheVariants as WavFaults
use Rattle.omx_types.specs.declared.fault.Which.TheVariants.{Line}
use Rattle.outside_io.specs.Causes.{Rose}
use Rattle.outside_io.specs.Files.{GoesOn, IsFailedRead, Outside, TellsAbsence}
use Rattle.outside_io.specs.Moves.{WhereTold}
use Rattle.wav_form.specs.Reading.{FitsFile, Reads as ReadsAs, most_bytes}
use Rattle.wav_form.specs.Stops.{StoppedShort}
use Rattle.wav_form.specs.declared.heads.WavHead.{WavHead}
use Rattle.script_lang.specs.declared.play_line.PartForm.{PartForm}
use Rattle.script_lang.specs.declared.play_line.PartForm.TheVariants.{Late, Sink, Source}
use Rattle.script_lang.specs.declared.play_line.PartLine.{PartLine}
use Rattle.play_forms.specs.Parts.{source_number}
use Rattle.play_result_laws.specs.Files.{read_by, written_by}
use Rattle.play_files.specs.Asked.{HasAskedFor, read_names}
use Rattle.play_files.specs.Seen.{FileSeen, Reads, SinkSeen, SourceSeen, Writes}

-- nothing that is told of the files changed, no count rose, and no failed read or write was named
pub record IsStill (old new : Outside) : Type 0 where
  pub goes_on : GoesOn old new
  pub files : new.file ≡ old.file
  pub reads : new.read_faults ≡ old.read_faults
  pub writes : new.write_faults ≡ old.write_faults
  pub absences : new.absences ≡ old.absences
  pub unread : new.failed_reads ≡ old.failed_reads
  pub failed : new.failed_writes ≡ old.failed_writes

-- ---- one file

-- the told file of the name has this head
abbrev pub HasHead : Outside → List ℕ → WavHead → Type 0
HasHead old name head = (bytes : List ℕ) × (old.file name ≡ Some bytes) × ReadsAs bytes (Ok head)

-- a source of that name, which stands behind its head
pub record IsSourceOf (old : Outside) (name : List ℕ) (head : WavHead) (source : SourceSeen) : Type 0 where
  pub offset : source.offset ≡ head.start
  pub name_is : IsTrue old.tells → source.name ≡ name
  pub fits : FitsFile head source.size
  pub faults : source.faults ≡ 0
  pub told : source.told ≡ old.file name
  pub whole : WhereTold (old.file name) (λ bytes. source.size ≡ length bytes)
  pub ends : source.ends ≡ old.ends name
  pub starts : WhereTold (old.ends name) (λ end. head.start ≤ end)
  pub head_is : IsTrue old.tells → HasHead old name head
  -- what is told of it reads as this head
  pub reads_as : WhereTold (old.file name) (λ bytes. ReadsAs bytes (Ok head))

-- a new sink of that name
pub record IsSinkOf (old : Outside) (name : List ℕ) (sink : SinkSeen) : Type 0 where
  pub faults : sink.faults ≡ 0
  pub told : IsTrue old.tells → sink.told ≡ Some []
  pub name_is : IsTrue old.tells → sink.name ≡ name

-- ---- why it isn't open

-- the bytes themselves are at fault, and not a read of them
abbrev pub IsOfHead : WavFault → Type 0
IsOfHead WavFaults.Read = ⊥
IsOfHead (WavFaults.Short at size) = ⊥
IsOfHead fault = Unit {0}

-- the source of that name gave nothing at `at`, below its size: where its end is told, there, or at the next chunk's head where that end
-- lies in bytes that the reading of a head passes over
pub record IsShortHead (name : List ℕ) (old : Outside) (at size : ℕ) : Type 0 where
  pub stopped : StoppedShort size (old.file name) (old.ends name) at size
  pub whole : IsTrue old.tells → (bytes : List ℕ) × (old.file name ≡ Some bytes) × (size ≡ length bytes)
  -- a file with samples is short only before them
  pub inside : WhereTold (old.file name) (λ bytes. (head : WavHead) → ReadsAs bytes (Ok head) → at < head.start)
  -- a larger file is too large, and not short
  pub small : size ≤ most_bytes

-- why the source in that line isn't open behind its head
abbrev pub IsSourceFault : ℕ → List ℕ → Outside → Outside → Fault → Type 0
IsSourceFault line name old new (Faults.BadMedia which fault) =
    (which ≡ Line line) × IsOfHead fault × (IsTrue old.tells → (bytes : List ℕ) × (old.file name ≡ Some bytes) × ReadsAs bytes (Err fault))
IsSourceFault line name old new Faults.ReadFault = IsFailedRead (name ∷ []) old new
IsSourceFault line name old new (Faults.Absent which) = (which ≡ Line line) × Rose old.absences new.absences × (old.file name ≡ None)
IsSourceFault line name old new Faults.OutOfMemory = Unit {0}
IsSourceFault line name old new (Faults.Short which at size) = (which ≡ Line line) × IsShortHead name old at size
IsSourceFault line name old new other = ⊥

-- why the sink in that line isn't open
abbrev pub IsSinkFault : ℕ → List ℕ → Outside → Outside → Fault → Type 0
IsSinkFault line name old new Faults.WriteFault = Rose old.write_faults new.write_faults
IsSinkFault line name old new (Faults.Absent which) = (which ≡ Line line) × Rose old.absences new.absences × IsTrue (old.may_refuse name)
IsSinkFault line name old new Faults.OutOfMemory = Unit {0}
IsSinkFault line name old new other = ⊥

-- the source wasn't opened behind its head, and is closed
pub record IsSourceRefused (line : ℕ) (name : List ℕ) (old new : Outside) (fault : Fault) : Type 0 where
  pub goes_on : GoesOn old new
  pub files : new.file ≡ old.file
  pub reads : fault ≢ Faults.ReadFault → new.read_faults ≡ old.read_faults
  pub unread : fault ≢ Faults.ReadFault → new.failed_reads ≡ old.failed_reads
  pub writes : new.write_faults ≡ old.write_faults
  pub unabsent : TellsAbsence Faults.Absent old new fault
  pub why : IsSourceFault line name old new fault

pub record IsSinkRefused (line : ℕ) (name : List ℕ) (old new : Outside) (fault : Fault) : Type 0 where
  pub goes_on : GoesOn old new
  pub files : new.file ≡ old.file
  pub reads : new.read_faults ≡ old.read_faults
  pub unread : new.failed_reads ≡ old.failed_reads
  pub unabsent : TellsAbsence Faults.Absent old new fault
  pub why : IsSinkFault line name old new fault

-- ---- the file at the place of a component

-- one that is read, behind its head, which is among the heads
abbrev pub IsReadBy : Outside → Option WavHead → List ℕ → Option FileSeen → Type 0
IsReadBy old held name (Some (Reads source format frames)) =
    (head : WavHead) × (held ≡ Some head) × (format ≡ head.format) × (frames ≡ head.frames) × IsSourceOf old name head source
IsReadBy old held name other = ⊥

abbrev pub IsWrittenBy : Outside → ℕ → List ℕ → Option FileSeen → Type 0
IsWrittenBy old planned name (Some (Writes sink frames)) = (frames ≡ planned) × IsSinkOf old name sink
IsWrittenBy old planned name other = ⊥

-- only sources are open
abbrev pub IsReadFor : Outside → Option WavHead → PartForm → Option FileSeen → Type 0
IsReadFor old held (Source name) file = IsReadBy old held name file
IsReadFor old held (Late name) file = IsReadBy old held name file
IsReadFor old held other file = file ≡ None

-- sinks are, too
abbrev pub IsOpenFor : Outside → Option WavHead → ℕ → PartForm → Option FileSeen → Type 0
IsOpenFor old held planned (Sink name) file = IsWrittenBy old planned name file
IsOpenFor old held planned form file = IsReadFor old held form file

module _ {F : Type 0} where
  -- P of the file at the place
  abbrev pub HasAt : (F → FileSeen) → List (Option F) → ℕ → (Option FileSeen → Type 0) → Type 0
  HasAt seen entries place P = (file : Option F) × (slice_get entries place ≡ Some file) × P (option_map seen file)

  -- The sources of so many components are open, each behind its head.
  pub record AreRead (seen : F → FileSeen) (old : Outside) (parts : List PartLine) (count : ℕ) (heads : List WavHead) (entries : List (Option F)) : Type 0 where
    pub many : length entries ≡ count
    pub numbered : length heads ≡ source_number parts count
    pub lawful : (k : ℕ) (head : WavHead) → slice_get heads k ≡ Some head → (size : ℕ) × FitsFile head size
    pub each : (place : ℕ) (part : PartLine) → place < count → slice_get parts place ≡ Some part
        → HasAt seen entries place (IsReadFor old (slice_get heads (source_number parts place)) part.form)

  -- at the place of each sink is no file
  abbrev pub AreSinksFree : List PartLine → List (Option F) → Type 0
  AreSinksFree parts entries = (place : ℕ) (part : PartLine) (name : List ℕ) → slice_get parts place ≡ Some part → written_by part.form ≡ Some name → slice_get entries place ≡ Some None

  -- The sinks of so many components came to their places; all else stands as before.
  pub record HaveSinks (seen : F → FileSeen) (old : Outside) (parts : List PartLine) (planned : List ℕ) (count : ℕ) (before after : List (Option F)) : Type 0 where
    pub many : length after ≡ length before
    pub sinks : (place : ℕ) (part : PartLine) (name : List ℕ) → place < count → slice_get parts place ≡ Some part → written_by part.form ≡ Some name
        → HasAt seen after place (IsWrittenBy old (slice_index_or planned place 0) name)
    pub others : (place : ℕ) (part : PartLine) → slice_get parts place ≡ Some part → written_by part.form ≡ None → slice_get after place ≡ slice_get before place
    pub rest : (place : ℕ) → count ≤ place → slice_get after place ≡ slice_get before place

  -- All sources are open, and the sinks of so many components.
  pub record AreOpen (seen : F → FileSeen) (old : Outside) (parts : List PartLine) (planned : List ℕ) (count : ℕ) (heads : List WavHead) (entries : List (Option F)) : Type 0 where
    pub many : length entries ≡ length parts
    pub numbered : length heads ≡ source_number parts (length parts)
    pub lawful : (k : ℕ) (head : WavHead) → slice_get heads k ≡ Some head → (size : ℕ) × FitsFile head size
    pub first : (place : ℕ) (part : PartLine) → place < count → slice_get parts place ≡ Some part
        → HasAt seen entries place (IsOpenFor old (slice_get heads (source_number parts place)) (slice_index_or planned place 0) part.form)
    pub rest : (place : ℕ) (part : PartLine) → count ≤ place → slice_get parts place ≡ Some part
        → HasAt seen entries place (IsReadFor old (slice_get heads (source_number parts place)) part.form)

-- the file of the source at the place isn't open; it was the last that was asked for, behind those of the sources before it
pub record IsSourceMet (old new : Outside) (parts : List PartLine) (place : ℕ) (fault : Fault) : Type 0 where
  pub part : PartLine
  pub there : slice_get parts place ≡ Some part
  pub name : List ℕ
  pub reads : read_by part.form ≡ Some name
  pub refused : IsSourceRefused part.line name old new fault
  pub asked : fault ≢ Faults.OutOfMemory → HasAskedFor old new (read_names (take (place + 1) parts))

-- nor is that of the sink
pub record IsSinkMet (old new : Outside) (parts : List PartLine) (place : ℕ) (fault : Fault) : Type 0 where
  pub part : PartLine
  pub there : slice_get parts place ≡ Some part
  pub name : List ℕ
  pub writes : written_by part.form ≡ Some name
  pub refused : IsSinkRefused part.line name old new fault
