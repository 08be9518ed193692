-- The object of a part's file: what stays of it over a step, and what a fault shows of it.
use Rattle.std.specs.Prelude.{◌≡◌, ℕ, ◌≤◌, max, Bool, false, List, Option, None, Some}
use Rattle.omx_types.specs.declared.fault.PartFault.{PartFault}
use Rattle.outside_io.specs.Moves.{WhereTold}
use Rattle.audio_parts.specs.Causes.{HasReadCause, HasWriteCause}
use Rattle.audio_parts.specs.declared.part_file.PartFile.{PartFile}
use Rattle.audio_parts.specs.declared.part_file.PartFile.TheVariants.{From, To}
use Rattle.audio_parts.specs.declared.source_file.SourceFile.{SourceFile}
use Rattle.audio_parts.specs.declared.sink_file.SinkFile.{SinkFile}

-- what a part holds: whether a step of it failed, and its file
pub record Held (S K : Type 0) : Type 0 where
  pub failed : Bool
  pub file : Option (PartFile S K)

-- ---- what stays

-- A source has the name, the size, the told bytes and the told end that it had, and its count of faults didn't fall. Where no step failed it
-- moved forward, and read nothing behind its told end.
pub record SourceStays {S : Type 0} (name_of : S → List ℕ) (size_of : S → ℕ) (told_of : S → Option (List ℕ)) (ends_of : S → Option ℕ) (offset_of faults_of : S → ℕ) (failed : Bool) (before now : S) : Type 0 where
  pub name : name_of now ≡ name_of before
  pub size : size_of now ≡ size_of before
  pub told : told_of now ≡ told_of before
  pub ends : ends_of now ≡ ends_of before
  pub faults : faults_of before ≤ faults_of now
  pub forward : failed ≡ false → offset_of before ≤ offset_of now
  pub stops : failed ≡ false → WhereTold (ends_of before) (λ end. offset_of now ≤ max end (offset_of before))

-- a sink has the name that it had, and its count of faults didn't fall
pub record SinkStays {K : Type 0} (name_of : K → List ℕ) (faults_of : K → ℕ) (before now : K) : Type 0 where
  pub name : name_of now ≡ name_of before
  pub faults : faults_of before ≤ faults_of now

-- neither is there, or both are and stand in this relation
abbrev pub BothOrNone : {A : Type 0} → (A → A → Type 0) → Option A → Option A → Type 0
BothOrNone R None None = Unit {0}
BothOrNone R (Some a) (Some b) = R a b
BothOrNone R None (Some b) = ⊥
BothOrNone R (Some a) None = ⊥

-- the file of a source, and that of a sink
abbrev pub ReadStays : {S : Type 0} → (S → S → Type 0) → SourceFile S → SourceFile S → Type 0
ReadStays source before now = (now.format ≡ before.format) × (now.attached ≡ before.attached) × source before.source now.source

abbrev pub WrittenStays : {K : Type 0} → (K → K → Type 0) → SinkFile K → SinkFile K → Type 0
WrittenStays sink before now = (now.planned ≡ before.planned) × sink before.sink now.sink

-- a file is read or written as before, and came for as many frames
abbrev pub FileStays : {S K : Type 0} → (S → S → Type 0) → (K → K → Type 0) → PartFile S K → PartFile S K → Type 0
FileStays source sink (From src format frames) (From src' format' frames') = (format' ≡ format) × (frames' ≡ frames) × source src src'
FileStays source sink (To snk frames) (To snk' frames') = (frames' ≡ frames) × sink snk snk'
FileStays source sink (From src format frames) (To snk frames') = ⊥
FileStays source sink (To snk frames) (From src format frames') = ⊥

-- a part that has not failed had not failed before
abbrev pub StaysUnfailed : Bool → Bool → Type 0
StaysUnfailed before now = now ≡ false → before ≡ false

-- a part has no file before and now, or the object that it had
abbrev pub ObjectStays : {S K : Type 0} → (S → List ℕ) → (S → ℕ) → (S → Option (List ℕ)) → (S → Option ℕ) → (S → ℕ) → (S → ℕ) → (K → List ℕ) → (K → ℕ)
    → Held S K → Held S K → Type 0
ObjectStays source_name size told ends offset faults name sink_faults before now =
    StaysUnfailed before.failed now.failed
    × BothOrNone (FileStays (SourceStays source_name size told ends offset faults now.failed) (SinkStays name sink_faults)) before.file now.file

-- ---- what a fault shows

-- of a source: it failed, or gave nothing below its size, read from where it stood before
abbrev pub SourceShows : {S : Type 0} → (S → ℕ) → (S → Option ℕ) → (S → ℕ) → (S → ℕ) → PartFault → S → S → Type 0
SourceShows size ends offset faults fault before now = HasReadCause (size before) (ends before) (offset before) (faults before) (faults now) fault

-- of a sink: it failed
abbrev pub SinkShows : {K : Type 0} → (K → ℕ) → PartFault → K → K → Type 0
SinkShows faults fault before now = HasWriteCause (faults before) (faults now) fault

-- both are there, and stand in this relation
abbrev pub OnBoth : {A : Type 0} → (A → A → Type 0) → Option A → Option A → Type 0
OnBoth R (Some a) (Some b) = R a b
OnBoth R None other = ⊥
OnBoth R (Some a) None = ⊥

abbrev pub FileShows : {S K : Type 0} → (S → S → Type 0) → (K → K → Type 0) → PartFile S K → PartFile S K → Type 0
FileShows source sink (From src format frames) (From src' format' frames') = source src src'
FileShows source sink (To snk frames) (To snk' frames') = sink snk snk'
FileShows source sink (From src format frames) (To snk frames') = ⊥
FileShows source sink (To snk frames) (From src format frames') = ⊥

-- a part that had not failed before has a file, whose object shows since then that a step answered this fault
abbrev pub ObjectShows : {S K : Type 0} → (S → ℕ) → (S → Option ℕ) → (S → ℕ) → (S → ℕ) → (K → ℕ) → PartFault → Held S K → Held S K → Type 0
ObjectShows size ends offset faults sink_faults fault before now =
    (before.failed ≡ false) × OnBoth (FileShows (SourceShows size ends offset faults fault) (SinkShows sink_faults fault)) before.file now.file
