-- What the opening of files for a comparison leaves where it wasn't done whole.
use Rattle.std.specs.Prelude.{◌≡◌, ◌≢◌, ◌⊎◌, ℕ, ◌+◌, ◌<◌, List, [], ◌∷◌, ◌++◌, length, slice_get, take, Option, Some, None, IsSome, IsTrue}
use Rattle.omx_types.specs.declared.fault.Fault.{Fault}
use Rattle.omx_types.specs.declared.fault.Fault.TheVariants as Faults
use Rattle.omx_types.specs.declared.fault.Which.TheVariants.{Line}
use Rattle.outside_io.specs.Causes.{Rose}
use Rattle.outside_io.specs.Files.{GoesOn, IsFailedRead, Outside, TellsAbsence}
use Rattle.outside_io.specs.declared.source.Source.{Ghosts as SourceGhosts}
use Rattle.wav_form.specs.declared.heads.WavHead.{WavHead}
use Rattle.audio_parts.specs.declared.part_file.PartFile.{PartFile}
use Rattle.script_lang.specs.declared.play_line.PartLine.{PartLine}
use Rattle.script_lang.specs.declared.script.Script.{Script}
use Rattle.play_forms.specs.Plans.{IsFit, IsFitted, IsPlanOfScript, IsValid, PlanValue}
use Rattle.play_result_laws.specs.Files.{IsWriter, written_by}
use Rattle.play_files.specs.Asked.{HasAskedFor, read_names, written_names}
use Rattle.play_files.specs.Left.{HaveHeads, IsUnfit, IsUnplanned, IsUnread}
use Rattle.play_files.specs.Opening.{AreRead, IsStill}
use Rattle.play_files.specs.Seen.{file_seen}
use Rattle.play_files.specs.Stopping.{HasNotFit}
use Rattle.compared_files.specs.Comparing.{ComparingValue}
use Rattle.audit_files.specs.Compared.{HaveCompared, compared}

-- why the file with which the sink in that line is compared isn't open
abbrev pub IsKnownFault : ℕ → List ℕ → Outside → Outside → Fault → Type 0
IsKnownFault line name old new Faults.ReadFault = IsFailedRead (name ∷ []) old new
IsKnownFault line name old new (Faults.Absent which) = (which ≡ Line line) × Rose old.absences new.absences × (old.file name ≡ None)
IsKnownFault line name old new Faults.OutOfMemory = Unit {0}
IsKnownFault line name old new other = ⊥

pub record IsKnownRefused (line : ℕ) (name : List ℕ) (old new : Outside) (fault : Fault) : Type 0 where
  pub goes_on : GoesOn old new
  pub files : new.file ≡ old.file
  pub writes : new.write_faults ≡ old.write_faults
  pub unread : fault ≢ Faults.ReadFault → new.failed_reads ≡ old.failed_reads
  pub failed : new.failed_writes ≡ old.failed_writes
  pub unabsent : TellsAbsence Faults.Absent old new fault
  pub why : IsKnownFault line name old new fault

-- the file for the sink at the place isn't open
pub record IsKnownMet (old new : Outside) (parts : List PartLine) (place : ℕ) (fault : Fault) : Type 0 where
  pub part : PartLine
  pub there : slice_get parts place ≡ Some part
  pub name : List ℕ
  pub writes : written_by part.form ≡ Some name
  pub refused : IsKnownRefused part.line name old new fault

-- ---- where a planned opening stopped, or that it was done whole

module _ {S : Type 0} (g : SourceGhosts S) where
  -- the sources were read, and the plan fits; then so many comparisons came to their places
  pub record HasGoneOn (old new : Outside) (planned plan : PlanValue) (count : ℕ) (heads : List WavHead) (entries : List (Option (PartFile S (ComparingValue S)))) : Type 0 where
    pub fitted : IsFitted planned heads plan
    pub valid : IsValid plan
    pub fit : IsFit plan
    pub before : List (Option (PartFile S (ComparingValue S)))
    pub read : AreRead (file_seen g (compared g)) old plan.parts (length plan.parts) heads before
    pub have : HaveCompared g old plan.parts plan.frames count before entries

  pub record HasComparedAll (old new : Outside) (planned plan : PlanValue) (heads : List WavHead) (entries : List (Option (PartFile S (ComparingValue S)))) : Type 0 where
    pub gone : HasGoneOn old new planned plan (length plan.parts) heads entries
    pub still : IsStill old new
    pub asked : HasAskedFor old new (read_names plan.parts ++ written_names plan.parts)

  pub record AtKnown (old new : Outside) (planned plan : PlanValue) (heads : List WavHead) (entries : List (Option (PartFile S (ComparingValue S)))) (fault : Fault) : Type 0 where
    pub place : ℕ
    pub gone : HasGoneOn old new planned plan place heads entries
    pub met : IsKnownMet old new plan.parts place fault
    pub asked : fault ≢ Faults.OutOfMemory → HasAskedFor old new (read_names plan.parts ++ written_names (take (place + 1) plan.parts))

  abbrev pub HasStopped : Outside → Outside → PlanValue → PlanValue → List WavHead → List (Option (PartFile S (ComparingValue S))) → Fault → Type 0
  HasStopped old new planned plan heads entries fault =
      HasNotFit (file_seen g (compared g)) old new planned plan heads entries fault ⊎ AtKnown old new planned plan heads entries fault

-- ---- what a caller is told

-- the file that the sink at the place is compared with is told, for each of the first places
abbrev pub AreSinksThere : Outside → List PartLine → ℕ → Type 0
AreSinksThere old parts count = IsTrue old.tells → (place : ℕ) (name : List ℕ) → place < count → IsWriter parts place name → IsSome (old.file name)

-- the file for a sink wasn't opened, and those before it were
pub record IsUnmatched (planned : PlanValue) (old new : Outside) (fault : Fault) : Type 0 where
  pub plan : PlanValue
  pub heads : List WavHead
  pub have : HaveHeads old planned.parts (length planned.parts) heads
  pub fitted : IsFitted planned heads plan
  pub fit : IsFit plan
  pub goes_on : GoesOn old new
  pub files : new.file ≡ old.file
  pub written : new.write_faults ≡ old.write_faults
  pub unread : fault ≢ Faults.ReadFault → new.failed_reads ≡ old.failed_reads
  pub unabsent : TellsAbsence Faults.Absent old new fault
  pub part : PartLine
  pub place : ℕ
  pub there : slice_get plan.parts place ≡ Some part
  pub name : List ℕ
  pub writes : written_by part.form ≡ Some name
  pub before : AreSinksThere old plan.parts place
  pub why : IsKnownFault part.line name old new fault
  -- it was the last that was asked for, behind the sources and the files for the sinks before it
  pub asked : fault ≢ Faults.OutOfMemory → HasAskedFor old new (read_names plan.parts ++ written_names (take (place + 1) plan.parts))

-- why the files aren't open
abbrev pub IsUncompared : Script → Outside → Outside → Fault → Type 0
IsUncompared script old new fault =
    IsUnplanned script old new fault
    ⊎ ((planned : PlanValue) × IsPlanOfScript script planned × (IsUnread planned old new fault ⊎ IsUnfit planned old new fault ⊎ IsUnmatched planned old new fault))
