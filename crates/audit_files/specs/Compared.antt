-- The files of a play that was done: those of its sinks are read, too, and compared with what is given to be written.
use Rattle.std.specs.Prelude.{◌≡◌, ℕ, ◌<◌, ◌≤◌, List, [], ◌++◌, length, slice_get, slice_index_or, Option, Some, None, option_map, IsSome, IsTrue}
use Rattle.omx_types.specs.declared.format.Format.TheVariants.{Auto}
use Rattle.outside_io.specs.declared.sink.Sink.{Ghosts as SinkGhosts}
use Rattle.outside_io.specs.declared.source.Source.{Ghosts as SourceGhosts}
use Rattle.outside_io.specs.Files.{Outside}
use Rattle.outside_io.specs.Moves.{WhereTold}
use Rattle.audio_parts.specs.declared.part_file.PartFile.{PartFile}
use Rattle.audio_parts.specs.declared.part_file.PartFile.TheVariants as files
use Rattle.script_lang.specs.declared.play_line.PartLine.{PartLine}
use Rattle.script_lang.specs.declared.script.Script.{Script}
use Rattle.play_forms.specs.Parts.{source_number}
use Rattle.play_forms.specs.Plans.{IsFit, IsFitted, IsPlanOfScript, PlanValue}
use Rattle.play_plan_laws.specs.Assemblies.{IsReady, PlayFiles, file_at}
use Rattle.play_result_laws.specs.Files.{AreFiles, read_by, written_by}
use Rattle.play_files.specs.Asked.{HasAskedFor, read_names, written_names}
use Rattle.play_files.specs.Opening.{IsReadBy, IsStill}
use Rattle.play_files.specs.Seen.{FileSeen, Reads, SourceSeen, file_seen, offer, source_seen}
use Rattle.compared_files.specs.Comparing.{ComparingValue, known_by, told_by}

-- the file of that name, from its first byte on
pub record IsFileOf (old : Outside) (name : List ℕ) (source : SourceSeen) : Type 0 where
  pub offset : source.offset ≡ 0
  pub name_is : IsTrue old.tells → source.name ≡ name
  pub faults : source.faults ≡ 0
  pub told : source.told ≡ old.file name
  pub ends : source.ends ≡ old.ends name
  pub whole : WhereTold (old.file name) (λ bytes. source.size ≡ length bytes)
  pub there : IsTrue old.tells → IsSome (old.file name)

-- what is seen of a comparison as a sink
abbrev pub compared : {S : Type 0} → SourceGhosts S → SinkGhosts (ComparingValue S)
compared reads = record {
  told = λ snk. told_by (reads.told snk.src) snk;
  name = λ snk. known_by (reads.name snk.src) (reads.told snk.src) (reads.ends snk.src);
  faults = λ snk. snk.failed;
  writing = λ snk. None;
}

-- nothing was given
abbrev pub untouched : {S : Type 0} → S → ComparingValue S
untouched src = record { src = src; place = 0; other = []; met = None; failed = 0 }

module _ {S : Type 0} (g : SourceGhosts S) where
  -- what is seen of a file that is closed: each one is read
  abbrev pub read_seen : PartFile S (ComparingValue S) → FileSeen
  read_seen (files.From src format frames) = Reads (source_seen g src) format frames
  read_seen (files.To snk frames) = Reads (source_seen g snk.src) Auto frames

  -- a comparison with the file of the name, to which nothing was given
  abbrev pub IsComparedBy : Outside → ℕ → List ℕ → Option (PartFile S (ComparingValue S)) → Type 0
  IsComparedBy old planned name (Some (files.To snk frames)) = (frames ≡ planned) × (snk ≡ untouched snk.src) × IsFileOf old name (source_seen g snk.src)
  IsComparedBy old planned name other = ⊥

  -- P of the file at the place
  abbrev pub HasThere : List (Option (PartFile S (ComparingValue S))) → ℕ → (Option (PartFile S (ComparingValue S)) → Type 0) → Type 0
  HasThere entries place P = (file : Option (PartFile S (ComparingValue S))) × (slice_get entries place ≡ Some file) × P file

  -- The comparisons of so many components came to their places; all else stands as before.
  pub record HaveCompared (old : Outside) (parts : List PartLine) (planned : List ℕ) (count : ℕ) (before after : List (Option (PartFile S (ComparingValue S)))) : Type 0 where
    pub many : length after ≡ length before
    pub sinks : (place : ℕ) (part : PartLine) (name : List ℕ) → place < count → slice_get parts place ≡ Some part → written_by part.form ≡ Some name
        → HasThere after place (IsComparedBy old (slice_index_or planned place 0) name)
    pub others : (place : ℕ) (part : PartLine) → slice_get parts place ≡ Some part → written_by part.form ≡ None → slice_get after place ≡ slice_get before place
    pub rest : (place : ℕ) → count ≤ place → slice_get after place ≡ slice_get before place

  -- The files of the script's plan are open, by the places of their components; the plan is fitted to the heads of its sources, and is ready.
  pub record AreCompared (script : Script) (old new : Outside) (plan : PlanValue) (entries : List (Option (PartFile S (ComparingValue S)))) : Type 0 where
    pub planned : PlanValue
    pub known : PlayFiles
    pub is_plan : IsPlanOfScript script planned
    pub fitted : IsFitted planned known.heads plan
    pub fit : IsFit plan
    pub still : IsStill old new
    pub asked : HasAskedFor old new (read_names plan.parts ++ written_names plan.parts)
    pub ready : IsReady plan known
    pub many : length entries ≡ length plan.parts
    pub offered : (place : ℕ) (file : Option (PartFile S (ComparingValue S))) → slice_get entries place ≡ Some file → option_map offer (option_map (file_seen g (compared g)) file) ≡ file_at plan known place
    pub files_are : IsTrue old.tells → (samples : List (List ℕ)) × AreFiles old plan.parts known samples
    pub sources : (place : ℕ) (part : PartLine) (name : List ℕ) → slice_get plan.parts place ≡ Some part → read_by part.form ≡ Some name
        → HasThere entries place (λ file. IsReadBy old (slice_get known.heads (source_number plan.parts place)) name (option_map (file_seen g (compared g)) file))
    pub sinks : (place : ℕ) (part : PartLine) (name : List ℕ) → slice_get plan.parts place ≡ Some part → written_by part.form ≡ Some name
        → HasThere entries place (IsComparedBy old (slice_index_or plan.frames place 0) name)
    pub others : (place : ℕ) (part : PartLine) → slice_get plan.parts place ≡ Some part → read_by part.form ≡ None → written_by part.form ≡ None → slice_get entries place ≡ Some None
