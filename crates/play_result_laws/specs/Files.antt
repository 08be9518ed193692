-- The files that a play's script names.
use Rattle.std.specs.Prelude.{◌≡◌, ℕ, ◌-◌, List, [], drop, length, slice_get, count_by, Option, Some, None, Ok, ◌*◌, take}
use Rattle.outside_io.specs.Files.{Outside}
use Rattle.script_lang.specs.declared.play_line.PartForm.{PartForm}
use Rattle.script_lang.specs.declared.play_line.PartForm.TheVariants.{Source, Late, Sink}
use Rattle.script_lang.specs.declared.play_line.PartLine.{PartLine}
use Rattle.wav_form.specs.declared.heads.WavHead.{WavHead}
use Rattle.wav_form.specs.Reading.{Reads}
use Rattle.play_forms.specs.Parts.{is_source_part, source_number}
use Rattle.omx_types.specs.Formats.{frame_bytes_of}
use Rattle.play_forms.specs.Plain.{samples_of_file}
use Rattle.play_forms.specs.Plans.{PlanValue}
use Rattle.play_plan_laws.specs.Assemblies.{PlayFiles}

abbrev pub read_by : PartForm → Option (List ℕ)
read_by (Source file) = Some file
read_by (Late file) = Some file
read_by other = None

abbrev pub written_by : PartForm → Option (List ℕ)
written_by (Sink file) = Some file
written_by other = None

-- the component at the place reads, or writes, the file of the name
abbrev pub IsReader : List PartLine → ℕ → List ℕ → Type 0
IsReader parts place name = (part : PartLine) × (slice_get parts place ≡ Some part) × (read_by part.form ≡ Some name)

abbrev pub IsWriter : List PartLine → ℕ → List ℕ → Type 0
IsWriter parts place name = (part : PartLine) × (slice_get parts place ≡ Some part) × (written_by part.form ≡ Some name)

-- no sink has the name
abbrev pub IsNoSink : List PartLine → List ℕ → Type 0
IsNoSink parts name = (place : ℕ) → IsWriter parts place name → ⊥

-- the told file of that name, as the source with that number among the sources has it: its head, its samples and what is read of it
pub record IsReadAs (old : Outside) (place number : ℕ) (name : List ℕ) (files : PlayFiles) (samples : List (List ℕ)) : Type 0 where
  pub bytes : List ℕ
  pub head : WavHead
  pub held : old.file name ≡ Some bytes
  pub reads : Reads bytes (Ok head)
  pub head_is : slice_get files.heads number ≡ Some head
  pub samples_are : slice_get samples number ≡ Some (samples_of_file head bytes)
  pub there : files.there place ≡ length bytes - head.start
  pub known : files.known place ≡ Some (drop head.start bytes)

-- What is told of the files: those of the sources are read, and those of the sinks are new and empty.
pub record AreFiles (old : Outside) (parts : List PartLine) (files : PlayFiles) (samples : List (List ℕ)) : Type 0 where
  pub many : length files.heads ≡ count_by is_source_part parts
  pub all : length samples ≡ count_by is_source_part parts
  pub sources : (place : ℕ) (name : List ℕ) → IsReader parts place name → IsReadAs old place (source_number parts place) name files samples
  pub sinks : (place : ℕ) (name : List ℕ) → IsWriter parts place name → files.known place ≡ Some []

-- Of the source with that number among the sources, its file tells the bytes behind its head, and these are its samples.
pub record IsSampled (files : PlayFiles) (samples : List (List ℕ)) (place number : ℕ) : Type 0 where
  pub head : WavHead
  pub known : List ℕ
  pub head_is : slice_get files.heads number ≡ Some head
  pub known_is : files.known place ≡ Some known
  pub there : files.there place ≡ length known
  pub samples_are : slice_get samples number ≡ Some (take (head.frames * frame_bytes_of head.format) known)

-- What the files of a plan tell: those of the sources their samples, and those of the sinks that they are empty.
pub record AreSamples (plan : PlanValue) (files : PlayFiles) (samples : List (List ℕ)) : Type 0 where
  pub many : length samples ≡ count_by is_source_part plan.parts
  pub sources : (place : ℕ) (name : List ℕ) → IsReader plan.parts place name → IsSampled files samples place (source_number plan.parts place)
  pub sinks : (place : ℕ) (name : List ℕ) → IsWriter plan.parts place name → files.known place ≡ Some []
