-- The files of a play are open.
use Rattle.std.specs.Prelude.{◌≡◌, ℕ, List, ◌++◌, length, slice_get, Option, Some, None, option_map, option_and_then, IsTrue}
use Rattle.outside_io.specs.Files.{Outside}
use Rattle.il_machine.specs.Files.{Offered, OfferedFrom, OfferedTo}
use Rattle.wav_form.specs.declared.heads.WavHead.{WavHead}
use Rattle.script_lang.specs.declared.script.Script.{Script}
use Rattle.play_forms.specs.Plans.{IsFit, IsFitted, IsPlanOfScript, PlanValue}
use Rattle.play_plan_laws.specs.Assemblies.{IsReady, PlayFiles, file_at}
use Rattle.play_result_laws.specs.Files.{AreFiles}
use Rattle.play_files.specs.Asked.{HasAskedFor, read_names, written_names}
use Rattle.play_files.specs.Opening.{AreOpen, IsStill}
use Rattle.play_files.specs.Seen.{FileSeen, offer}

-- of a file that is read, the bytes from its place on; what a file tells
abbrev pub there_by : Option Offered → ℕ
there_by (Some (OfferedFrom format frames there known)) = there
there_by other = 0

abbrev pub known_by : Option Offered → Option (List ℕ)
known_by (Some (OfferedFrom format frames there known)) = known
known_by (Some (OfferedTo frames known)) = known
known_by None = None

module _ {F : Type 0} where
  -- the file at the place, as the machine is offered it
  abbrev pub offer_at : (F → FileSeen) → List (Option F) → ℕ → Option Offered
  offer_at seen entries place = option_map offer (option_and_then (option_map seen) (slice_get entries place))

  -- what is known of the files
  abbrev pub play_files : (F → FileSeen) → List WavHead → List (Option F) → PlayFiles
  play_files seen heads entries = record { heads = heads; there = λ place. there_by (offer_at seen entries place); known = λ place. known_by (offer_at seen entries place) }

  -- The files of the script's plan are open, by the places of their components; the plan is fitted to their heads, and is ready.
  pub record AreAllOpen (seen : F → FileSeen) (script : Script) (old new : Outside) (plan : PlanValue) (entries : List (Option F)) : Type 0 where
    pub planned : PlanValue
    pub heads : List WavHead
    pub is_plan : IsPlanOfScript script planned
    pub fitted : IsFitted planned heads plan
    pub fit : IsFit plan
    pub still : IsStill old new
    pub opened : AreOpen seen old plan.parts plan.frames (length plan.parts) heads entries
    pub asked : HasAskedFor old new (read_names plan.parts ++ written_names plan.parts)
    pub ready : IsReady plan (play_files seen heads entries)
    pub offered : (place : ℕ) (file : Option F) → slice_get entries place ≡ Some file → option_map offer (option_map seen file) ≡ file_at plan (play_files seen heads entries) place
    pub files_are : IsTrue old.tells → (samples : List (List ℕ)) × AreFiles old plan.parts (play_files seen heads entries) samples
