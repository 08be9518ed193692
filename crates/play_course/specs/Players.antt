-- What a player is given, and what it makes of it.
use Rattle.std.specs.Prelude.{◌≡◌, ℕ, List, length, slice_get, Option, Some, option_map}
use Rattle.il_machine.specs.Stepping.{IsFrontOf}
use Rattle.il_machine.specs.World.{World}
use Rattle.play_forms.specs.Plain.{sink_text}
use Rattle.play_forms.specs.Plans.{PlanValue}
use Rattle.play_plan_laws.specs.Assemblies.{IsReady, PlayFiles, file_at}
use Rattle.play_plan_laws.specs.Endings.{IsPlayedOut}
use Rattle.play_result_laws.specs.Files.{AreSamples, IsWriter}
use Rattle.play_result_laws.specs.Results.{IsPlayLog}
use Rattle.play_result_laws.specs.Worlds.{HasWritten}
use Rattle.play_files.specs.Seen.{FileSeen, offer}
use Rattle.play_course.specs.Running.{HasTaken}

-- these are the files, by the places of the plan's components
abbrev pub AreFilesOf : PlanValue → PlayFiles → List (Option FileSeen) → Type 0
AreFilesOf plan files entries = (place : ℕ) (file : Option FileSeen) → slice_get entries place ≡ Some file → option_map offer file ≡ file_at plan files place

-- The plan is ready to be played with them.
pub record CanPlay (plan : PlanValue) (entries : List (Option FileSeen)) : Type 0 where
  pub files : PlayFiles
  pub ready : IsReady plan files
  pub many : length entries ≡ length plan.parts
  pub are : AreFilesOf plan files entries

-- What a play by so many workers leaves that was done whole: its text is the log of a play of the plan, which leads to the play's end; and each
-- sink took what was written to it, which is its text of the plain function.
pub record IsPlayedWhole (workers : ℕ) (plan : PlanValue) (files : PlayFiles) (before after : List (Option FileSeen)) (text : List ℕ) : Type 0 where
  pub ending : World
  pub log : IsPlayLog workers plan files text ending
  pub ends : IsPlayedOut plan ending
  pub took : (place : ℕ) (name : List ℕ) → IsWriter plan.parts place name
      → (bytes : List ℕ) × HasTaken before after place bytes × HasWritten ending place bytes × ((samples : List (List ℕ)) → AreSamples plan files samples → bytes ≡ sink_text plan samples place)

-- what one leaves that failed: each sink took a front of its text
abbrev pub IsFailed : PlanValue → PlayFiles → List (Option FileSeen) → List (Option FileSeen) → Type 0
IsFailed plan files before after = (samples : List (List ℕ)) → AreSamples plan files samples → (place : ℕ) (name : List ℕ) → IsWriter plan.parts place name
    → (bytes : List ℕ) × HasTaken before after place bytes × IsFrontOf (sink_text plan samples place) bytes
