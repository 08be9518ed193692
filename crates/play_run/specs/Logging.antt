-- The log of a play that is over.
use Rattle.std.specs.Prelude.{◌≡◌, ℕ, List, All, Some}
use Rattle.outside_io.specs.Files.{Outside}
use Rattle.il_machine.specs.World.{World}
use Rattle.il_machine.specs.Run.{Run}
use Rattle.script_lang.specs.declared.play_line.PartLine.{PartLine}
use Rattle.play_forms.specs.Plans.{PlanValue}
use Rattle.play_plan_laws.specs.Assemblies.{PlayFiles}
use Rattle.play_plan_laws.specs.Endings.{IsPlayedOut}
use Rattle.play_log.specs.Entries.{Entry, steps_of}
use Rattle.play_log.specs.Kept.{LogValue}
use Rattle.play_log.specs.Logged.{IsLogged, Keeps}
use Rattle.play_log.specs.Naming.{IsNaming}
use Rattle.play_log.specs.Scenes.{scene_of}
use Rattle.play_result_laws.specs.Asked.{IsConducted, tuned}
use Rattle.play_result_laws.specs.Files.{IsWriter}
use Rattle.play_result_laws.specs.Worlds.{HasWritten, IsOpening}
use Rattle.play_run.specs.Asking.{handles_of}
use Rattle.play_run.specs.Recording.{IsBeginning, IsByPlayer, IsPrinted, HasNotFailed}

-- Entries of the thread that plays lead from where the play begins to the ending, where it was done whole. The log keeps them.
pub record IsKeptTo (plan : PlanValue) (files : PlayFiles) (log : LogValue) (ending : World) : Type 0 where
  pub opening : World
  pub begins : IsBeginning plan files opening
  pub history : List Entry
  pub runs : Run opening (steps_of history) ending
  pub alone : All IsByPlayer history
  pub whole : All HasNotFailed history
  pub conducted : IsConducted (tuned plan files) (handles_of opening) (steps_of history)
  pub printed : All IsPrinted history
  pub keeps : Keeps (scene_of plan.parts opening) history log
  pub ends : IsPlayedOut plan ending

-- The text is that of entries of the thread that plays, and names them; they lead to that ending.
pub record IsNamedTo (plan : PlanValue) (files : PlayFiles) (text : List ℕ) (ending : World) : Type 0 where
  pub opening : World
  pub opens : IsOpening plan files opening
  pub entries : List Entry
  pub logged : IsLogged (scene_of plan.parts opening) entries text
  pub names : IsNaming (scene_of plan.parts opening) opening text entries ending
  pub alone : All IsByPlayer entries
  pub conducted : IsConducted (tuned plan files) (handles_of opening) (steps_of entries)
  pub ends : IsPlayedOut plan ending

-- each sink wrote its file
abbrev pub HaveWritten : List PartLine → Outside → World → Type 0
HaveWritten parts new w = (place : ℕ) (name text : List ℕ) → IsWriter parts place name → new.file name ≡ Some text → HasWritten w place text
