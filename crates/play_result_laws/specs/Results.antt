-- What a play leaves that was done whole.
use Rattle.std.specs.Prelude.{◌≡◌, ◌≢◌, ℕ, List, All, Some}
use Rattle.outside_io.specs.Files.{Outside}
use Rattle.il_machine.specs.World.{World}
use Rattle.script_lang.specs.PlayScripts.{IsPlayScript}
use Rattle.script_lang.specs.declared.play_line.PartLine.{PartLine}
use Rattle.script_lang.specs.declared.script.Script.{Script}
use Rattle.play_forms.specs.Plain.{sink_text}
use Rattle.play_forms.specs.Plans.{IsFit, IsFitted, IsPlanOfScript, PlanValue}
use Rattle.play_plan_laws.specs.Assemblies.{PlayFiles}
use Rattle.play_log.specs.Entries.{Entry, steps_of}
use Rattle.play_log.specs.Logged.{IsLogged}
use Rattle.play_log.specs.Naming.{IsNaming}
use Rattle.play_log.specs.Scenes.{scene_of}
use Rattle.play_result_laws.specs.Asked.{IsConducted, tuned}
use Rattle.play_result_laws.specs.Files.{AreFiles, IsNoSink, IsWriter}
use Rattle.play_result_laws.specs.Passes.{IsPassOf}
use Rattle.play_result_laws.specs.Worlds.{IsEnding, IsOpening}

-- the told file of the name is this script of a play, and this is its plan, fitted to its files
pub record IsPlanIn (script log : List ℕ) (old : Outside) (plan : PlanValue) (files : PlayFiles) (samples : List (List ℕ)) : Type 0 where
  pub text : List ℕ
  pub read : Script
  pub planned : PlanValue
  pub held : old.file script ≡ Some text
  pub is_script : IsPlayScript script log text read
  pub is_plan : IsPlanOfScript read planned
  pub fitted : IsFitted planned files.heads plan
  pub fit : IsFit plan
  pub files_are : AreFiles old plan.parts files samples

-- The text is that of entries of the passes of so many workers, and names them: from a world where the plan's play begins they lead to this
-- ending. What is asked by them is what a play asks for, in order and in time.
pub record IsPlayLog (workers : ℕ) (plan : PlanValue) (files : PlayFiles) (text : List ℕ) (ending : World) : Type 0 where
  pub opening : World
  pub entries : List Entry
  pub opens : IsOpening plan files opening
  pub logged : IsLogged (scene_of plan.parts opening) entries text
  pub names : IsNaming (scene_of plan.parts opening) opening text entries ending
  pub made : All (IsPassOf workers) entries
  pub conducted : IsConducted (tuned plan files) (scene_of plan.parts opening).handles (steps_of entries)

-- the text is the log of a play of the plan by so many workers, which leads to a world at its end
pub record IsLogOf (workers : ℕ) (plan : PlanValue) (files : PlayFiles) (new : Outside) (text : List ℕ) : Type 0 where
  pub ending : World
  pub log : IsPlayLog workers plan files text ending
  pub ends : IsEnding plan new ending

-- each sink's name holds its text of the plain function
abbrev pub HoldSinks : PlanValue → List (List ℕ) → Outside → Type 0
HoldSinks plan samples new = (place : ℕ) (name : List ℕ) → IsWriter plan.parts place name → new.file name ≡ Some (sink_text plan samples place)

abbrev pub OthersAreKept : List PartLine → List ℕ → Outside → Outside → Type 0
OthersAreKept parts log old new = (name : List ℕ) → name ≢ log → IsNoSink parts name → new.file name ≡ old.file name
