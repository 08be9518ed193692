-- What a yes says of a log.
use Rattle.std.specs.Prelude.{◌≡◌, ℕ, List, [], length}
use Rattle.outside_io.specs.Files.{Outside}
use Rattle.il_machine.specs.World.{World}
use Rattle.play_forms.specs.Plans.{PlanValue}
use Rattle.play_plan_laws.specs.Assemblies.{PlayFiles}
use Rattle.play_log.specs.Entries.{Entry, steps_of}
use Rattle.play_log.specs.Naming.{IsNaming}
use Rattle.play_log.specs.Scenes.{scene_of}
use Rattle.play_result_laws.specs.Asked.{tuned}
use Rattle.play_result_laws.specs.Results.{HoldSinks}
use Rattle.play_result_laws.specs.Worlds.{IsEnding, IsOpening}
use Rattle.play_history_laws.specs.Requests.{AreRequested}

-- From a world where the plan's play begins the text names so many acts, which lead to the end of a play that was done whole. What is
-- requested by them is all that a play asks for, in order and in time; and each sink's told file is that of the plain function.
pub record IsPlayedBy (plan : PlanValue) (files : PlayFiles) (samples : List (List ℕ)) (outside : Outside) (text : List ℕ) (acts : ℕ) : Type 0 where
  pub opening : World
  pub ending : World
  pub entries : List Entry
  pub links : List ℕ
  pub opens : IsOpening plan files opening
  pub names : IsNaming (scene_of plan.parts opening) opening text entries ending
  pub many : length entries ≡ acts
  pub requested : AreRequested (tuned plan files) (scene_of plan.parts opening).handles links [] (steps_of entries)
  pub ends : IsEnding plan outside ending
  pub sinks : HoldSinks plan samples outside
