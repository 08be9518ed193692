-- What a play by workers leaves, wherever it stops.
use Rattle.std.specs.Prelude.{◌≡◌, true, All, List, length, Option}
use Rattle.outside_io.specs.declared.sink.Sink.{Ghosts as SinkGhosts}
use Rattle.outside_io.specs.declared.source.Source.{Ghosts as SourceGhosts}
use Rattle.audio_parts.specs.declared.part_file.PartFile.{PartFile}
use Rattle.il_machine.specs.Acts.{Act, Reply}
use Rattle.il_machine.specs.declared.answer.Progress.{Progress}
use Rattle.il_machine.specs.Run.{Run}
use Rattle.il_machine.specs.World.{World}
use Rattle.il_graph.specs.Shown.{Shown, TellWritten, offered}
use Rattle.play_forms.specs.Plans.{PlanValue}
use Rattle.play_plan_laws.specs.Assemblies.{PlayFiles}
use Rattle.play_result_laws.specs.Worlds.{IsOpening}
use Rattle.play_graph.specs.Ending.{AreFilesOf}
use Rattle.play_graph.specs.Making.{AreOffered}
use Rattle.play_run.specs.Playing.{HaveNoWork}
use Rattle.worker_play_laws.specs.Files.{HaveStayed, is_steady}

-- from where the play of the plan begins the acts lead to the world, and none of them makes or frees a component or brings a file
pub record IsSteadyRun (plan : PlanValue) (given : PlayFiles) (steps : List (Act × Reply)) (world : World) : Type 0 where
  pub opening : World
  pub opens : IsOpening plan given opening
  pub steady : All (λ step. is_steady step.0 ≡ true) steps
  pub runs : Run opening steps world

module _ {S K : Type 0} (reads : SourceGhosts S) (writes : SinkGhosts K) where
  -- The graph of the plan was made with the entries and came to the world by the steps, where no work is out; then its file objects went back.
  pub record IsLeftWith (plan : PlanValue) (given : PlayFiles) (first now : Shown S K Progress) (entries back : List (Option (PartFile S K))) (steps : List (Act × Reply)) (world : World) : Type 0 where
    pub run : IsSteadyRun plan given steps world
    pub works : HaveNoWork world
    pub many : length entries ≡ length plan.parts
    pub many_back : length back ≡ length plan.parts
    pub offers : AreOffered plan given (offered reads.offset reads.size reads.told writes.told) entries
    pub were : AreFilesOf first (length plan.parts) entries
    pub are : AreFilesOf now (length plan.parts) back
    pub stayed : HaveStayed reads writes first now
    pub written : TellWritten writes.told now world
