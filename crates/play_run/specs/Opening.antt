-- The graph of a plan as it stands before its play.
use Rattle.il_machine.specs.declared.answer.Progress.{Progress}
use Rattle.il_machine.specs.World.{World}
use Rattle.il_machine.specs.Whole.{Stands}
use Rattle.il_graph.specs.Shown.{Shown}
use Rattle.play_plan_laws.specs.Assemblies.{IsReady, PlayFiles}
use Rattle.play_result_laws.specs.Worlds.{IsOpening}
use Rattle.play_forms.specs.Plans.{PlanValue}
use Rattle.play_graph.specs.Graphs.{kept_of}
use Rattle.play_run.specs.Playing.{AreClientsIn}

module _ {S K : Type 0} where
  pub record IsOpeningGraph (plan : PlanValue) (files : PlayFiles) (graph : Shown S K Progress) : Type 0 where
    pub world : World
    pub stands : Stands (kept_of graph) world
    pub begins : IsOpening plan files world
    pub ready : IsReady plan files
    pub clients : AreClientsIn graph.core
