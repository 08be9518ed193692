-- How far the graph of a plan is made.
use Rattle.std.specs.Prelude.{◌≡◌, ℕ, ◌+◌, ◌<◌, true, false, List, length, slice_get, Option, Some, None, option_map}
use Rattle.omx_types.specs.declared.handle.Handle.{Handle}
use Rattle.omx_types.specs.declared.param.PortDefinition.{PortDefinition}
use Rattle.il_machine.specs.declared.answer.Progress.{Progress}
use Rattle.il_machine.specs.Files.{Offered}
use Rattle.il_machine.specs.World.{World}
use Rattle.il_machine.specs.Whole.{Stands}
use Rattle.audio_parts.specs.declared.part_file.PartFile.{PartFile}
use Rattle.il_graph.specs.Shown.{Shown, file_of}
use Rattle.play_forms.specs.Plans.{PlanValue}
use Rattle.play_plan_laws.specs.Casting.{flow_of, joint_of}
use Rattle.play_build_laws.specs.Stages.{IsStage, Stage, Joining, Setting}
use Rattle.play_plan_laws.specs.Assemblies.{IsReady, PlayFiles, assembly_of, file_at, is_late_link, opening_format}
use Rattle.play_graph.specs.declared.link_end.End.{End}
use Rattle.play_graph.specs.declared.link_end.End.TheVariants.{Input, Output}
use Rattle.play_graph.specs.Graphs.{kept_of}
use Rattle.play_graph.specs.LinkEnds.{at_input}

-- what is set of the link's end
abbrev pub definition_at : PlanValue → End → ℕ → PortDefinition
definition_at plan end l = record {
  input = at_input end;
  format = opening_format (is_late_link plan l) (flow_of plan l).format;
  count = (joint_of plan l).count;
  size = (joint_of plan l).size;
}

-- the stage once that end of the link is set
abbrev pub next_setting : ℕ → End → Stage
next_setting link Output = Setting link true
next_setting link Input = Setting (link + 1) false

module _ {S K : Type 0} where
  -- The graph has a component at the place.
  abbrev pub IsMade : ℕ → Shown S K Progress → Type 0
  IsMade place graph = (w : World) × Stands (kept_of graph) w × place < length w.components

  -- The graph stands for a world in which the plan's assembly with these files has come to the stage.
  pub record IsAt (plan : PlanValue) (files : PlayFiles) (stage : Stage) (graph : Shown S K Progress) : Type 0 where
    pub ready : IsReady plan files
    pub handles : List Handle
    pub world : World
    pub stands : Stands (kept_of graph) world
    pub built : IsStage (assembly_of plan files) stage handles world

  abbrev pub SomeAt : PlanValue → Stage → Shown S K Progress → Type 0
  SomeAt plan stage graph = (files : PlayFiles) × IsAt plan files stage graph

  -- from that stage to this one, whatever its files
  abbrev pub GoesOn : PlanValue → Stage → Stage → Shown S K Progress → Shown S K Progress → Type 0
  GoesOn plan from to old new = (files : PlayFiles) → IsAt plan files from old → IsAt plan files to new

  -- ---- the files of a play, by the places of their components

  -- the file is the one that is offered to the component at the place
  abbrev pub IsOfferedAt : PlanValue → PlayFiles → (PartFile S K → Offered) → ℕ → Option (PartFile S K) → Type 0
  IsOfferedAt plan files offered_by place file = option_map offered_by file ≡ file_at plan files place

  abbrev pub AreOffered : PlanValue → PlayFiles → (PartFile S K → Offered) → List (Option (PartFile S K)) → Type 0
  AreOffered plan files offered_by entries = (place : ℕ) (file : Option (PartFile S K)) → slice_get entries place ≡ Some file → IsOfferedAt plan files offered_by place file

  -- Those of the first places are gone.
  abbrev pub AreGone : ℕ → List (Option (PartFile S K)) → Type 0
  AreGone places entries = (place : ℕ) → place < places → slice_get entries place ≡ Some None

  -- The components of the first places have the file objects that stood there.
  abbrev pub HaveCome : ℕ → List (Option (PartFile S K)) → Shown S K Progress → Type 0
  HaveCome places entries graph = (place : ℕ) (file : PartFile S K) → place < places → slice_get entries place ≡ Some (Some file) → file_of place graph ≡ Some file

  -- The graph of the plan can be made with them.
  pub record CanMake (plan : PlanValue) (offered_by : PartFile S K → Offered) (entries : List (Option (PartFile S K))) : Type 0 where
    pub files : PlayFiles
    pub ready : IsReady plan files
    pub many : length entries ≡ length plan.parts
    pub offered : AreOffered plan files offered_by entries

  -- The plan's graph is made, with all that is set of it, its files and its links.
  abbrev pub IsMadeOf : PlanValue → (PartFile S K → Offered) → List (Option (PartFile S K)) → Shown S K Progress → Type 0
  IsMadeOf plan offered_by entries graph = (files : PlayFiles) → IsReady plan files → AreOffered plan files offered_by entries → IsAt plan files (Joining (length plan.joints)) graph
