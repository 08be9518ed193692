-- A history of the play of a plan from its assembled graph, and which asking its StateSets are of.
use Rattle.std.specs.Prelude.{ℕ, zero, suc, List, length}
use Rattle.omx_types.specs.declared.handle.Handle.{Handle}
use Rattle.il_machine.specs.Acts.{Act, Reply}
use Rattle.il_machine.specs.World.{World}
use Rattle.play_build_laws.specs.Stages.{IsStage, Joining}
use Rattle.play_forms.specs.Plans.{PlanValue}
use Rattle.play_plan_laws.specs.Assemblies.{IsReady, PlayFiles, assembly_of, play_cast_of}
use Rattle.play_result_laws.specs.Asked.{Asking, BackToIdle, ToExecuting, ToIdle, ToLoaded}
use Rattle.read_world_laws.specs.Inside.{inside}
use Rattle.read_world_laws.specs.Mended.{mend}
use Rattle.play_history_laws.specs.Order.{Cursor, nothing_asked}
use Rattle.play_history_laws.specs.Faults.{IsFaultHistory}

pub record IsPlanHistory (plan : PlanValue) (files : PlayFiles) (handles : List Handle) (world : World) (steps : List (Act × Reply)) (cursor : Cursor) (after : World) : Type 0 where
  pub ready : IsReady plan files
  pub stage : IsStage (assembly_of plan files) (Joining (length plan.joints)) handles world
  pub goes : IsFaultHistory (play_cast_of plan) (nothing_asked (play_cast_of plan).cast) world steps cursor after

-- as the cursor reads it: without its faults, and with its client objects in
abbrev pub read_of : World → World
read_of world = inside (mend world.streams world)

-- by how many StateSets were begun with it, of four
abbrev pub asking_of : ℕ → Asking
asking_of (suc zero) = ToIdle
asking_of (suc (suc zero)) = ToExecuting
asking_of (suc (suc (suc zero))) = BackToIdle
asking_of _ = ToLoaded
