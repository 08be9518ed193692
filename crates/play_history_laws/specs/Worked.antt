-- The history of the play of a plan by several passes: pass 0 conducts, and the others request nothing.
use Rattle.std.specs.Prelude.{◌≡◌, ℕ, zero, suc, ◌≤◌, Bool, true, false, All, List, length}
use Rattle.omx_types.specs.declared.handle.Handle.{Handle}
use Rattle.il_machine.specs.Run.{Run}
use Rattle.il_machine.specs.World.{World}
use Rattle.play_build_laws.specs.Stages.{IsStage, Joining}
use Rattle.play_forms.specs.Plans.{PlanValue}
use Rattle.play_plan_laws.specs.Assemblies.{IsReady, PlayFiles, assembly_of}
use Rattle.play_log.specs.Entries.{Entry, step_of, steps_of}
use Rattle.play_result_laws.specs.Asked.{is_asked}
use Rattle.play_history_laws.specs.Passes.{RequestAlone}
use Rattle.play_history_laws.specs.Refused.{IsAtPart}

abbrev pub conducts : ℕ → Bool
conducts zero = true
conducts (suc pass) = false

-- from the assembled graph of the plan the entries are a run, each at a component of the plan, and at a port that it has
pub record IsWorked (plan : PlanValue) (files : PlayFiles) (handles : List Handle) (world : World) (entries : List Entry) (after : World) : Type 0 where
  pub ready : IsReady plan files
  pub stage : IsStage (assembly_of plan files) (Joining (length plan.joints)) handles world
  pub runs : Run world (steps_of entries) after
  pub alone : RequestAlone conducts entries
  pub parts : All (λ entry. IsAtPart plan handles entry.act) entries

-- What is asked was asked by the one who conducts, and all else was done by those who work.
abbrev pub IsByPass : Entry → Type 0
IsByPass entry = (is_asked (step_of entry) ≡ true → entry.pass ≡ 0) × (is_asked (step_of entry) ≡ false → 1 ≤ entry.pass)
