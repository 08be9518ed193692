-- One who conducts a play is never halted.
use Rattle.std.proofs.Common.{inl, inr, List}
use Rattle.omx_types.specs.declared.handle.Handle.{Handle}
use Rattle.il_machine.specs.World.{World}
use Rattle.play_forms.specs.Plans.{PlanValue}
use Rattle.play_log.specs.Entries.{Entry}
use Rattle.play_plan_laws.specs.Assemblies.{PlayFiles}
use Rattle.play_result_laws.specs.Passes.{own_steps}
use Rattle.play_result_laws.specs.Rounds.{IsHalted}
use Rattle.play_history_laws.proofs.Lost.{none_lost}
use Rattle.play_history_laws.proofs.Rounds.{conducted_accepted}
use Rattle.play_history_laws.specs.Worked.{IsWorked, conducts}

pub never_halted : (plan : PlanValue) (files : PlayFiles) (handles : List Handle) (world : World) (entries : List Entry) (after : World) → IsWorked plan files handles world entries after
    → IsHalted plan files handles (own_steps conducts entries) → ⊥
never_halted plan files handles world entries after W H = elim H [
  | inl F ↦ conducted_accepted plan files handles world W.ready W.stage conducts entries after W.alone W.runs F
  | inr L ↦ none_lost plan files handles world W.ready W.stage conducts entries after W.alone W.runs L
]
