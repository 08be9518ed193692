-- What is known of a play by several passes, so far and when it is over.
use Rattle.std.proofs.Common.{◌≡◌, false, All, List, [], refl}
use Rattle.omx_types.specs.declared.handle.Handle.{Handle}
use Rattle.il_machine.specs.World.{World}
use Rattle.conductor.specs.declared.phase.Phase.TheVariants.{Over}
use Rattle.conductor.specs.Hearing.{ConductorValue}
use Rattle.conductor.specs.Phases.{Conducts}
use Rattle.play_forms.specs.Plans.{PlanValue}
use Rattle.play_log.specs.Entries.{Entry, printed, steps_of}
use Rattle.play_plan_laws.specs.Assemblies.{PlayFiles}
use Rattle.play_plan_laws.specs.Endings.{IsPlayedOut}
use Rattle.play_result_laws.specs.Asked.{IsConducted, tuned}
use Rattle.play_result_laws.specs.Passes.{own_steps}
use Rattle.play_result_laws.specs.Rounds.{IsConducting}
use Rattle.play_history_laws.specs.Faults.{NoneFailed}
use Rattle.play_history_laws.specs.Passes.{AreUnrefused}
use Rattle.play_history_laws.proofs.RequestedEnds.{played_out}
use Rattle.play_history_laws.proofs.Files.{requested_none}
use Rattle.play_history_laws.proofs.Printed.{printed_conducted}
use Rattle.play_history_laws.proofs.AllAsked.{asks, history, ordered, requested}
use Rattle.play_history_laws.proofs.ByPass.{all_by_pass, all_conducted}
use Rattle.play_history_laws.proofs.Rounds.{conducted_over}
use Rattle.play_history_laws.proofs.WorkUnrefused.{none_refused}
use Rattle.play_history_laws.specs.Worked.{IsByPass, IsWorked, conducts}

module _ (plan : PlanValue) (files : PlayFiles) (handles : List Handle) (w : World) (entries : List Entry) (v : World) (W : IsWorked plan files handles w entries v)
    (value : ConductorValue) (C : IsConducting plan files handles (own_steps conducts entries) value) where
  pub unrefused : AreUnrefused entries
  unrefused = none_refused plan files handles w entries v W (asks plan files handles w entries v W value C).0 (history plan files handles w entries v W value C).goes

  pub by_pass : All IsByPass (printed entries)
  by_pass = all_by_pass entries w v W.runs unrefused W.alone (all_conducted plan files handles (own_steps conducts entries) value C)

  module _ (next : ConductorValue) (over : Conducts value Over next) where
    pub conducted_so : IsConducted (tuned plan files) handles (steps_of (printed entries)) × NoneFailed v
    conducted_so =
        let links = (ordered plan files handles w entries v W value C).links in
        let A = requested plan files handles w entries v W value C next over in
        (printed_conducted _ handles links entries w v A W.runs unrefused, requested_none plan files W.ready handles w W.stage links [] (steps_of entries) A v W.runs refl)

    pub played_out_so : All (λ component. component.client_out ≡ false) v.components → IsPlayedOut plan v
    played_out_so I =
        let links = (ordered plan files handles w entries v W value C).links in
        let A = requested plan files handles w entries v W value C next over in
        played_out plan files W.ready handles w W.stage links (steps_of entries) A v W.runs (conducted_over plan files handles w W.ready W.stage conducts entries v W.alone W.runs value C next over) I
