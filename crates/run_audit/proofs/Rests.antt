-- Where all was asked and told, all rests; and where all rests, all was told.
use Rattle.std.proofs.Common.{◌≡◌, inl, inr, ℕ, ◌≤◌, ◌<◌, false, List, [], All, length, Option, Some, subst, arith}
use Rattle.std.proofs.lemmas.Bool.{cases_lt}
use Rattle.omx_types.specs.declared.handle.Handle.{Handle}
use Rattle.omx_types.specs.declared.state.State.TheVariants.{Loaded}
use Rattle.il_machine.specs.Acts.{Act, Reply}
use Rattle.il_machine.specs.Run.{Run}
use Rattle.il_machine.specs.World.{Component, World}
use Rattle.machine_laws.proofs.Every.{at_place, from_places}
use Rattle.play_build_laws.specs.Dismantling as dismantling
use Rattle.play_build_laws.specs.Stages.{IsStage, Joining}
use Rattle.play_forms.specs.Plans.{PlanValue}
use Rattle.play_plan_laws.specs.Assemblies.{IsReady, PlayFiles, assembly_of}
use Rattle.play_plan_laws.specs.Endings.{IsAtEnd, IsPlayedOut}
use Rattle.play_log.specs.Entries.{steps_of}
use Rattle.play_log.specs.Scenes.{HaveOwnNames, scene_of}
use Rattle.play_log.proofs.Names.{run_of_names}
use Rattle.play_result_laws.specs.Asked.{told_by, tuned}
use Rattle.play_history_laws.specs.Order.{Cursor}
use Rattle.play_history_laws.specs.Askings.{IsPlanHistory}
use Rattle.play_history_laws.specs.Requests.{AreRequested, IsOrdered}
use Rattle.play_history_laws.proofs.Ordered.{history_ordered}
use Rattle.play_history_laws.proofs.RequestedEnds.{all_rest, played_out}
use Rattle.audit_order.specs.Steps.{IsComplete}
use Rattle.audit_forms.specs.Audited.{Case, IsResting, Moment}
use Rattle.audit_forms.specs.Whole.{start_at}
use Rattle.audit_laws.proofs.Saying.{nothing_left}
use Rattle.audit_laws.proofs.Walking.{requested}
use Rattle.run_audit.specs.Ending.{IsAtRest}
use Rattle.run_audit.proofs.Way.{AreNamed, case}

module _ (plan : PlanValue) (files : PlayFiles) (handles : List Handle) (w : World) (ready : IsReady plan files) (stage : IsStage (assembly_of plan files) (Joining (length plan.joints)) handles w) (own : HaveOwnNames plan.parts)
    (sinks : ℕ → Option (List ℕ)) (now : Moment) (N : AreNamed (case plan files handles w ready stage own sinks) (start_at plan w) now) (complete : IsComplete plan now.order) where
  abbrev x : Case
  x = case plan files handles w ready stage own sinks

  abbrev steps : List (Act × Reply)
  steps = steps_of N.entries

  Q : (cursor : Cursor) × IsPlanHistory plan files handles w steps cursor now.world × (IsComplete plan now.order → 1 ≤ length plan.parts → (cursor.phase ≡ 4) × (length plan.parts ≤ cursor.sent))
  Q = requested plan files handles w ready stage own N.lines N.entries now.world now.order N.names N.admits

  O : IsOrdered plan files handles steps Q.0
  O = history_ordered plan files handles w steps Q.0 now.world Q.1

  nothing : O.left ≡ []
  nothing = elim (cases_lt 0 (length plan.parts)) [
    | inl some ↦ (let S = Q.2 complete (omega (arith, some)) in O.whole S.0 S.1)
    | inr z ↦ nothing_left plan files handles w steps Q.0 now.world Q.1 (omega (arith, z)) O.links O.left O.are
  ]

  R : AreRequested (tuned plan files) handles O.links [] steps
  R = subst (λ (left : List (Act × Reply)). AreRequested (tuned plan files) handles O.links left steps) nothing O.are

  run : Run w steps now.world
  run = run_of_names (scene_of plan.parts w) w N.lines N.entries now.world N.names

  -- where all rests, each has told Loaded last
  pub told_loaded : All IsResting (now.world).components → (place : ℕ) → place < length plan.parts → (told_by place steps).state ≡ Some Loaded
  told_loaded resting = all_rest plan files ready handles w stage O.links steps R now.world run
      (λ place c e. (let T = at_place IsResting (now.world).components place c resting e in record { loaded = T.state; told = T.told }))

  -- and where each has told it, and the client objects are in, all rests
  pub at_rest : ((place : ℕ) → place < length plan.parts → (told_by place steps).state ≡ Some Loaded) → All (λ (c : Component). c.client_out ≡ false) (now.world).components → IsPlayedOut plan now.world
  at_rest loaded clients = played_out plan files ready handles w stage O.links steps R now.world run loaded clients

  pub rests : IsPlayedOut plan now.world → IsAtRest x now
  rests P =
      let quiet = ((P.ended).joined).quiet in
      record {
        resting = from_places IsResting (now.world).components (λ i c e.
            (let E = at_place IsAtEnd (now.world).components i c P.components e in
            let D = at_place dismantling.IsResting (now.world).components i c quiet.components e in
            record { state = E.state; calm = D.calm; told = E.told; client = D.client; work = D.work }));
        unmade = quiet.headers;
        complete = complete;
      }
