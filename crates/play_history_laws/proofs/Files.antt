-- What the files of a plan's sinks have taken behind steps that were requested in time.
use Rattle.std.proofs.Common.{◌≡◌, ℕ, ◌≤◌, false, List, [], length, arith}
use Rattle.std.proofs.lemmas.Option.{slice_get_within}
use Rattle.omx_types.specs.declared.handle.Handle.{Handle}
use Rattle.il_machine.specs.Acts.{Act, Reply}
use Rattle.il_machine.specs.Run.{Run}
use Rattle.il_machine.specs.World.{World}
use Rattle.play_build_laws.specs.Stages.{IsStage, Joining}
use Rattle.play_forms.specs.Plain.{sink_text}
use Rattle.play_forms.specs.Plans.{PlanValue}
use Rattle.play_world_laws.specs.Openings.{opening}
use Rattle.play_world_laws.specs.PlayWorlds.{PlayCast}
use Rattle.play_plan_laws.specs.Assemblies.{IsReady, PlayFiles, assembly_of, play_cast_of}
use Rattle.play_result_laws.specs.Asked.{tuned}
use Rattle.play_result_laws.specs.Contents.{contents_of, streams_of}
use Rattle.play_result_laws.specs.Files.{AreSamples, IsWriter}
use Rattle.play_result_laws.specs.Texts.{HasWrittenFront}
use Rattle.play_result_laws.specs.Worlds.{HasWritten}
use Rattle.play_result_laws.proofs.Plainly.{plan_plain}
use Rattle.play_history_laws.specs.Order.{Cursor, nothing_asked}
use Rattle.play_history_laws.specs.Faults.{HasFaulted, HasFaultStreams, IsFaulty, NoneFailed}
use Rattle.play_history_laws.proofs.Faulty.{all_faulty}
use Rattle.play_history_laws.proofs.Whole.{all_whole}
use Rattle.play_history_laws.specs.Askings.{IsPlanHistory}
use Rattle.play_history_laws.specs.Requests.{AreRequested}
use Rattle.play_history_laws.proofs.Askings.{many_now}
use Rattle.play_history_laws.proofs.PlanOpening.{plan_faulty, plan_flows}
use Rattle.play_history_laws.proofs.Requested.{requested_history}
use Rattle.play_history_laws.proofs.Texts.{fault_fronts, fault_whole}

module _ (plan : PlanValue) (files : PlayFiles) (R : IsReady plan files)
    (handles : List Handle) (w : World) (S : IsStage (assembly_of plan files) (Joining (length plan.joints)) handles w)
    (links : List ℕ) (left steps : List (Act × Reply)) (A : AreRequested (tuned plan files) handles links left steps) (v : World) (r : Run w steps v) where
  abbrev x : PlayCast
  x = play_cast_of plan

  pub history : (cursor : Cursor) × IsPlanHistory plan files handles w steps cursor v × (left ≡ [] → 1 ≤ length plan.parts → cursor.phase ≡ 4)
  history = requested_history plan files handles w R S links left steps A v r

  begun : IsFaulty (play_cast_of plan) (nothing_asked (play_cast_of plan).cast) 0 opening w.streams w
  begun = plan_faulty plan files handles w S 0 R

  come : HasFaulted x (nothing_asked x.cast) 0 opening history.0 w.streams w v
  come = all_faulty x steps (nothing_asked x.cast) 0 opening w.streams w history.0 v begun (history.1).goes

  -- where all was requested no step has failed
  pub requested_none : left ≡ [] → NoneFailed v
  requested_none none = λ place c e.
      let some = slice_get_within v.components place c e in
      let many = many_now plan files handles w steps history.0 v history.1 in
      let over = history.2 none (omega (arith, some, many)) in
      all_whole x steps (nothing_asked x.cast) 0 opening w.streams w history.0 v begun (history.1).goes (λ b. absurd (omega (arith, b))) (omega (arith, over)) place c e

  module _ (samples : List (List ℕ)) (F : AreSamples plan files samples) where
    flows : HasFaultStreams x (contents_of plan files samples) (streams_of plan samples) come.now come.later v
    flows = come.leads (contents_of plan files samples) (streams_of plan samples) (plan_plain plan files samples R F (λ l. false)) (plan_flows plan files samples w R F (handles, S))

    pub requested_fronts : (place : ℕ) (name : List ℕ) → IsWriter plan.parts place name → HasWrittenFront v place (sink_text plan samples place)
    requested_fronts place name I = fault_fronts plan files samples R F history.0 come.recent come.now come.later v come.faulty flows place name I

    pub requested_whole : left ≡ [] → (place : ℕ) (name : List ℕ) → IsWriter plan.parts place name → HasWritten v place (sink_text plan samples place)
    requested_whole none place name I =
        let b = slice_get_within plan.parts place I.0 I.1 in
        let over = history.2 none (omega (arith, b)) in
        fault_whole plan files samples R F history.0 come.recent come.now come.later v come.faulty flows (omega (arith, over)) (requested_none none) place name I
