-- The graph of a plan, once it is assembled, is where the histories of its play begin: nothing failed, was told or is out.
use Rattle.std.proofs.Common.{◌≡◌, ℕ, false, List, length, slice_get, Option, Some, None, is_some, option_and_then, refl, sym, ◌∙◌, ap, subst}
use Rattle.omx_types.specs.declared.handle.Handle.{Handle}
use Rattle.il_machine.specs.World.{Component, Work, World, component_numbered, place_numbered}
use Rattle.history_laws.specs.Works.{has_work_out}
use Rattle.play_build_laws.specs.Stages.{IsStage, Joining}
use Rattle.play_build_laws.proofs.Stages.{at_rest}
use Rattle.play_forms.specs.Plans.{PlanValue}
use Rattle.play_world_laws.specs.Openings.{opening}
use Rattle.play_plan_laws.specs.Assemblies.{IsReady, PlayFiles, assembly_of, play_cast_of}
use Rattle.play_turn_laws.proofs.Beginning.{play_begins}
use Rattle.play_history_laws.specs.Following.{IsTaken}
use Rattle.play_history_laws.specs.Order.{nothing_asked}
use Rattle.play_history_laws.proofs.Taken.{begins_taken, inside_same}
use Rattle.play_result_laws.specs.Files.{AreSamples}
use Rattle.play_result_laws.specs.Worlds.{IsOpening}
use Rattle.play_result_laws.specs.Contents.{contents_of, streams_of}
use Rattle.play_result_laws.proofs.Opened.{opening_streams}
use Rattle.play_stream_laws.specs.PlayStreams.{HasPlayStreams}
use Rattle.play_history_laws.specs.Faults.{HasFaultStreams, IsFaulty, IsFresh}
use Rattle.play_history_laws.proofs.FaultOpening.{begins_faulty, begins_flow}

module _ (plan : PlanValue) (files : PlayFiles) (handles : List Handle) (w : World) (S : IsStage (assembly_of plan files) (Joining (length plan.joints)) handles w) where
  no_work : (i : ℕ) (c : Component) → slice_get w.components i ≡ Some c → c.work ≡ None
  no_work i c e = ap (λ (d : Component). d.work) (((S.built).components).each i c e).fresh_else

  pub all_in : (i : ℕ) (c : Component) → slice_get w.components i ≡ Some c → c.client_out ≡ false
  all_in i c e = ap (λ (d : Component). d.client_out) (((S.built).components).each i c e).fresh_else

  none_out : (number : ℕ) → has_work_out number w ≡ false
  none_out number = by (component_numbered number w) refl
    where
      by : (o : Option Component) → component_numbered number w ≡ o → is_some (option_and_then (λ (d : Component). d.work) (component_numbered number w)) ≡ false
      by None e = ap (λ (o : Option Component). is_some (option_and_then (λ (d : Component). d.work) o)) e
      by (Some c) e = ap (λ (o : Option Component). is_some (option_and_then (λ (d : Component). d.work) o)) e ∙ ap (λ (o : Option Work). is_some o) (at (place_numbered number w.components) refl e)
        where
          at : (o : Option ℕ) → place_numbered number w.components ≡ o → component_numbered number w ≡ Some c → c.work ≡ None
          at None p e = let z : None ≡ Some c = sym (ap (option_and_then (slice_get w.components)) p) ∙ e in absurd cc
          at (Some i) p e = no_work i c (sym (ap (option_and_then (slice_get w.components)) p) ∙ e)

  pub plan_fresh : IsFresh w
  plan_fresh = record {
    whole = λ i c e. ap (λ (d : Component). d.part.failed) (((S.built).components).each i c e).fresh_else;
    told = λ i c e. ap (λ (d : Component). d.notes) (((S.built).components).each i c e).fresh_else;
    given = (S.built).given;
    free = none_out;
  }

  pub plan_begins : (recent : ℕ) → IsReady plan files → IsTaken (play_cast_of plan) (nothing_asked (play_cast_of plan).cast) recent opening w
  plan_begins recent R =
      let B = play_begins plan files handles recent w R S in
      begins_taken (play_cast_of plan) recent w B.0 B.1 (at_rest (assembly_of plan files) (Joining (length plan.joints)) handles w S) all_in

  pub plan_faulty : (recent : ℕ) → IsReady plan files → IsFaulty (play_cast_of plan) (nothing_asked (play_cast_of plan).cast) recent opening w.streams w
  plan_faulty recent R = begins_faulty (play_cast_of plan) (nothing_asked (play_cast_of plan).cast) recent opening w (plan_begins recent R) S.sound plan_fresh

-- the streams of the opening
pub plan_flows : (plan : PlanValue) (files : PlayFiles) (samples : List (List ℕ)) (w : World) → IsReady plan files → AreSamples plan files samples → IsOpening plan files w
    → HasFaultStreams (play_cast_of plan) (contents_of plan files samples) (streams_of plan samples) opening w.streams w
plan_flows plan files samples w R F (handles, S) =
    let same = inside_same w (all_in plan files handles w S) in
    begins_flow (play_cast_of plan) (contents_of plan files samples) (streams_of plan samples) opening w (plan_fresh plan files handles w S)
    (subst (λ (z : World). HasPlayStreams (play_cast_of plan) (contents_of plan files samples) opening z) (sym same) (opening_streams plan files samples w R F (handles, S)))
