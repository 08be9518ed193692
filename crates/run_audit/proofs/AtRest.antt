-- What a replay looks at, at the end of its lines, is whether all rests.
use Rattle.std.proofs.Common.{◌≡◌, ℕ, ◌<◌, Bool, false, List, length, slice_get, Option, Some, None, sym, ◌∙◌, ap, subst, arith}
use Rattle.std.proofs.lemmas.Option.{slice_get_within}
use Rattle.omx_types.specs.declared.handle.Handle.{Handle}
use Rattle.omx_types.specs.declared.state.State.TheVariants.{Loaded}
use Rattle.il_machine.specs.declared.answer.Progress.{Progress}
use Rattle.il_machine.specs.World.{Component, component_numbered}
use Rattle.machine_laws.proofs.Every.{at_place, from_places}
use Rattle.play_build_laws.specs.Stages.{IsStage, Joining}
use Rattle.play_forms.specs.Plans.{PlanValue}
use Rattle.play_plan_laws.specs.Assemblies.{assembly_of}
use Rattle.play_plan_laws.specs.Endings.{HasEnded, IsPlayedOut}
use Rattle.play_world_laws.proofs.Lists.{get_there}
use Rattle.il_flow.specs.Works.{WorkOf}
use Rattle.audio_parts.specs.Shown.{ShownPart}
use Rattle.std.specs.Option.{option_and_then}
use Rattle.play_log.specs.Entries.{steps_of}
use Rattle.play_result_laws.specs.Asked.{told_by}
use Rattle.graph_core.specs.Clients.{IsOut}
use Rattle.il_graph.specs.Shown as graphs
use Rattle.compared_files.specs.Comparing.{ComparingValue}
use Rattle.graph_acts.specs.Holding.{IsGone}
use Rattle.graph_acts.specs.Plain.{Sight}
use Rattle.audit_order.specs.Steps.{IsComplete, OrderValue}
use Rattle.audit_forms.specs.Audited.{Case, IsResting, Moment}
use Rattle.audit_forms.specs.Whole.{start_at}
use Rattle.audit_laws.proofs.Told.{AreTold}
use Rattle.run_audit.specs.declared.replay.Replay.{Replay}
use Rattle.run_audit.specs.Ending.{HasCome, IsAtRest}
use Rattle.run_audit.specs.Replaying.{IsReplay, IsStanding}
use Rattle.run_audit.specs.Walking.{PassAll}
use Rattle.run_audit.proofs.Begins.{never_out}
use Rattle.run_audit.proofs.Rests as resting
use Rattle.run_audit.proofs.Stopping.{clients_in, numbered_at}
use Rattle.run_audit.proofs.Way.{AreNamed, IsOn, case, named_all, on_now, told_now}

found_at : {X : Type 0} (things : List X) (thing : X) (o : Option ℕ) → option_and_then (slice_get things) o ≡ Some thing → (i : ℕ) × (slice_get things i ≡ Some thing)
found_at things thing None e = absurd cc
found_at things thing (Some i) e = (i, e)

-- ---- the case as its opening has it

module _ (x : Case) (now : Moment) (C : HasCome x now) where
  abbrev pub stage_of : IsStage (assembly_of x.plan C.files) (Joining (length (x.plan).joints)) (C.opens).0 C.opening
  stage_of = (C.opens).1

  abbrev pub case_is : Case
  case_is = case x.plan C.files (C.opens).0 C.opening C.ready stage_of C.own x.sinks

  pub same_case : case_is ≡ x
  same_case = let e = sym C.scene in λ j. record { plan = x.plan; scene = e j; sinks = x.sinks }

  pub named : AreNamed case_is (start_at x.plan C.opening) now
  named = named_all case_is 1 (start_at x.plan C.opening) C.pieces now (subst (λ (y : Case). PassAll y 1 (start_at x.plan C.opening) C.pieces now) (sym same_case) C.passed)

  pub on : IsOn x.plan C.files (C.opens).0 C.opening C.ready stage_of C.own now.order now.world
  on = on_now x.plan C.files (C.opens).0 C.opening C.ready stage_of C.own x.sinks now named

  pub told_list : AreTold (length (x.plan).parts) now.told (steps_of named.entries)
  told_list = told_now x.plan C.files (C.opens).0 C.opening C.ready stage_of C.own x.sinks now named

  pub rest_of : IsAtRest case_is now → IsAtRest x now
  rest_of R = subst (λ (y : Case). IsAtRest y now) same_case R

  module _ {S : Type 0} (see : Sight S (ComparingValue S) Progress) (tells : Bool) (r : Replay S Progress) (I : IsReplay see tells r x now) where
    J : IsStanding see tells r.served.graph x.plan r.handles.items r.works.items r.clients.items case_is now.world
    J =
        let a = subst (λ (p : PlanValue). IsStanding see tells r.served.graph p r.handles.items r.works.items r.clients.items x now.world) (sym (I.standing).plan_is) I.standing in
        subst (λ (y : Case). IsStanding see tells r.served.graph x.plan r.handles.items r.works.items r.clients.items y now.world) (sym same_case) a

    complete_now : IsComplete r.plan r.order → IsComplete x.plan now.order
    complete_now c = subst (λ (o : OrderValue). IsComplete x.plan o) I.order (subst (λ (p : PlanValue). IsComplete p r.order) (sym (I.standing).plan_is) c)

    complete_back : IsComplete x.plan now.order → IsComplete r.plan r.order
    complete_back c = subst (λ (p : PlanValue). IsComplete p r.order) (I.standing).plan_is (subst (λ (o : OrderValue). IsComplete x.plan o) (sym I.order) c)

    -- what each has told is what the replay has of it
    told_here : (place : ℕ) → place < length (x.plan).parts → slice_get r.told.items place ≡ Some (told_by place (steps_of named.entries))
    told_here place b = ap (λ (l : List Progress). slice_get l place) I.told ∙ told_list.each place b

    pub rests_so : IsComplete r.plan r.order → ((place : ℕ) → place < length r.clients.items → slice_get r.clients.items place ≡ Some None)
        → ((place : ℕ) (p : Progress) → slice_get r.told.items place ≡ Some p → p.state ≡ Some Loaded) → IsAtRest x now
    rests_so c none loaded =
        let many = J.many_clients in
        let complete = complete_now c in
        let ins = clients_in x.plan C.files (C.opens).0 C.opening C.ready stage_of C.own x.sinks now.told now.order now.world on see tells r.served.graph r.handles.items r.works.items r.clients.items J (λ place b. none place (omega (arith, b, many))) in
        let told = λ (place : ℕ) (b : place < length (x.plan).parts). loaded place (told_by place (steps_of named.entries)) (told_here place b) in
        rest_of (resting.rests x.plan C.files (C.opens).0 C.opening C.ready stage_of C.own x.sinks now named complete
        (resting.at_rest x.plan C.files (C.opens).0 C.opening C.ready stage_of C.own x.sinks now named complete told ins))

    -- ---- where all rests, nothing of it fails

    module _ (R : IsAtRest x now) where
      pub none_held : ((h : Handle) → IsGone r.served.graph h → IsOut h (graphs.look_of r.served.graph)) → (place : ℕ) (client : Progress) → slice_get r.clients.items place ≡ Some (Some client) → ⊥
      none_held out place client e =
          let y = ((I.standing).objects).out place client e in
          let gone = ((y.2).0).0 in
          never_out now.world y.0 (λ i a f. (at_place IsResting (now.world).components i a R.resting f).client) (subst (IsOut y.0) (sym ((I.standing).stands).looks) (out y.0 gone))

      pub all_loaded : (place : ℕ) (p : Progress) → slice_get r.told.items place ≡ Some p → (p.state ≡ Some Loaded → ⊥) → ⊥
      all_loaded place p e n =
          let b = slice_get_within r.told.items place p e in
          let m : length r.told.items ≡ length (x.plan).parts = ap length I.told ∙ (I.many_told ∙ ap (λ (q : PlanValue). length q.parts) (sym (I.standing).plan_is)) in
          let low : place < length (x.plan).parts = omega (arith, b, m) in
          let same : Some p ≡ Some (told_by place (steps_of named.entries)) = sym e ∙ told_here place low in
          let is : p ≡ told_by place (steps_of named.entries) = cc in
          n (ap (λ (q : Progress). q.state) is
          ∙ resting.told_loaded x.plan C.files (C.opens).0 C.opening C.ready stage_of C.own x.sinks now named R.complete R.resting place low)

      none_kept : (place : ℕ) (work : WorkOf (ShownPart S (ComparingValue S))) → slice_get r.works.items place ≡ Some (Some work) → ⊥
      none_kept place work e =
          let H = ((((I.standing).works_are).out place work e).1).out in
          let q = found_at (now.world).components H.component _ H.there in
          let z : None ≡ Some H.work = sym (at_place IsResting (now.world).components q.0 H.component R.resting q.1).work ∙ H.out in
          cc

      pub no_works : (place : ℕ) → place < length r.works.items → slice_get r.works.items place ≡ Some None
      no_works place b = (let y = get_there r.works.items place b in by y.0 y.1)
        where
          by : (o : Option (WorkOf (ShownPart S (ComparingValue S)))) → slice_get r.works.items place ≡ Some o → slice_get r.works.items place ≡ Some None
          by None e = e
          by (Some work) e = absurd (none_kept place work e)

      played : IsPlayedOut x.plan now.world
      played = resting.at_rest x.plan C.files (C.opens).0 C.opening C.ready stage_of C.own x.sinks now named R.complete
          (λ place b. resting.told_loaded x.plan C.files (C.opens).0 C.opening C.ready stage_of C.own x.sinks now named R.complete R.resting place b)
          (from_places (λ (c : Component). c.client_out ≡ false) (now.world).components (λ i c e. (at_place IsResting (now.world).components i c R.resting e).client))

      pub ended : HasEnded r.plan now.world
      ended = subst (λ (p : PlanValue). HasEnded p now.world) (I.standing).plan_is played.ended

      pub there : (place : ℕ) → place < length (r.plan).parts → (c : Component) × (component_numbered place now.world ≡ Some c) × (c.work ≡ None)
      there place b =
          let m = ap (λ (p : PlanValue). length p.parts) (I.standing).plan_is in
          let y = numbered_at x.plan C.files (C.opens).0 C.opening C.ready stage_of C.own x.sinks now.told now.order now.world on place (omega (arith, b, m)) in
          (y.0, y.2, (at_place IsResting (now.world).components place y.0 R.resting y.1).work)
