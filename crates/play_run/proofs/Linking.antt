-- The calls of a link's turn.
use Rattle.std.proofs.Common.{◌≡◌, ◌<◌, ℕ, Bool, true, false, length, Some, Ok, Result, refl, sym, ◌∙◌, ap, subst, arith}
use Rattle.std.specs.Prelude.{OnErr}
use Rattle.std.proofs.lemmas.Option.{slice_get-get_or}
use Rattle.omx_types.specs.declared.handle.Handle.{Handle}
use Rattle.omx_types.specs.declared.error.OmxError.{OmxError}
use Rattle.omx_types.specs.declared.error.CallError.{CallError}
use Rattle.il_machine.specs.declared.answer.Acted.{Acted}
use Rattle.il_machine.specs.declared.answer.Acted.TheVariants.{Did}
use Rattle.il_machine.specs.declared.answer.Progress.{Progress}
use Rattle.il_machine.specs.Acts as acts
use Rattle.il_machine.specs.Flow.{HandBack, HandOver, Release, Supply}
use Rattle.il_machine.specs.Whole.{Steps}
use Rattle.graph_core.specs.Clients.{KeepsAllClients}
use Rattle.il_graph.specs.Shown.{Shown}
use Rattle.il_graph.specs.Stood.{OnIdle}
use Rattle.play_forms.specs.declared.joint.Joint.{Joint}
use Rattle.play_forms.specs.Flows.{no_flow}
use Rattle.play_forms.specs.Plans.{IsValid, PlanValue}
use Rattle.play_model.specs.Play.{Play}
use Rattle.play_model.specs.Acts.{Act}
use Rattle.play_log.specs.Kept.{LogValue}
use Rattle.play_world_laws.specs.Cast.{giver_of, taker_of}
use Rattle.play_world_laws.specs.Worlds.{Names}
use Rattle.play_turn_laws.specs.Turns.{IsAct, IsBackOf, is_did}
use Rattle.play_turn_laws.proofs.Coming.{backs_come, overs_come, releases_come, supplies_come}
use Rattle.play_plan_laws.specs.Casting.{IsLinkCast, flow_of, joint_of, no_joint}
use Rattle.play_plan_laws.proofs.Casts.{plan_has_cast}
use Rattle.play_plan_laws.specs.Assemblies.{play_cast_of}
use Rattle.play_graph.specs.Graphs.{IsHandleAt, kept_of}
use Rattle.play_run.specs.Playing.{AsksIn, IsStanding, PlayingValue, TurnsTo, cast}
use Rattle.play_run.specs.Recording.{IsRecorded, IsToldOf}
use Rattle.play_graph.proofs.Naming.{named_at}
use Rattle.play_run.proofs.Working.{still_none}
use Rattle.play_run.proofs.Recording.{own_on}
use Rattle.il_graph.proofs.PartsStay.{step_stays}
use Rattle.play_run.proofs.Streaming.{BacksOn, OversOn, ReleasesOn, StreamsGo, SuppliesOn, streams_go}
use Rattle.play_run.proofs.Files.{told_same}
use Rattle.play_run.proofs.Answering.{is_ok, keeps_in, not_did, turn_goes, with_both}

-- ---- the ends of a link

pub link_is : (plan : PlanValue) (l : ℕ) → IsValid plan → l < length plan.joints → IsLinkCast plan (cast plan) l (joint_of plan l) (flow_of plan l)
link_is plan l V b =
    let n = V.flows in
    (plan_has_cast plan (λ k. false) V).joints l (joint_of plan l) (flow_of plan l) (slice_get-get_or plan.joints l no_joint b) (slice_get-get_or plan.flows l no_flow (omega arith))

module _ {S K : Type 0} (x : PlayingValue S K) (g : Shown S K Progress) (l : ℕ) (h : Handle) (b : l < length x.plan.joints) where
  taker_named : IsHandleAt x.graph (joint_of x.plan l).taker h → (p : Play) (Y : IsStanding x p) → Names (cast x.plan) Y.world (taker_of (cast x.plan) l) h
  taker_named H p Y =
      let e = (link_is x.plan l Y.valid b).taker in
      named_at Y.world (joint_of x.plan l).taker h ((Y.conducted).play).sound (H Y.world Y.stands) ∙ ap Some (sym e)

  giver_named : IsHandleAt x.graph (joint_of x.plan l).giver h → (p : Play) (Y : IsStanding x p) → Names (cast x.plan) Y.world (giver_of (cast x.plan) l) h
  giver_named H p Y =
      let e = (link_is x.plan l Y.valid b).giver in
      named_at Y.world (joint_of x.plan l).giver h ((Y.conducted).play).sound (H Y.world Y.stands) ∙ ap Some (sym e)

  module _ (keeps : KeepsAllClients x.graph.core g.core) where
    pub supplied : (r : Result Acted CallError) (log : LogValue) → (is_did r ≡ false → log ≡ x.log) → (is_did r ≡ true → IsToldOf x.plan.parts (joint_of x.plan l).taker x.log (λ k. acts.Supply k (joint_of x.plan l).input) (acts.Supplied (Ok Did)) log) → IsHandleAt x.graph (joint_of x.plan l).taker h → SuppliesOn (play_cast_of x.plan) l h r
        → Steps (kept_of x.graph) (kept_of g) (λ w v. Supply w h (joint_of x.plan l).input r v) → OnErr r (g ≡ x.graph) → OnIdle r (g ≡ x.graph) → TurnsTo x (with_both x g log) (is_did r) (IsAct (Act.Supply l))
    supplied r log silent told H streams steps e i = λ p Y.
        let y = play_cast_of x.plan in
        let Z = Y.standing in
        let w = Z.world in
        let W = (Z.conducted).play in
        let v = steps w Z.stands in
        let N = taker_named H p Z in
        let R : is_did r ≡ true → IsRecorded x.plan.parts Z.opening v.0 log (AsksIn x p Z) = λ t. own_on x p Y (joint_of x.plan l).taker h H v.0 (λ k. acts.Supply k (joint_of x.plan l).input) (acts.Supplied (Ok Did)) log (told t) refl tt
        (subst (λ (a : Result Acted CallError). Supply w h (joint_of x.plan l).input a v.0) (is_ok r t) v.2) tt (λ n. refl) refl in
        let F : StreamsGo y p Z.opening v.0 = streams_go y p Z.opening w v.0 Z.streams (streams Z.recent p w v.0 W b N v.2) in
        turn_goes x g log p v.0 (is_did r) (IsAct (Act.Supply l)) Y v.1
        (still_none w (acts.Supply h (joint_of x.plan l).input) (acts.Supplied r) v.0 W.sound tt v.2 (λ n. refl) Z.works)
        (keeps_in x.graph.core g.core keeps Z.clients) (not_did r e i) silent R (λ t. F) (λ t. told_same Z.opening w v.0 Z.told (step_stays w W.sound (acts.Supply h (joint_of x.plan l).input) (acts.Supplied r) v.0 tt tt v.2).streams)
        (supplies_come y Z.recent p w l h r v.0 W b N v.2)

    pub released : (r : Result Acted OmxError) (log : LogValue) → (is_did r ≡ false → log ≡ x.log) → (is_did r ≡ true → IsToldOf x.plan.parts (joint_of x.plan l).taker x.log (λ k. acts.Release k (joint_of x.plan l).input) (acts.Acted (Ok Did)) log) → IsHandleAt x.graph (joint_of x.plan l).taker h → ReleasesOn (play_cast_of x.plan) l h r
        → Steps (kept_of x.graph) (kept_of g) (λ w v. Release w h (joint_of x.plan l).input r v) → OnErr r (g ≡ x.graph) → OnIdle r (g ≡ x.graph) → TurnsTo x (with_both x g log) (is_did r) (IsAct (Act.Release l))
    released r log silent told H streams steps e i = λ p Y.
        let y = play_cast_of x.plan in
        let Z = Y.standing in
        let w = Z.world in
        let W = (Z.conducted).play in
        let v = steps w Z.stands in
        let N = taker_named H p Z in
        let R : is_did r ≡ true → IsRecorded x.plan.parts Z.opening v.0 log (AsksIn x p Z) = λ t. own_on x p Y (joint_of x.plan l).taker h H v.0 (λ k. acts.Release k (joint_of x.plan l).input) (acts.Acted (Ok Did)) log (told t) refl tt
        (subst (λ (a : Result Acted OmxError). Release w h (joint_of x.plan l).input a v.0) (is_ok r t) v.2) tt (λ n. refl) refl in
        let F : StreamsGo y p Z.opening v.0 = streams_go y p Z.opening w v.0 Z.streams (streams Z.recent p w v.0 W b N v.2) in
        turn_goes x g log p v.0 (is_did r) (IsAct (Act.Release l)) Y v.1
        (still_none w (acts.Release h (joint_of x.plan l).input) (acts.Acted r) v.0 W.sound tt v.2 (λ n. refl) Z.works)
        (keeps_in x.graph.core g.core keeps Z.clients) (not_did r e i) silent R (λ t. F) (λ t. told_same Z.opening w v.0 Z.told (step_stays w W.sound (acts.Release h (joint_of x.plan l).input) (acts.Acted r) v.0 tt tt v.2).streams)
        (releases_come y Z.recent p w l h r v.0 W b N v.2)

    pub handed_over : (r : Result Acted OmxError) (log : LogValue) → (is_did r ≡ false → log ≡ x.log) → (is_did r ≡ true → IsToldOf x.plan.parts (joint_of x.plan l).taker x.log (λ k. acts.HandOver k (joint_of x.plan l).input) (acts.Acted (Ok Did)) log) → IsHandleAt x.graph (joint_of x.plan l).taker h → OversOn (play_cast_of x.plan) l h r
        → Steps (kept_of x.graph) (kept_of g) (λ w v. HandOver w h (joint_of x.plan l).input r v) → OnErr r (g ≡ x.graph) → OnIdle r (g ≡ x.graph) → TurnsTo x (with_both x g log) (is_did r) (IsAct (Act.HandOver l))
    handed_over r log silent told H streams steps e i = λ p Y.
        let y = play_cast_of x.plan in
        let Z = Y.standing in
        let w = Z.world in
        let W = (Z.conducted).play in
        let v = steps w Z.stands in
        let N = taker_named H p Z in
        let R : is_did r ≡ true → IsRecorded x.plan.parts Z.opening v.0 log (AsksIn x p Z) = λ t. own_on x p Y (joint_of x.plan l).taker h H v.0 (λ k. acts.HandOver k (joint_of x.plan l).input) (acts.Acted (Ok Did)) log (told t) refl tt
        (subst (λ (a : Result Acted OmxError). HandOver w h (joint_of x.plan l).input a v.0) (is_ok r t) v.2) tt (λ n. refl) refl in
        let F : StreamsGo y p Z.opening v.0 = streams_go y p Z.opening w v.0 Z.streams (streams Z.recent p w v.0 W b N v.2) in
        turn_goes x g log p v.0 (is_did r) (IsAct (Act.HandOver l)) Y v.1
        (still_none w (acts.HandOver h (joint_of x.plan l).input) (acts.Acted r) v.0 W.sound tt v.2 (λ n. refl) Z.works)
        (keeps_in x.graph.core g.core keeps Z.clients) (not_did r e i) silent R (λ t. F) (λ t. told_same Z.opening w v.0 Z.told (step_stays w W.sound (acts.HandOver h (joint_of x.plan l).input) (acts.Acted r) v.0 tt tt v.2).streams)
        (overs_come y Z.recent p w l h r v.0 W b N v.2)

    pub handed_back : (r : Result Acted OmxError) (log : LogValue) → (is_did r ≡ false → log ≡ x.log) → (is_did r ≡ true → IsToldOf x.plan.parts (joint_of x.plan l).giver x.log (λ k. acts.HandBack k (joint_of x.plan l).output) (acts.Acted (Ok Did)) log) → IsHandleAt x.graph (joint_of x.plan l).giver h → BacksOn (play_cast_of x.plan) l h r
        → Steps (kept_of x.graph) (kept_of g) (λ w v. HandBack w h (joint_of x.plan l).output r v) → OnErr r (g ≡ x.graph) → OnIdle r (g ≡ x.graph) → TurnsTo x (with_both x g log) (is_did r) (IsBackOf l)
    handed_back r log silent told H streams steps e i = λ p Y.
        let y = play_cast_of x.plan in
        let Z = Y.standing in
        let w = Z.world in
        let W = (Z.conducted).play in
        let v = steps w Z.stands in
        let N = giver_named H p Z in
        let R : is_did r ≡ true → IsRecorded x.plan.parts Z.opening v.0 log (AsksIn x p Z) = λ t. own_on x p Y (joint_of x.plan l).giver h H v.0 (λ k. acts.HandBack k (joint_of x.plan l).output) (acts.Acted (Ok Did)) log (told t) refl tt
        (subst (λ (a : Result Acted OmxError). HandBack w h (joint_of x.plan l).output a v.0) (is_ok r t) v.2) tt (λ n. refl) refl in
        let F : StreamsGo y p Z.opening v.0 = streams_go y p Z.opening w v.0 Z.streams (streams Z.recent p w v.0 W b N v.2) in
        turn_goes x g log p v.0 (is_did r) (IsBackOf l) Y v.1
        (still_none w (acts.HandBack h (joint_of x.plan l).output) (acts.Acted r) v.0 W.sound tt v.2 (λ n. refl) Z.works)
        (keeps_in x.graph.core g.core keeps Z.clients) (not_did r e i) silent R (λ t. F) (λ t. told_same Z.opening w v.0 Z.told (step_stays w W.sound (acts.HandBack h (joint_of x.plan l).output) (acts.Acted r) v.0 tt tt v.2).streams)
        (backs_come y Z.recent p w l h r v.0 W b N v.2)

-- ---- the same, of what is known where a call was made

module _ {S K : Type 0} where
  pub supply_turns : (y x : PlayingValue S K) → y ≡ x → (g : Shown S K Progress) (log : LogValue) (l : ℕ) (j : Joint) (h : Handle) (r : Result Acted CallError) (d : Bool) → l < length x.plan.joints → j ≡ joint_of x.plan l → IsHandleAt x.graph j.taker h
      → KeepsAllClients y.graph.core g.core → SuppliesOn (play_cast_of y.plan) l h r → Steps (kept_of y.graph) (kept_of g) (λ w v. Supply w h j.input r v) → OnErr r (g ≡ y.graph) → OnIdle r (g ≡ y.graph) → d ≡ is_did r
      → (d ≡ false → log ≡ y.log) → (d ≡ true → IsToldOf y.plan.parts j.taker y.log (λ k. acts.Supply k j.input) (acts.Supplied (Ok Did)) log) → TurnsTo x (with_both y g log) d (IsAct (Act.Supply l))
  supply_turns y x is g log l j h r d b J H keeps streams steps e i D silent told =
      subst (λ (z : PlayingValue S K). l < length z.plan.joints → j ≡ joint_of z.plan l → IsHandleAt z.graph j.taker h → TurnsTo z (with_both y g log) d (IsAct (Act.Supply l))) is
      (λ b J H. subst (λ (o : Bool). TurnsTo y (with_both y g log) o (IsAct (Act.Supply l))) (sym D)
      (supplied y g l h b keeps r log (λ f. silent (D ∙ f)) (λ t. subst (λ (k : Joint). IsToldOf y.plan.parts k.taker y.log (λ n. acts.Supply n k.input) (acts.Supplied (Ok Did)) log) J (told (D ∙ t)))
      (subst (λ (k : Joint). IsHandleAt y.graph k.taker h) J H) streams (subst (λ (k : Joint). Steps (kept_of y.graph) (kept_of g) (λ w v. Supply w h k.input r v)) J steps) e i))
      b J H

  pub release_turns : (y x : PlayingValue S K) → y ≡ x → (g : Shown S K Progress) (log : LogValue) (l : ℕ) (j : Joint) (h : Handle) (r : Result Acted OmxError) (d : Bool) → l < length x.plan.joints → j ≡ joint_of x.plan l → IsHandleAt x.graph j.taker h
      → KeepsAllClients y.graph.core g.core → ReleasesOn (play_cast_of y.plan) l h r → Steps (kept_of y.graph) (kept_of g) (λ w v. Release w h j.input r v) → OnErr r (g ≡ y.graph) → OnIdle r (g ≡ y.graph) → d ≡ is_did r
      → (d ≡ false → log ≡ y.log) → (d ≡ true → IsToldOf y.plan.parts j.taker y.log (λ k. acts.Release k j.input) (acts.Acted (Ok Did)) log) → TurnsTo x (with_both y g log) d (IsAct (Act.Release l))
  release_turns y x is g log l j h r d b J H keeps streams steps e i D silent told =
      subst (λ (z : PlayingValue S K). l < length z.plan.joints → j ≡ joint_of z.plan l → IsHandleAt z.graph j.taker h → TurnsTo z (with_both y g log) d (IsAct (Act.Release l))) is
      (λ b J H. subst (λ (o : Bool). TurnsTo y (with_both y g log) o (IsAct (Act.Release l))) (sym D)
      (released y g l h b keeps r log (λ f. silent (D ∙ f)) (λ t. subst (λ (k : Joint). IsToldOf y.plan.parts k.taker y.log (λ n. acts.Release n k.input) (acts.Acted (Ok Did)) log) J (told (D ∙ t)))
      (subst (λ (k : Joint). IsHandleAt y.graph k.taker h) J H) streams (subst (λ (k : Joint). Steps (kept_of y.graph) (kept_of g) (λ w v. Release w h k.input r v)) J steps) e i))
      b J H

  pub over_turns : (y x : PlayingValue S K) → y ≡ x → (g : Shown S K Progress) (log : LogValue) (l : ℕ) (j : Joint) (h : Handle) (r : Result Acted OmxError) (d : Bool) → l < length x.plan.joints → j ≡ joint_of x.plan l → IsHandleAt x.graph j.taker h
      → KeepsAllClients y.graph.core g.core → OversOn (play_cast_of y.plan) l h r → Steps (kept_of y.graph) (kept_of g) (λ w v. HandOver w h j.input r v) → OnErr r (g ≡ y.graph) → OnIdle r (g ≡ y.graph) → d ≡ is_did r
      → (d ≡ false → log ≡ y.log) → (d ≡ true → IsToldOf y.plan.parts j.taker y.log (λ k. acts.HandOver k j.input) (acts.Acted (Ok Did)) log) → TurnsTo x (with_both y g log) d (IsAct (Act.HandOver l))
  over_turns y x is g log l j h r d b J H keeps streams steps e i D silent told =
      subst (λ (z : PlayingValue S K). l < length z.plan.joints → j ≡ joint_of z.plan l → IsHandleAt z.graph j.taker h → TurnsTo z (with_both y g log) d (IsAct (Act.HandOver l))) is
      (λ b J H. subst (λ (o : Bool). TurnsTo y (with_both y g log) o (IsAct (Act.HandOver l))) (sym D)
      (handed_over y g l h b keeps r log (λ f. silent (D ∙ f)) (λ t. subst (λ (k : Joint). IsToldOf y.plan.parts k.taker y.log (λ n. acts.HandOver n k.input) (acts.Acted (Ok Did)) log) J (told (D ∙ t)))
      (subst (λ (k : Joint). IsHandleAt y.graph k.taker h) J H) streams (subst (λ (k : Joint). Steps (kept_of y.graph) (kept_of g) (λ w v. HandOver w h k.input r v)) J steps) e i))
      b J H

  pub back_turns : (y x : PlayingValue S K) → y ≡ x → (g : Shown S K Progress) (log : LogValue) (l : ℕ) (j : Joint) (h : Handle) (r : Result Acted OmxError) (d : Bool) → l < length x.plan.joints → j ≡ joint_of x.plan l → IsHandleAt x.graph j.giver h
      → KeepsAllClients y.graph.core g.core → BacksOn (play_cast_of y.plan) l h r → Steps (kept_of y.graph) (kept_of g) (λ w v. HandBack w h j.output r v) → OnErr r (g ≡ y.graph) → OnIdle r (g ≡ y.graph) → d ≡ is_did r
      → (d ≡ false → log ≡ y.log) → (d ≡ true → IsToldOf y.plan.parts j.giver y.log (λ k. acts.HandBack k j.output) (acts.Acted (Ok Did)) log) → TurnsTo x (with_both y g log) d (IsBackOf l)
  back_turns y x is g log l j h r d b J H keeps streams steps e i D silent told =
      subst (λ (z : PlayingValue S K). l < length z.plan.joints → j ≡ joint_of z.plan l → IsHandleAt z.graph j.giver h → TurnsTo z (with_both y g log) d (IsBackOf l)) is
      (λ b J H. subst (λ (o : Bool). TurnsTo y (with_both y g log) o (IsBackOf l)) (sym D)
      (handed_back y g l h b keeps r log (λ f. silent (D ∙ f)) (λ t. subst (λ (k : Joint). IsToldOf y.plan.parts k.giver y.log (λ n. acts.HandBack n k.output) (acts.Acted (Ok Did)) log) J (told (D ∙ t)))
      (subst (λ (k : Joint). IsHandleAt y.graph k.giver h) J H) streams (subst (λ (k : Joint). Steps (kept_of y.graph) (kept_of g) (λ w v. HandBack w h k.output r v)) J steps) e i))
      b J H
