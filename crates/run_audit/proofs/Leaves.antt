-- A replay that is left comes to where its graph can be stopped.
use Rattle.std.proofs.Common.{◌≡◌, ℕ, ◌+◌, ◌<◌, ◌≤◌, Bool, true, false, List, length, slice_get, Option, Some, None, inl, inr, sym, ◌∙◌, ap, subst, arith}
use Rattle.std.proofs.lemmas.Bool.{cases_lt}
use Rattle.il_machine.specs.declared.answer.Progress.{Progress}
use Rattle.il_machine.specs.World.{World}
use Rattle.play_build_laws.specs.Dismantling.{AreLinks}
use Rattle.play_forms.specs.Plans.{PlanValue}
use Rattle.play_plan_laws.specs.Assemblies.{IsReady, PlayFiles, is_late_link}
use Rattle.play_plan_laws.specs.Casting.{flow_of, joint_of}
use Rattle.play_plan_laws.specs.Endings.{ends_of as plan_ends}
use Rattle.play_plan_laws.proofs.Lawful.{link_is as link_there}
use Rattle.play_graph.specs.Stops.{HasStopped}
use Rattle.compared_files.specs.Comparing.{ComparingValue}
use Rattle.graph_acts.specs.Plain.{Sight}
use Rattle.audit_order.specs.declared.ends.LinkEnds.{LinkEnds}
use Rattle.audit_order.specs.Ends.{ends_by, link_at, port_named}
use Rattle.audit_order.specs.Steps.{OrderValue}
use Rattle.audit_forms.specs.Audited.{Case, Moment}
use Rattle.audit_laws.proofs.Links.{ends_of}
use Rattle.audit_laws.proofs.Texts.{name_in}
use Rattle.run_audit.specs.declared.replay.Replay.{Replay}
use Rattle.run_audit.specs.Ending.{HasCome}
use Rattle.run_audit.specs.Leading.{IsSinceMoment, StandsIn}
use Rattle.run_audit.specs.Leaving.{AreTried, rejoining}
use Rattle.run_audit.specs.Replaying.{IsStanding}
use Rattle.run_audit.specs.Settling.{IsSettled}
use Rattle.run_audit.proofs.AtRest.{case_is, named, same_case, stage_of}
use Rattle.run_audit.proofs.Stopping.{can_stop, few as few_links, links as all_links}
use Rattle.run_audit.proofs.Tunnels.{IsUpTo, rejoined}
use Rattle.run_audit.proofs.Way.{IsOn, on_settled, on_since}

-- the ends of a link of a plan that is ready
ends_there : (plan : PlanValue) (files : PlayFiles) (ready : IsReady plan files) (l : ℕ) → l < length plan.joints → link_at plan.parts (slice_get plan.joints l) (slice_get plan.flows l) ≡ Some (ends_of plan l)
ends_there plan files ready l b =
    let K = link_there plan files ready l b in
    let there = K.part_there in
    (λ j. link_at plan.parts (K.there_joint j) (K.there_flow j))
    ∙ ((λ j. ends_by (there false j) (there true j) (joint_of plan l) (flow_of plan l))
    ∙ (λ j. Some (record {
      output = port_named (name_in (sym (there false) j)) (joint_of plan l).output;
      input = port_named (name_in (sym (there true) j)) (joint_of plan l).input;
      taker = (joint_of plan l).taker;
      format = (flow_of plan l).format;
      count = (joint_of plan l).count;
      size = (joint_of plan l).size;
    })))

module _ (x : Case) (now : Moment) (C : HasCome x now) where
  abbrev pub On : OrderValue → World → Type 0
  On order v = IsOn x.plan C.files (C.opens).0 C.opening C.ready (stage_of x now C) C.own order v

  pub left_on : (order : OrderValue) (v : World) → IsSinceMoment order x now v → On order v
  left_on order v S = on_since x.plan C.files (C.opens).0 C.opening C.ready (stage_of x now C) C.own x.sinks now (named x now C) order v (subst (λ (y : Case). IsSinceMoment order y now v) (sym (same_case x now C)) S)

  -- the tunnels of the first links are up
  abbrev pub AreUp : ℕ → OrderValue → Type 0
  AreUp count order = (l : ℕ) → l < count → is_late_link x.plan l ≡ true → IsUpTo 6 x.plan l order

  pub none_up : (order : OrderValue) → AreUp 0 order
  none_up order l b late = absurd (omega (arith, b))

  pub one_more_up : (told : List Progress) (l : ℕ) (order next : OrderValue) (v u : World) → l < length (x.plan).joints → On order v → AreUp l order
      → AreTried x.plan told x (rejoining (link_at (x.plan).parts (slice_get (x.plan).joints l) (slice_get (x.plan).flows l))) order v next u → On next u × AreUp (l + 1) next
  one_more_up told l order next v u b O U T =
      let tried : AreTried x.plan told (case_is x now C) (rejoining (Some (ends_of x.plan l))) order v next u =
      subst (λ (o : Option LinkEnds). AreTried x.plan told (case_is x now C) (rejoining o) order v next u) (ends_there x.plan C.files C.ready l b)
      (subst (λ (y : Case). AreTried x.plan told y (rejoining (link_at (x.plan).parts (slice_get (x.plan).joints l) (slice_get (x.plan).flows l))) order v next u) (sym (same_case x now C)) T) in
      let R = rejoined x.plan C.files (C.opens).0 C.opening C.ready (stage_of x now C) C.own x.sinks told l order next v u O tried in (
        R.on,
        λ k below late. elim (cases_lt k l) [
          | inl lt ↦ R.others k (U k lt late)
          | inr le ↦ let same : l ≡ k = omega (arith, below, le) in subst (λ (i : ℕ). IsUpTo 6 x.plan i next) same (R.its b (subst (λ (i : ℕ). is_late_link x.plan i ≡ true) (sym same) late))
        ],
      )

  pub settled : (order : OrderValue) (v u : World) → On order v → IsSettled x v u → On order u
  settled order v u O S = on_settled x.plan C.files (C.opens).0 C.opening C.ready (stage_of x now C) C.own x.sinks order v u O (subst (λ (y : Case). IsSettled y v u) (sym (same_case x now C)) S)

  module _ (told : List Progress) (order : OrderValue) (v : World) (O : On order v) where
    pub links : AreLinks (plan_ends x.plan) (length (x.plan).joints)
    links = all_links x.plan C.files (C.opens).0 C.opening C.ready (stage_of x now C) C.own x.sinks told order v O

    pub few : length (x.plan).joints ≤ 1024
    few = few_links x.plan C.files (C.opens).0 C.opening C.ready (stage_of x now C) C.own x.sinks told order v O

    pub stops : {S : Type 0} (see : Sight S (ComparingValue S) Progress) (tells : Bool) (r : Replay S Progress) → StandsIn see tells r x v
        → ((place : ℕ) → place < length (r.plan).parts → slice_get r.works.items place ≡ Some None) → ((place : ℕ) → place < length (r.plan).parts → slice_get r.clients.items place ≡ Some None)
        → AreUp (length (x.plan).joints) order → HasStopped x.plan 0 v
    stops see tells r I works clients up =
        let same = I.plan_is in
        let J = subst (λ (y : Case). IsStanding see tells r.served.graph x.plan r.handles.items r.works.items r.clients.items y v) (sym (same_case x now C))
        (subst (λ (p : PlanValue). IsStanding see tells r.served.graph p r.handles.items r.works.items r.clients.items x v) (sym same) I) in
        let fewer = ap (λ (p : PlanValue). length p.parts) same in
        can_stop x.plan C.files (C.opens).0 C.opening C.ready (stage_of x now C) C.own x.sinks told order v O see tells r.served.graph r.handles.items r.works.items r.clients.items J
        (λ place b. clients place (omega (arith, b, fewer))) (λ place b. works place (omega (arith, b, fewer))) up
