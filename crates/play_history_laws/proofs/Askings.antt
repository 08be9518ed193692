-- What the steps of a plan's history have told, and what its client asks, as the cursor reads them.
use Rattle.std.proofs.Common.{◌≡◌, ◌⊎◌, inl, inr, ℕ, zero, suc, ◌<◌, ◌≤◌, Bool, true, false, not, cond, List, [], ◌∷◌, ◌++◌, map, length, slice_get, Option, Some, None, option_map, is_some, refl, sym, ◌∙◌, ap, subst, arith}
use Rattle.std.specs.Prelude.{flat_map}
use Rattle.std.proofs.lemmas.List.{length-map}
use Rattle.std.proofs.lemmas.Option.{slice_get-get_or, slice_get_within}
use Rattle.omx_types.specs.declared.command.Command.TheVariants.{PortDisable, PortEnable, StateSet}
use Rattle.omx_types.specs.declared.command.Completion.{Completion}
use Rattle.omx_types.specs.declared.fault.PartFault.{PartFault}
use Rattle.omx_types.specs.declared.handle.Handle.{Handle}
use Rattle.omx_types.specs.declared.state.State.{State}
use Rattle.omx_types.specs.declared.state.State.TheVariants.{Loaded, Idle, Executing}
use Rattle.il_machine.specs.Acts.{Act, Reply}
use Rattle.il_machine.specs.Acts as acts
use Rattle.il_machine.specs.Kinds.{is_sink}
use Rattle.il_machine.specs.Places.{first_place}
use Rattle.il_machine.specs.Run.{Step}
use Rattle.il_machine.specs.World.{Component, World, is_at, place_of}
use Rattle.il_machine.proofs.Places.{is_first_place}
use Rattle.script_lang.specs.declared.play_line.PartLine.{PartLine}
use Rattle.play_build_laws.specs.Assembly.{Assembly}
use Rattle.play_build_laws.specs.Building.{handle_at, joining_act, no_handle, setting_act}
use Rattle.play_build_laws.specs.Stages.{Joining}
use Rattle.play_build_laws.proofs.Stages.{names}
use Rattle.play_forms.specs.Flows.{no_flow}
use Rattle.play_forms.specs.Parts.{passes_at}
use Rattle.play_forms.specs.Plans.{PlanValue}
use Rattle.play_model.specs.Play.{component_at}
use Rattle.play_world_laws.specs.Cast.{giver_of, script_place}
use Rattle.play_world_laws.specs.Openings.{opening}
use Rattle.play_world_laws.specs.PlayWorlds.{PlayCast}
use Rattle.play_world_laws.specs.Standing.{target}
use Rattle.play_world_laws.specs.Telling.{heard}
use Rattle.play_world_laws.specs.Worlds.{Names}
use Rattle.play_world_laws.proofs.Lists.{get_there}
use Rattle.play_plan_laws.specs.Assemblies.{PlayFiles, assembly_of, kind_in, play_cast_of}
use Rattle.play_plan_laws.specs.Casting.{IsLinkCast, flow_of, joint_of, no_joint, place_of as seat_of}
use Rattle.play_plan_laws.proofs.Casts.{plan_has_cast}
use Rattle.play_result_laws.specs.Asked.{AreAllAt, AreBothDone, BackToIdle, Disabling, Enabling, HasCause, Retuning, acts_of, change_of, dropping, is_unasked, port_sending, sending, told_by, tuned}
use Rattle.read_world_laws.specs.Beside.{IsDeclined}
use Rattle.read_world_laws.specs.Inside.{taken_in}
use Rattle.read_world_laws.specs.Mended.{mended}
use Rattle.read_world_laws.proofs.Inside as ins
use Rattle.play_history_laws.specs.Histories.{IsUnasked}
use Rattle.play_history_laws.specs.Order.{BothHaveTold, Cursor, EachHasHeard, HasHeardOf, IsAsked, IsChangeAct, IsSending, nothing_asked}
use Rattle.play_history_laws.specs.Faults.{HasFaulted, IsFailedStep, IsFaulty}
use Rattle.play_history_laws.specs.Telling.{IsAlike}
use Rattle.play_history_laws.proofs.Accepting.{accepts, not_declined}
use Rattle.play_history_laws.proofs.FaultAsking.{asked_so}
use Rattle.play_history_laws.proofs.Faulty.{all_faulty}
use Rattle.play_history_laws.proofs.StreamsKept.{read_there}
use Rattle.play_history_laws.proofs.Telling.{all_named, told_so}
use Rattle.play_history_laws.specs.Askings.{IsPlanHistory, asking_of, read_of}
use Rattle.play_history_laws.proofs.PlanOpening.{plan_faulty}

-- ---- what is read

place_mended : (h : Handle) (cs : List Component) → first_place (is_at h) (map mended cs) ≡ first_place (is_at h) cs
place_mended h [] = refl
place_mended h (c ∷ cs) = ap (λ (o : Option ℕ). cond (is_at h c) (Some 0) (option_map suc o)) (place_mended h cs)

pub place_read : (h : Handle) (w : World) → place_of h (read_of w).components ≡ place_of h w.components
place_read h w = ins.place_in h (map mended w.components) ∙ (is_first_place (is_at h) (map mended w.components) ∙ (place_mended h w.components ∙ sym (is_first_place (is_at h) w.components)))

pub read_is : (w : World) (i : ℕ) (d : Component) → slice_get (read_of w).components i ≡ Some d → (c : Component) × (slice_get w.components i ≡ Some c) × (taken_in (mended c) ≡ d)
read_is w i d e =
    let b = slice_get_within (read_of w).components i d e in
    let once = length-map w.components mended in
    let twice = length-map (map mended w.components) taken_in in
    let c = get_there w.components i (omega (arith, b, once, twice)) in
    let s : Some (taken_in (mended c.0)) ≡ Some d = sym (read_there w.streams w i c.0 c.1) ∙ e in
    let same : taken_in (mended c.0) ≡ d = cc in
    (c.0, c.1, same)

sink_kind : (o : Option PartLine) → passes_at is_sink o ≡ true → is_sink (kind_in o) ≡ true
sink_kind None t = absurd cc
sink_kind (Some part) t = t

-- ---- what needs no asking

pub unasked_is : (a : Act) (r : Reply) → is_unasked a r ≡ true → IsUnasked a ⊎ IsFailedStep a
unasked_is (acts.RunCommand h) r t = inl tt
unasked_is (acts.Claim h) r t = inl tt
unasked_is (acts.Finish done) r t = by done.fault refl
  where
    by : (o : Option PartFault) → done.fault ≡ o → (done.fault ≡ None) ⊎ ((fault : PartFault) × (done.fault ≡ Some fault))
    by None e = inl e
    by (Some fault) e = inr (fault, e)
unasked_is (acts.Supply h port) r t = inl tt
unasked_is (acts.Release h port) r t = inl tt
unasked_is (acts.HandOver h port) r t = inl tt
unasked_is (acts.HandBack h port) r t = inl tt
unasked_is (acts.TakeNote h) r t = inl tt
unasked_is (acts.EndNote h progress) r t = inl tt
unasked_is (acts.Progress h) r t = inl tt
unasked_is _ r t = absurd cc

-- one of the acts that are sent to all
sent_at : (state : State) (handles : List Handle) (i : ℕ) (step : Act × Reply) → slice_get (map (sending state) handles) i ≡ Some step → (h : Handle) × (slice_get handles i ≡ Some h) × (sending state h ≡ step)
sent_at state [] i step e = absurd cc
sent_at state (h ∷ handles) zero step e = let s : sending state h ≡ step = cc in (h, refl, s)
sent_at state (h ∷ handles) (suc i) step e = sent_at state handles i step e

-- ---- in the world to which a history leads

module _ (plan : PlanValue) (files : PlayFiles) (handles : List Handle) (w : World) (steps : List (Act × Reply)) (k : Cursor) (v : World) (G : IsPlanHistory plan files handles w steps k v) where
  abbrev x : PlayCast
  x = play_cast_of plan

  abbrev s : Assembly
  s = tuned plan files

  abbrev u : World
  u = read_of v

  begun : IsFaulty (play_cast_of plan) (nothing_asked (play_cast_of plan).cast) 0 opening w.streams w
  begun = plan_faulty plan files handles w G.stage 0 G.ready

  pub come : HasFaulted (play_cast_of plan) (nothing_asked (play_cast_of plan).cast) 0 opening k w.streams w v
  come = all_faulty x steps (nothing_asked x.cast) 0 opening w.streams w k v begun G.goes

  pub hears : (i : ℕ) (d : Component) → slice_get u.components i ≡ Some d → IsAlike (heard u d) (told_by i steps)
  hears i d e =
      let c = read_is v i d e in
      subst (λ (y : Component). IsAlike (heard u y) (told_by i steps)) c.2 (told_so x (nothing_asked x.cast) 0 opening w.streams w begun steps k v G.goes ((G.stage).built).given i c.0 c.1)

  -- its place
  pub placed : (n : ℕ) → n < length plan.parts → script_place x.cast n < length plan.parts
  placed n b =
      let V = (G.ready).valid in
      let t = (plan_has_cast plan (λ l. false) V).placed n b in
      ((V.placed).placed n (seat_of plan n) t).there

  pub link_is : (l : ℕ) → l < length plan.joints → IsLinkCast plan x.cast l (joint_of plan l) (flow_of plan l)
  link_is l b =
      let V = (G.ready).valid in
      let n = V.flows in
      (plan_has_cast plan (λ l. false) V).joints l (joint_of plan l) (flow_of plan l) (slice_get-get_or plan.joints l no_joint b) (slice_get-get_or plan.flows l no_flow (omega arith))

  -- what is asked next is accepted
  pub accepted_next : (step : Act × Reply) (after : World) → Step v step.0 step.1 after → (j : Cursor) → IsAsked x k u step.0 j → IsDeclined step.1 → ⊥
  accepted_next step after t j A = not_declined step.1 (accepts x k come.recent come.now come.later v come.faulty step.0 step.1 after j t (asked_so x u come.later k step.0 j A))

  -- ---- what was told

  pub states_heard : (state : State) → AreAllAt s state steps → EachHasHeard x.cast u (λ number progress. progress.state ≡ Some state)
  states_heard state A n b d e = (hears (script_place x.cast n) d e).state ∙ A (script_place x.cast n) (placed n b)

  pub ports_heard : (completion : ℕ → Completion) (l : ℕ) → l < length plan.joints → AreBothDone s completion l steps → BothHaveTold x.cast u completion l
  ports_heard completion l b A true d e = (hears (script_place x.cast (component_at (x.cast).layout true l)) d e).port ∙ (ap (λ (n : ℕ). (told_by n steps).port) (link_is l b).giver ∙ A false)
  ports_heard completion l b A false d e = (hears (script_place x.cast (component_at (x.cast).layout false l)) d e).port ∙ (ap (λ (n : ℕ). (told_by n steps).port) (link_is l b).taker ∙ A true)

  pub settings_heard : (l : ℕ) → l < length plan.joints → HasCause s (Disabling l) steps → HasHeardOf x.cast u (giver_of x.cast l) (λ progress. is_some progress.settings ≡ true)
  settings_heard l b A d e =
      ap (λ o. is_some o) (hears (script_place x.cast (giver_of x.cast l)) d e).settings ∙ (ap (λ (n : ℕ). is_some (told_by n steps).settings) (link_is l b).giver ∙ A)

  pub ends_heard : HasCause s BackToIdle steps → EachHasHeard x.cast u (λ number progress. ((x.cast).layout).is_sink number ≡ true → progress.eos ≡ true)
  ends_heard A n b d e t = (hears (script_place x.cast n) d e).eos ∙ A (script_place x.cast n) (placed n b) (sink_kind (slice_get plan.parts (seat_of plan n)) t)

  -- ---- what is asked

  -- the handle names its place still
  pub named_now : (i : ℕ) (h : Handle) → slice_get handles i ≡ Some h → place_of h v.components ≡ Some i
  named_now i h e = all_named x steps (nothing_asked x.cast) 0 opening w.streams w k v begun G.goes h i (names (assembly_of plan files) (Joining (length plan.joints)) handles w i h G.stage e)

  pub named : (i : ℕ) (h : Handle) → slice_get handles i ≡ Some h → place_of h u.components ≡ Some i
  named i h e = place_read h v ∙ named_now i h e

  pub many : length handles ≡ length plan.parts
  many =
      let B = (G.stage).built in
      ap length (sym B.handles_are) ∙ (length-map w.components (λ (a : Component). a.handle) ∙ B.many)

  pub many_now : length v.components ≡ length plan.parts
  many_now =
      let m = (((((come.faulty).taken).played).play).many) in
      let once = length-map v.components mended in
      let twice = length-map (map mended v.components) taken_in in
      omega (arith, m, once, twice)

  pub sends_to : (state : State) (phase i : ℕ) (step : Act × Reply) → state ≡ target phase → slice_get (map (sending state) handles) i ≡ Some step → IsSending x.cast u phase i step.0 × (IsDeclined step.1 → ⊥)
  sends_to state phase i step t e =
      let f = sent_at state handles i step e in
      let h : Handle = f.0 in
      let b = slice_get_within handles i h f.1 in
      let m = many in
      let P = ((come.faulty).taken).played in
      let n = ((P.play).cast_is).each i (omega (arith, b, m)) in (
        record {
          component = n.0;
          below = n.1;
          there = n.2;
          handle = h;
          named = named i h f.1 ∙ ap Some (sym n.2);
          is = ap (λ (y : Act × Reply). y.0) (sym f.2) ∙ ap (λ (z : State). acts.SendCommand h (StateSet z)) t;
        },
        λ d. subst (λ (y : Act × Reply). IsDeclined y.1) (sym f.2) d,
      )

  pub sends_asked : (phase i : ℕ) (step : Act × Reply) → 1 ≤ phase → phase ≤ 4 → slice_get (acts_of s handles (asking_of phase)) i ≡ Some step → IsSending x.cast u phase i step.0 × (IsDeclined step.1 → ⊥)
  sends_asked zero i step l m e = absurd (omega arith)
  sends_asked (suc zero) i step l m e = sends_to Idle 1 i step refl e
  sends_asked (suc (suc zero)) i step l m e = sends_to Executing 2 i step refl e
  sends_asked (suc (suc (suc zero))) i step l m e = sends_to Idle 3 i step refl e
  sends_asked (suc (suc (suc (suc zero)))) i step l m e = sends_to Loaded 4 i step refl e
  sends_asked (suc (suc (suc (suc (suc n))))) i step l m e = absurd (omega arith)

  -- the handle at an end
  pub end_named : (output : Bool) (l : ℕ) → l < length plan.joints → Names x.cast u (component_at (x.cast).layout output l) (handle_at s handles (not output) l)
  end_named true l b =
      let K = link_is l b in
      let p = placed (giver_of x.cast l) K.giver_below in
      let g = K.giver in
      let m = many in
      named (joint_of plan l).giver (handle_at s handles false l) (slice_get-get_or handles (joint_of plan l).giver no_handle (omega (arith, p, g, m))) ∙ ap Some (sym g)
  end_named false l b =
      let K = link_is l b in
      let p = placed (component_at (x.cast).layout false l) K.taker_below in
      let g = K.taker in
      let m = many in
      named (joint_of plan l).taker (handle_at s handles true l) (slice_get-get_or handles (joint_of plan l).taker no_handle (omega (arith, p, g, m))) ∙ ap Some (sym g)

  by_act : (l n : ℕ) (y step : Act × Reply) → Some y ≡ Some step → IsChangeAct x u l n y.0 × (IsDeclined y.1 → ⊥) → IsChangeAct x u l n step.0 × (IsDeclined step.1 → ⊥)
  by_act l n y step e A = let same : y ≡ step = cc in subst (λ (z : Act × Reply). IsChangeAct x u l n z.0 × (IsDeclined z.1 → ⊥)) same A

  change_at : (l n : ℕ) (step : Act × Reply) → l < length plan.joints → slice_get (acts_of s handles (Disabling l) ++ (acts_of s handles (Retuning l) ++ acts_of s handles (Enabling l))) n ≡ Some step → IsChangeAct x u l n step.0 × (IsDeclined step.1 → ⊥)
  change_at l zero step b e = by_act l 0 (port_sending s handles (λ ports. PortDisable ports) false l) step e ((handle_at s handles false l, end_named true l b, refl), λ d. d)
  change_at l (suc zero) step b e = by_act l 1 (port_sending s handles (λ ports. PortDisable ports) true l) step e ((handle_at s handles true l, end_named false l b, refl), λ d. d)
  change_at l (suc (suc zero)) step b e = by_act l 2 (dropping s handles l) step e ((handle_at s handles false l, handle_at s handles true l, end_named true l b, end_named false l b, refl), λ d. d)
  change_at l (suc (suc (suc zero))) step b e = by_act l 3 (setting_act s handles false l) step e ((handle_at s handles false l, end_named true l b, refl), λ d. d)
  change_at l (suc (suc (suc (suc zero)))) step b e = by_act l 4 (setting_act s handles true l) step e ((handle_at s handles true l, end_named false l b, refl), λ d. d)
  change_at l (suc (suc (suc (suc (suc zero))))) step b e = by_act l 5 (joining_act s handles l) step e ((handle_at s handles false l, handle_at s handles true l, end_named true l b, end_named false l b, refl), λ d. d)
  change_at l (suc (suc (suc (suc (suc (suc zero)))))) step b e = by_act l 6 (port_sending s handles (λ ports. PortEnable ports) false l) step e ((handle_at s handles false l, end_named true l b, refl), λ d. d)
  change_at l (suc (suc (suc (suc (suc (suc (suc zero))))))) step b e = by_act l 7 (port_sending s handles (λ ports. PortEnable ports) true l) step e ((handle_at s handles true l, end_named false l b, refl), λ d. d)
  change_at l (suc (suc (suc (suc (suc (suc (suc (suc n)))))))) step b e = absurd cc

  pub changes_asked : (l n : ℕ) (step : Act × Reply) → l < length plan.joints → slice_get (flat_map (acts_of s handles) (change_of l)) n ≡ Some step → IsChangeAct x u l n step.0 × (IsDeclined step.1 → ⊥)
  changes_asked l n step b e = change_at l n step b e
