-- What the clients have heard was told by the steps, and an act that the cursor asks for is one of the list, with its reply.
use Rattle.std.proofs.Common.{◌≡◌, inl, inr, ℕ, zero, suc, ◌<◌, ◌≤◌, Bool, true, false, not, List, [], ◌∷◌, map, length, slice_get, Option, Some, None, is_some, Result, Ok, Err, refl, sym, ◌∙◌, ap, subst, arith}
use Rattle.std.specs.Prelude.{flat_map}
use Rattle.omx_types.specs.declared.command.Command.{Command}
use Rattle.omx_types.specs.declared.command.Command.TheVariants.{StateSet}
use Rattle.omx_types.specs.declared.command.Completion.{Completion}
use Rattle.omx_types.specs.declared.error.OmxError.{OmxError}
use Rattle.omx_types.specs.declared.handle.Handle.{Handle}
use Rattle.omx_types.specs.declared.handle.PortId.{PortId}
use Rattle.omx_types.specs.declared.param.Param.{Param}
use Rattle.omx_types.specs.declared.param.ParamKey.{ParamKey}
use Rattle.omx_types.specs.declared.param.Param.TheVariants as params
use Rattle.omx_types.specs.declared.param.Supplier.TheVariants as suppliers
use Rattle.omx_types.specs.declared.state.State.{State}
use Rattle.omx_types.specs.declared.state.State.TheVariants.{Loaded, Idle, Executing}
use Rattle.il_machine.specs.Acts.{Act, Reply}
use Rattle.il_machine.specs.Acts as acts
use Rattle.il_machine.specs.Kinds.{is_sink}
use Rattle.il_machine.specs.Run.{Step}
use Rattle.il_machine.specs.World.{Component, World, is_at, place_of}
use Rattle.il_machine.proofs.Places.{is_first_place, passes_at as standing_at}
use Rattle.history_laws.proofs.Naming.{handle_is}
use Rattle.script_lang.specs.declared.play_line.PartLine.{PartLine}
use Rattle.play_build_laws.specs.Assembly.{Assembly}
use Rattle.play_build_laws.specs.Building.{handle_at}
use Rattle.play_forms.specs.Parts.{passes_at}
use Rattle.play_forms.specs.Plans.{PlanValue}
use Rattle.play_model.specs.Play.{component_at}
use Rattle.play_world_laws.specs.Cast.{giver_of, script_place, taker_of}
use Rattle.play_world_laws.specs.PlayWorlds.{PlayCast, port_number}
use Rattle.play_world_laws.specs.Standing.{target}
use Rattle.play_world_laws.specs.Worlds.{Names}
use Rattle.play_world_laws.proofs.Lists.{get_there}
use Rattle.play_world_laws.specs.Conducting.{definition_key, planned, port_command}
use Rattle.play_world_laws.proofs.Joining.{join_leads}
use Rattle.play_plan_laws.specs.Assemblies.{PlayFiles, kind_in, play_cast_of}
use Rattle.play_result_laws.specs.Asked.{AreAllAt, AreBothDone, BackToIdle, Disabling, HasCause, acts_of, change_of, sending, told_by, tuned}
use Rattle.read_world_laws.specs.Beside.{IsDeclined}
use Rattle.read_world_laws.specs.Inside.{inside}
use Rattle.read_world_laws.specs.Mended.{mend}
use Rattle.read_world_laws.proofs.Inside as ins
use Rattle.read_world_laws.proofs.Mended as mns
use Rattle.play_history_laws.specs.Following.{IsTurn}
use Rattle.play_history_laws.specs.Order.{BothHaveTold, Cursor, EachHasHeard, HasHeardOf, IsChangeAct, IsSending, IsSentToPort, IsSetAt}
use Rattle.play_history_laws.proofs.Told.{can_change_on}
use Rattle.play_history_laws.specs.Askings.{IsPlanHistory, asking_of, read_of}
use Rattle.play_history_laws.proofs.Askings.{come, end_named, hears, link_is, many, named, placed}

-- one handle names a place
one_handle : (g h : Handle) (cs : List Component) (i : ℕ) → place_of g cs ≡ Some i → place_of h cs ≡ Some i → g ≡ h
one_handle g h cs i e f =
    let a = standing_at (is_at g) cs i (sym (is_first_place (is_at g) cs) ∙ e) in
    let b = standing_at (is_at h) cs i (sym (is_first_place (is_at h) cs) ∙ f) in
    let both : Some a.0 ≡ Some b.0 = sym a.1 ∙ b.1 in
    let same : a.0 ≡ b.0 = cc in
    sym (handle_is (a.0).handle g a.2) ∙ (ap (λ (c : Component). c.handle) same ∙ handle_is (b.0).handle h b.2)

-- what is not declined is accepted
accepted_plain : (result : Result (Unit {0}) OmxError) → (IsDeclined (acts.Plain result) → ⊥) → result ≡ Ok tt
accepted_plain (Ok tt) N = refl
accepted_plain (Err e) N = absurd (N tt)

pub sent_ok : (w : World) (h : Handle) (command : Command) (r : Reply) (v : World) → Step w (acts.SendCommand h command) r v → (IsDeclined r → ⊥) → r ≡ acts.Plain (Ok tt)
sent_ok w h command (acts.Plain result) v s N = ap acts.Plain (accepted_plain result N)
sent_ok w h command _ v s N = absurd s

set_ok : (w : World) (h : Handle) (key : ParamKey) (value : Param) (r : Reply) (v : World) → Step w (acts.SetParameter h key value) r v → (IsDeclined r → ⊥) → r ≡ acts.Plain (Ok tt)
set_ok w h key value (acts.Plain result) v s N = ap acts.Plain (accepted_plain result N)
set_ok w h key value _ v s N = absurd s

dropped_ok : (w : World) (o i : PortId) (r : Reply) (v : World) → Step w (acts.DropTunnel o i) r v → (IsDeclined r → ⊥) → r ≡ acts.Plain (Ok tt)
dropped_ok w o i (acts.Plain result) v s N = ap acts.Plain (accepted_plain result N)
dropped_ok w o i _ v s N = absurd s

kind_sinks : (o : Option PartLine) (part : PartLine) → o ≡ Some part → is_sink (kind_in o) ≡ true → passes_at is_sink o ≡ true
kind_sinks None part q e = absurd cc
kind_sinks (Some other) part q e = e

-- at its place
pub mapped_at : (state : State) (handles : List Handle) (i : ℕ) (h : Handle) → slice_get handles i ≡ Some h → slice_get (map (sending state) handles) i ≡ Some (sending state h)
mapped_at state [] i h e = absurd cc
mapped_at state (g ∷ handles) zero h e = let is : g ≡ h = cc in ap (λ (y : Handle). Some (sending state y)) is
mapped_at state (g ∷ handles) (suc i) h e = mapped_at state handles i h e

sent_list : (s : Assembly) (handles : List Handle) (phase i : ℕ) (h : Handle) → 1 ≤ phase → phase ≤ 4 → slice_get handles i ≡ Some h → slice_get (acts_of s handles (asking_of phase)) i ≡ Some (sending (target phase) h)
sent_list s handles zero i h low high e = absurd (omega arith)
sent_list s handles (suc zero) i h low high e = mapped_at Idle handles i h e
sent_list s handles (suc (suc zero)) i h low high e = mapped_at Executing handles i h e
sent_list s handles (suc (suc (suc zero))) i h low high e = mapped_at Idle handles i h e
sent_list s handles (suc (suc (suc (suc zero)))) i h low high e = mapped_at Loaded handles i h e
sent_list s handles (suc (suc (suc (suc (suc n))))) i h low high e = absurd (omega arith)

module _ (plan : PlanValue) (files : PlayFiles) (handles : List Handle) (w : World) (steps : List (Act × Reply)) (k : Cursor) (v : World) (G : IsPlanHistory plan files handles w steps k v) where
  abbrev x : PlayCast
  x = play_cast_of plan

  abbrev s : Assembly
  s = tuned plan files

  abbrev u : World
  u = read_of v

  pub there : (i : ℕ) → i < length plan.parts → (d : Component) × (slice_get u.components i ≡ Some d)
  there i b =
      let m = (((((come plan files handles w steps k v G).faulty).taken).played).play).many in
      get_there u.components i (omega (arith, b, m))

  -- ---- what was heard was told

  told_at : (n : ℕ) → n < length plan.parts → (d : Component) × (slice_get u.components (script_place x.cast n) ≡ Some d)
  told_at n b = there (script_place x.cast n) (placed plan files handles w steps k v G n b)

  pub states_told : (state : State) → EachHasHeard x.cast u (λ number progress. progress.state ≡ Some state) → AreAllAt s state steps
  states_told state H i b =
      let n = ((((((come plan files handles w steps k v G).faulty).taken).played).play).cast_is).each i b in
      let d = told_at n.0 n.1 in
      let A = hears plan files handles w steps k v G (script_place x.cast n.0) d.0 d.1 in
      subst (λ (place : ℕ). (told_by place steps).state ≡ Some state) n.2 (sym A.state ∙ H n.0 n.1 d.0 d.1)

  pub ports_told : (completion : ℕ → Completion) (l : ℕ) → l < length plan.joints → BothHaveTold x.cast u completion l → AreBothDone s completion l steps
  ports_told completion l b H false =
      let K = link_is plan files handles w steps k v G l b in
      let d = told_at (component_at (x.cast).layout true l) K.giver_below in
      sym (ap (λ (n : ℕ). (told_by n steps).port) K.giver) ∙ (sym (hears plan files handles w steps k v G (script_place x.cast (component_at (x.cast).layout true l)) d.0 d.1).port ∙ H true d.0 d.1)
  ports_told completion l b H true =
      let K = link_is plan files handles w steps k v G l b in
      let d = told_at (component_at (x.cast).layout false l) K.taker_below in
      sym (ap (λ (n : ℕ). (told_by n steps).port) K.taker) ∙ (sym (hears plan files handles w steps k v G (script_place x.cast (component_at (x.cast).layout false l)) d.0 d.1).port ∙ H false d.0 d.1)

  pub settings_told : (l : ℕ) → l < length plan.joints → HasHeardOf x.cast u (giver_of x.cast l) (λ progress. is_some progress.settings ≡ true) → HasCause s (Disabling l) steps
  settings_told l b H =
      let K = link_is plan files handles w steps k v G l b in
      let d = told_at (giver_of x.cast l) K.giver_below in
      sym (ap (λ (n : ℕ). is_some (told_by n steps).settings) K.giver) ∙ (sym (ap (λ o. is_some o) (hears plan files handles w steps k v G (script_place x.cast (giver_of x.cast l)) d.0 d.1).settings) ∙ H d.0 d.1)

  pub ends_told : EachHasHeard x.cast u (λ number progress. ((x.cast).layout).is_sink number ≡ true → progress.eos ≡ true) → HasCause s BackToIdle steps
  ends_told H i b t =
      let n = ((((((come plan files handles w steps k v G).faulty).taken).played).play).cast_is).each i b in
      let d = told_at n.0 n.1 in
      let A = hears plan files handles w steps k v G (script_place x.cast n.0) d.0 d.1 in
      let part = get_there plan.parts i b in
      let sink : ((x.cast).layout).is_sink n.0 ≡ true = ap (λ (place : ℕ). passes_at is_sink (slice_get plan.parts place)) n.2 ∙ kind_sinks (slice_get plan.parts i) part.0 part.1 t in
      subst (λ (place : ℕ). (told_by place steps).eos ≡ true) n.2 (sym A.eos ∙ H n.0 n.1 d.0 d.1 sink)

  -- ---- an act that is asked is the list's

  pub send_is : (phase i : ℕ) (step : Act × Reply) (after : World) → 1 ≤ phase → phase ≤ 4 → IsSending x.cast u phase i step.0 → Step v step.0 step.1 after → (IsDeclined step.1 → ⊥)
      → slice_get (acts_of s handles (asking_of phase)) i ≡ Some step
  send_is phase i step after low high S t N =
      let b = placed plan files handles w steps k v G S.component S.below in
      let at : script_place x.cast S.component ≡ i = S.there in
      let m = many plan files handles w steps k v G in
      let h = get_there handles i (omega (arith, b, at, m)) in
      let same : S.handle ≡ h.0 = one_handle S.handle h.0 u.components i (S.named ∙ ap Some at) (named plan files handles w steps k v G i h.0 h.1) in
      let act : step.0 ≡ acts.SendCommand h.0 (StateSet (target phase)) = S.is ∙ ap (λ (y : Handle). acts.SendCommand y (StateSet (target phase))) same in
      let reply : step.1 ≡ acts.Plain (Ok tt) = sent_ok v h.0 (StateSet (target phase)) step.1 after (subst (λ (y : Act). Step v y step.1 after) act t) N in
      sent_list s handles phase i h.0 low high h.1 ∙ (λ j. Some (sym act j, sym reply j))

  -- the handles of its ends
  end_handle : (output : Bool) (l : ℕ) (h : Handle) → l < length plan.joints → Names x.cast u (component_at (x.cast).layout output l) h → h ≡ handle_at s handles (not output) l
  end_handle output l h b e = one_handle h (handle_at s handles (not output) l) u.components (script_place x.cast (component_at (x.cast).layout output l)) e (end_named plan files handles w steps k v G output l b)

  -- the tunnel that is set up again is supplied by its input
  joined_ok : (l : ℕ) (g h : Handle) (r : Reply) (after : World) → k.changing ≡ Some l → k.made l ≡ 5 → Names x.cast u (giver_of x.cast l) g → Names x.cast u (taker_of x.cast l) h
      → Step v (acts.SetupTunnel (record { handle = g; index = (x.cast).output_port l }) (record { handle = h; index = (x.cast).input_port l })) r after → (IsDeclined r → ⊥) → r ≡ acts.Joined (Ok suppliers.Input)
  joined_ok l g h (acts.Joined result) after its made M H t N =
      let B = come plan files handles w steps k v G in
      let P = ((B.faulty).taken).played in
      let F = P.follows in
      let W = P.play in
      let read : World = inside (mend B.later v) in
      let T : IsTurn x.cast k B.recent B.now (Some l) = subst (λ (o : Option ℕ). IsTurn x.cast k B.recent B.now o) its F.turn in
      let C = can_change_on x B.recent B.now read W k F l T.2 T.3 T.4 (omega (arith, made)) (λ two. absurd (omega (arith, made, two))) in
      let e = F.some l T.2 T.3 T.4 in
      let output : PortId = record { handle = g; index = (x.cast).output_port l } in
      let input : PortId = record { handle = h; index = (x.cast).input_port l } in
      elim (mns.step_in B.later v (acts.SetupTunnel output input) (acts.Joined result) after tt t) [
        | inl z ↦
            let y = ins.step_in (mend B.later v) (acts.SetupTunnel output input) (acts.Joined result) (mend B.later after) tt z in
            let L = join_leads x B.recent B.now read l g h result (inside (mend B.later after)) W C (omega (arith, e, made)) M H y in
            ap acts.Joined L.0
        | inr z ↦ absurd (N z.1)
      ]
  joined_ok l g h _ after its made M H t N = absurd t

  -- a command to a port, and a setting
  abbrev Sent : ℕ → Bool → Bool → Act × Reply
  Sent l output disables = (acts.SendCommand (handle_at s handles (not output) l) (port_command disables (port_number x.cast output l)), acts.Plain (Ok tt))

  port_is : (l : ℕ) (output disables : Bool) (step : Act × Reply) (after : World) → l < length plan.joints → IsSentToPort x u l output disables step.0 → Step v step.0 step.1 after → (IsDeclined step.1 → ⊥) → Some (Sent l output disables) ≡ Some step
  port_is l output disables step after b (h, M, is) t N =
      let e = end_handle output l h b M in
      let command : Command = port_command disables (port_number x.cast output l) in
      let act : step.0 ≡ acts.SendCommand (handle_at s handles (not output) l) command = is ∙ ap (λ (y : Handle). acts.SendCommand y command) e in
      let reply = sent_ok v (handle_at s handles (not output) l) command step.1 after (subst (λ (y : Act). Step v y step.1 after) act t) N in
      λ j. Some (sym act j, sym reply j)

  abbrev Set : ℕ → Bool → Act × Reply
  Set l output = (acts.SetParameter (handle_at s handles (not output) l) (definition_key (port_number x.cast output l)) (params.Port (planned x output l)), acts.Plain (Ok tt))

  set_is : (l : ℕ) (output : Bool) (step : Act × Reply) (after : World) → l < length plan.joints → IsSetAt x u l output step.0 → Step v step.0 step.1 after → (IsDeclined step.1 → ⊥) → Some (Set l output) ≡ Some step
  set_is l output step after b (h, M, is) t N =
      let e = end_handle output l h b M in
      let key : ParamKey = definition_key (port_number x.cast output l) in
      let value : Param = params.Port (planned x output l) in
      let act : step.0 ≡ acts.SetParameter (handle_at s handles (not output) l) key value = is ∙ ap (λ (y : Handle). acts.SetParameter y key value) e in
      let reply = set_ok v (handle_at s handles (not output) l) key value step.1 after (subst (λ (y : Act). Step v y step.1 after) act t) N in
      λ j. Some (sym act j, sym reply j)

  abbrev Change : ℕ → ℕ → Act × Reply → Type 0
  Change l n step = slice_get (flat_map (acts_of s handles) (change_of l)) n ≡ Some step

  pub change_is : (l n : ℕ) (step : Act × Reply) (after : World) → l < length plan.joints → (n ≡ 5 → (k.changing ≡ Some l) × (k.made l ≡ 5)) → IsChangeAct x u l n step.0 → Step v step.0 step.1 after → (IsDeclined step.1 → ⊥) → Change l n step
  change_is l zero step after b its A t N = port_is l true true step after b A t N
  change_is l (suc zero) step after b its A t N = port_is l false true step after b A t N
  change_is l (suc (suc zero)) step after b its (g, h, M, H, is) t N =
      let e = end_handle true l g b M in
      let f = end_handle false l h b H in
      let act : step.0 ≡ acts.DropTunnel (record { handle = handle_at s handles false l; index = (x.cast).output_port l }) (record { handle = handle_at s handles true l; index = (x.cast).input_port l }) =
      is ∙ (λ j. acts.DropTunnel (record { handle = e j; index = (x.cast).output_port l }) (record { handle = f j; index = (x.cast).input_port l })) in
      let reply = dropped_ok v (record { handle = handle_at s handles false l; index = (x.cast).output_port l }) (record { handle = handle_at s handles true l; index = (x.cast).input_port l }) step.1 after (subst (λ (y : Act). Step v y step.1 after) act t) N in
      λ j. Some (sym act j, sym reply j)
  change_is l (suc (suc (suc zero))) step after b its A t N = set_is l true step after b A t N
  change_is l (suc (suc (suc (suc zero)))) step after b its A t N = set_is l false step after b A t N
  change_is l (suc (suc (suc (suc (suc zero))))) step after b its (g, h, M, H, is) t N =
      let e = end_handle true l g b M in
      let f = end_handle false l h b H in
      let at = its refl in
      let reply = joined_ok l g h step.1 after at.0 at.1 M H (subst (λ (y : Act). Step v y step.1 after) is t) N in
      let act : step.0 ≡ acts.SetupTunnel (record { handle = handle_at s handles false l; index = (x.cast).output_port l }) (record { handle = handle_at s handles true l; index = (x.cast).input_port l }) =
      is ∙ (λ j. acts.SetupTunnel (record { handle = e j; index = (x.cast).output_port l }) (record { handle = f j; index = (x.cast).input_port l })) in
      λ j. Some (sym act j, sym reply j)
  change_is l (suc (suc (suc (suc (suc (suc zero)))))) step after b its A t N = port_is l true false step after b A t N
  change_is l (suc (suc (suc (suc (suc (suc (suc zero))))))) step after b its A t N = port_is l false false step after b A t N
  change_is l (suc (suc (suc (suc (suc (suc (suc (suc n)))))))) step after b its A t N = absurd A
