-- The link of a late source, as lines name it and as the play has it.
use Rattle.std.proofs.Common.{◌≡◌, ℕ, zero, suc, ◌<◌, Bool, true, false, not, nat_le, nat_lt, List, [], ◌∷◌, length, slice_get, Option, Some, None, find, refl, sym, ◌∙◌, ap, subst, eq-eqb, eqb-true, arith}
use Rattle.std.proofs.lemmas.Bool.{and_parts}
use Rattle.std.proofs.lemmas.Grind.{common_steps}
use Rattle.std.proofs.lemmas.List.Folds.{find_at}
use Rattle.std.proofs.lemmas.Option.{get_or_from_slice_get, slice_get_within}
use Rattle.omx_types.specs.declared.command.PortSel.TheVariants.{One}
use Rattle.omx_types.specs.declared.handle.Handle.{Handle}
use Rattle.omx_types.specs.declared.kind.Kind.{Kind}
use Rattle.omx_types.specs.declared.kind.Kind.TheVariants as kinds
use Rattle.omx_types.specs.declared.param.Param.TheVariants as params
use Rattle.part_forms.specs.Kinds.{inputs_of, is_input, is_late, ports_in}
use Rattle.il_machine.specs.Acts.{Act}
use Rattle.il_machine.specs.Acts as acts
use Rattle.il_machine.specs.World.{World, place_of}
use Rattle.machine_laws.proofs.Finding.{either}
use Rattle.act_text.specs.declared.act.TextAct.{TextAct}
use Rattle.act_text.specs.declared.act.TextAct.TheVariants as lines
use Rattle.script_lang.specs.declared.play_line.PartLine.{PartLine}
use Rattle.play_build_laws.specs.Assembly.{IsLawfulEnd}
use Rattle.play_forms.specs.declared.flow.Flow.{Flow}
use Rattle.play_forms.specs.declared.joint.Joint.{Joint}
use Rattle.play_forms.specs.Parts.{has_output, kind_of, passes_at}
use Rattle.play_forms.specs.Plans.{PlanValue}
use Rattle.play_model.specs.Play.{component_at}
use Rattle.play_world_laws.specs.Cast.{components_of, script_place}
use Rattle.play_world_laws.specs.PlayWorlds.{PlayCast, port_number}
use Rattle.play_world_laws.specs.Worlds.{Names}
use Rattle.play_world_laws.specs.Conducting.{definition_key, port_command}
use Rattle.play_plan_laws.specs.Assemblies.{IsReady, PlayFiles, assembly_of, is_late_link, kind_in, play_cast_of}
use Rattle.play_plan_laws.specs.Casting.{IsLinkCast, flow_of, joint_of, no_joint}
use Rattle.play_plan_laws.proofs.Lawful.{IsLinkAt, link_is as link_there, plan_lawful}
use Rattle.play_log.specs.Saying.{Of, SaysAct, key}
use Rattle.play_log.specs.Scenes.{HaveOwnNames, IsPlayer, Scene}
use Rattle.play_log.proofs.Players.{some_same}
use Rattle.play_result_laws.proofs.Finding.{position_found}
use Rattle.play_history_laws.specs.Order.{IsChangeAct, IsSentToPort, IsSetAt}
use Rattle.audit_order.specs.declared.ends.LinkEnds.{LinkEnds}
use Rattle.audit_order.specs.Asked.{change_act}
use Rattle.audit_order.specs.Ends.{ends_by, gives, link_at, link_of, port_named, position_from}
use Rattle.audit_laws.proofs.Texts.{Fits, name_at, name_in, said_by}

abbrev if_output : Bool → ℕ → ℕ → ℕ
if_output true output input = output
if_output false output input = input

-- ---- which link a source gives into

one_port : (kind : Kind) → is_late kind ≡ true → ports_in kind ≡ 1
one_port kinds.Source e = absurd cc
one_port kinds.Decoder e = absurd cc
one_port kinds.Alaw e = absurd cc
one_port kinds.Mulaw e = absurd cc
one_port kinds.Gain e = absurd cc
one_port (kinds.Mixer inputs) e = absurd cc
one_port (kinds.Splitter outputs) e = absurd cc
one_port kinds.Sink e = absurd cc
one_port kinds.Late e = refl

one_port_in : (o : Option PartLine) → passes_at is_late o ≡ true → ports_in (kind_in o) ≡ 1
one_port_in None e = absurd cc
one_port_in (Some part) e = one_port (kind_of part.form) e

found_passes : (test : Joint → Bool) (xs : List Joint) (x : Joint) → find test xs ≡ Some x → test x ≡ true
found_passes test [] x e = absurd cc
found_passes test (y ∷ ys) x e = either (test y)
    (λ t. let s : Some y ≡ Some x = rw t at e in subst (λ (z : Joint). test z ≡ true) (some_same y x s) t)
    (λ f. let s : find test ys ≡ Some x = rw f at e in found_passes test ys x s)

module _ (plan : PlanValue) where
  abbrev pub giver : ℕ → ℕ
  giver l = (joint_of plan l).giver

  abbrev pub taker : ℕ → ℕ
  taker l = (joint_of plan l).taker

  -- as lines name its ends
  abbrev pub ends_of : ℕ → LinkEnds
  ends_of l = record {
    output = port_named (name_at plan.parts (giver l)) (joint_of plan l).output;
    input = port_named (name_at plan.parts (taker l)) (joint_of plan l).input;
    taker = taker l;
    format = (flow_of plan l).format;
    count = (joint_of plan l).count;
    size = (joint_of plan l).size;
  }

  -- the link of a source that has one
  pub record IsSourceLink (source : ℕ) : Type 0 where
    pub link : ℕ
    pub below : link < length plan.joints
    pub gives : giver link ≡ source

  source_by : (source : ℕ) (o : Option Joint) (flow : Option Flow) (ends : LinkEnds) → slice_get plan.joints (position_from plan source) ≡ o → link_at plan.parts o flow ≡ Some ends → IsSourceLink source
  source_by source None flow ends e f = absurd cc
  source_by source (Some joint) flow ends e f =
      let is : joint_of plan (position_from plan source) ≡ joint = get_or_from_slice_get plan.joints (position_from plan source) joint no_joint e in
      let t = found_passes (gives source) plan.joints joint (find_at (gives source) plan.joints ∙ e) in
      record {
        link = position_from plan source;
        below = slice_get_within plan.joints (position_from plan source) joint e;
        gives = ap (λ (j : Joint). j.giver) is ∙ eqb-true joint.giver source t;
      }

  pub source_link : (source : ℕ) (ends : LinkEnds) → link_of plan source ≡ Some ends → IsSourceLink source
  source_link source ends e =
      source_by source (slice_get plan.joints (position_from plan source)) (slice_get plan.flows (position_from plan source)) ends refl e

module _ (plan : PlanValue) (files : PlayFiles) (ready : IsReady plan files) where
  abbrev there_at : (l : ℕ) → l < length plan.joints → IsLinkAt plan l
  there_at l b = link_there plan files ready l b

  output_first : (l : ℕ) → l < length plan.joints → is_late_link plan l ≡ true → (joint_of plan l).output ≡ 0
  output_first l b t =
      let E : IsLawfulEnd (assembly_of plan files) false l = (plan_lawful plan files ready).ends false l b in
      let p = E.port in
      let one = one_port_in (slice_get plan.parts (giver plan l)) t in
      omega (arith, p, one)

  -- a late source gives into one link
  pub one_link : (k l : ℕ) → k < length plan.joints → l < length plan.joints → is_late_link plan l ≡ true → giver plan k ≡ giver plan l → k ≡ l
  one_link k l b d t e =
      let s : is_late_link plan k ≡ true = ap (λ (n : ℕ). passes_at is_late (slice_get plan.parts n)) e ∙ t in
      let f = output_first k b s ∙ sym (output_first l d t) in
      ((plan_lawful plan files ready).one false false k l b d (λ j. record { component = e j; port = f j })).1

  pub linked : (l : ℕ) → l < length plan.joints → is_late_link plan l ≡ true → link_of plan (giver plan l) ≡ Some (ends_of plan l)
  linked l b t =
      let K = there_at l b in
      let at : position_from plan (giver plan l) ≡ l = position_found (gives (giver plan l)) plan.joints l (joint_of plan l) K.there_joint (eq-eqb (giver plan l) (giver plan l) refl) (λ i y e u.
      let within = slice_get_within plan.joints i y e in
      let is : joint_of plan i ≡ y = get_or_from_slice_get plan.joints i y no_joint e in
      one_link i l within b t (ap (λ (j : Joint). j.giver) is ∙ eqb-true y.giver (giver plan l) u)) in
      let there = K.part_there in
      (λ j. link_at plan.parts (slice_get plan.joints (at j)) (slice_get plan.flows (at j)))
      ∙ ((λ j. link_at plan.parts (K.there_joint j) (K.there_flow j))
      ∙ ((λ j. ends_by (there false j) (there true j) (joint_of plan l) (flow_of plan l))
      ∙ (λ j. Some (record {
        output = port_named (name_in (sym (there false) j)) (joint_of plan l).output;
        input = port_named (name_in (sym (there true) j)) (joint_of plan l).input;
        taker = taker plan l;
        format = (flow_of plan l).format;
        count = (joint_of plan l).count;
        size = (joint_of plan l).size;
      }))))

  -- ---- the acts of its change

  module _ (handles : List Handle) (u : World) (cast_links : (l : ℕ) → l < length plan.joints → IsLinkCast plan (play_cast_of plan).cast l (joint_of plan l) (flow_of plan l)) where
    abbrev x : PlayCast
    x = play_cast_of plan

    -- what a line says of an act of the change
    module _ (t : TextAct) (a : Act) (fits : Fits plan.parts t a)
        (numbered : (c : ℕ) (h : Handle) → c < components_of x.cast → Names x.cast u c h → h.generation ≡ script_place x.cast c) where
      at_giver : (l : ℕ) (h : Handle) → l < length plan.joints → Names x.cast u (component_at (x.cast).layout true l) h → h.generation ≡ giver plan l
      at_giver l h b N = let K = cast_links l b in numbered (component_at (x.cast).layout true l) h K.giver_below N ∙ K.giver

      at_taker : (l : ℕ) (h : Handle) → l < length plan.joints → Names x.cast u (component_at (x.cast).layout false l) h → h.generation ≡ taker plan l
      at_taker l h b N = let K = cast_links l b in numbered (component_at (x.cast).layout false l) h K.taker_below N ∙ K.taker

      said : (f : ℕ → TextAct) (n m : ℕ) → n ≡ m → said_by plan.parts a ≡ Some (f n) → t ≡ f m
      said f n m e s = fits.0 (f m) (s ∙ ap (λ (i : ℕ). Some (f i)) e)

      pub change_text : (l n : ℕ) → l < length plan.joints → IsChangeAct x u l n a → t ≡ change_act (ends_of plan l) n
      change_text l zero b (h, N, is) =
          said (λ i. lines.SendDisable (name_at plan.parts i) (One (joint_of plan l).output)) h.generation (giver plan l) (at_giver l h b N) (ap (said_by plan.parts) is)
      change_text l (suc zero) b (h, N, is) =
          said (λ i. lines.SendDisable (name_at plan.parts i) (One (joint_of plan l).input)) h.generation (taker plan l) (at_taker l h b N) (ap (said_by plan.parts) is)
      change_text l (suc (suc zero)) b (g, h, N, M, is) =
          said (λ i. lines.DropTunnel (port_named (name_at plan.parts i) (joint_of plan l).output) (port_named (name_at plan.parts (taker plan l)) (joint_of plan l).input)) g.generation (giver plan l) (at_giver l g b N)
          (ap (said_by plan.parts) is
          ∙ ap (λ (i : ℕ). Some (lines.DropTunnel (port_named (name_at plan.parts g.generation) (joint_of plan l).output) (port_named (name_at plan.parts i) (joint_of plan l).input))) (at_taker l h b M))
      change_text l (suc (suc (suc zero))) b (h, N, is) =
          said (λ i. lines.SetPort (port_named (name_at plan.parts i) (joint_of plan l).output) (flow_of plan l).format (joint_of plan l).count (joint_of plan l).size) h.generation (giver plan l) (at_giver l h b N) (ap (said_by plan.parts) is)
      change_text l (suc (suc (suc (suc zero)))) b (h, N, is) =
          said (λ i. lines.SetPort (port_named (name_at plan.parts i) (joint_of plan l).input) (flow_of plan l).format (joint_of plan l).count (joint_of plan l).size) h.generation (taker plan l) (at_taker l h b N) (ap (said_by plan.parts) is)
      change_text l (suc (suc (suc (suc (suc zero))))) b (g, h, N, M, is) =
          said (λ i. lines.Tunnel (port_named (name_at plan.parts i) (joint_of plan l).output) (port_named (name_at plan.parts (taker plan l)) (joint_of plan l).input)) g.generation (giver plan l) (at_giver l g b N)
          (ap (said_by plan.parts) is
          ∙ ap (λ (i : ℕ). Some (lines.Tunnel (port_named (name_at plan.parts g.generation) (joint_of plan l).output) (port_named (name_at plan.parts i) (joint_of plan l).input))) (at_taker l h b M))
      change_text l (suc (suc (suc (suc (suc (suc zero)))))) b (h, N, is) =
          said (λ i. lines.SendEnable (name_at plan.parts i) (One (joint_of plan l).output)) h.generation (giver plan l) (at_giver l h b N) (ap (said_by plan.parts) is)
      change_text l (suc (suc (suc (suc (suc (suc (suc zero))))))) b (h, N, is) =
          said (λ i. lines.SendEnable (name_at plan.parts i) (One (joint_of plan l).input)) h.generation (taker plan l) (at_taker l h b N) (ap (said_by plan.parts) is)
      change_text l (suc (suc (suc (suc (suc (suc (suc (suc n)))))))) b A = absurd A

    -- the act that a line of the change says
    module _ (own : HaveOwnNames plan.parts) (a : Act) (named : (i : ℕ) (h : Handle) → slice_get handles i ≡ Some h → place_of h u.components ≡ Some i) where
      abbrev s : Scene
      s = record { parts = plan.parts; handles = handles }

      -- the component at an end, by its name
      record IsAtEnd (place : ℕ) (end : PartLine) (part : PartLine) (h : Handle) : Type 0 where
        part_is : part ≡ end
        names : place_of h u.components ≡ Some place

      at_end : (place : ℕ) (end : PartLine) → slice_get plan.parts place ≡ Some end → (at : ℕ) (part : PartLine) (h : Handle) → IsPlayer s at (name_at plan.parts place) part h → IsAtEnd place end part h
      at_end place end e at part h P =
          let named_so : part.name ≡ end.name = P.named ∙ ap name_in e in
          let same : at ≡ place = own at place part end P.line e named_so in
          record {
            part_is = some_same part end (sym P.line ∙ (ap (slice_get plan.parts) same ∙ e));
            names = named place h (ap (slice_get handles) (sym same) ∙ P.handle);
          }

      end_named : (output : Bool) (l : ℕ) (h : Handle) → l < length plan.joints → place_of h u.components ≡ Some (if_output output (giver plan l) (taker plan l)) → Names x.cast u (component_at (x.cast).layout output l) h
      end_named true l h b e = e ∙ ap Some (sym (cast_links l b).giver)
      end_named false l h b e = e ∙ ap Some (sym (cast_links l b).taker)

      not_input : (kind : Kind) (port : ℕ) → has_output port kind ≡ true → is_input kind port ≡ false
      not_input kind port e = let b = (and_parts (nat_le (inputs_of kind) port) (nat_lt port (ports_in kind)) e).0 in grind (arith, common_steps, b)

      send_to : (output disables : Bool) (l : ℕ) → l < length plan.joints → (end : PartLine) → slice_get plan.parts (if_output output (giver plan l) (taker plan l)) ≡ Some end
          → Of s (name_at plan.parts (if_output output (giver plan l) (taker plan l))) (λ part h. a ≡ acts.SendCommand h (port_command disables (port_number x.cast output l))) → IsSentToPort x u l output disables a
      send_to output disables l b end e y =
          let E = at_end (if_output output (giver plan l) (taker plan l)) end e y.0 y.1 y.2 y.3 in
          (y.2, end_named output l y.2 b E.names, y.4)

      set_to : (output : Bool) (l : ℕ) → l < length plan.joints → (end : PartLine) → slice_get plan.parts (if_output output (giver plan l) (taker plan l)) ≡ Some end
          → is_input (kind_of end.form) (port_number x.cast output l) ≡ not output
          → Of s (name_at plan.parts (if_output output (giver plan l) (taker plan l))) (λ part h. a ≡ acts.SetParameter h (key 1 (port_number x.cast output l))
          (params.Port (record { input = is_input (kind_of part.form) (port_number x.cast output l); format = (flow_of plan l).format; count = (joint_of plan l).count; size = (joint_of plan l).size })))
          → IsSetAt x u l output a
      set_to output l b end e side y =
          let E = at_end (if_output output (giver plan l) (taker plan l)) end e y.0 y.1 y.2 y.3 in
          let input : is_input (kind_of (y.1).form) (port_number x.cast output l) ≡ not output = ap (λ (p : PartLine). is_input (kind_of p.form) (port_number x.cast output l)) E.part_is ∙ side in (
            y.2,
            end_named output l y.2 b E.names,
            y.4 ∙ ap (λ (i : Bool). acts.SetParameter y.2 (definition_key (port_number x.cast output l)) (params.Port (record { input = i; format = (flow_of plan l).format; count = (joint_of plan l).count; size = (joint_of plan l).size }))) input,
          )

      pub change_said : (l n : ℕ) → l < length plan.joints → n < 8 → SaysAct s (change_act (ends_of plan l) n) a → IsChangeAct x u l n a
      change_said l zero b few y = send_to true true l b ((there_at l b).part false) ((there_at l b).part_there false) y
      change_said l (suc zero) b few y = send_to false true l b ((there_at l b).part true) ((there_at l b).part_there true) y
      change_said l (suc (suc zero)) b few y =
          let K = there_at l b in
          let z = y.4 in
          let D = at_end (giver plan l) (K.part false) (K.part_there false) y.0 y.1 y.2 y.3 in
          let E = at_end (taker plan l) (K.part true) (K.part_there true) z.0 z.1 z.2 z.3 in
          (y.2, z.2, end_named true l y.2 b D.names, end_named false l z.2 b E.names, z.4)
      change_said l (suc (suc (suc zero))) b few y =
          let K = there_at l b in
          set_to true l b (K.part false) (K.part_there false) (not_input (kind_of (K.part false).form) (joint_of plan l).output K.has_out) y
      change_said l (suc (suc (suc (suc zero)))) b few y =
          let K = there_at l b in
          set_to false l b (K.part true) (K.part_there true) K.has_in y
      change_said l (suc (suc (suc (suc (suc zero))))) b few y =
          let K = there_at l b in
          let z = y.4 in
          let D = at_end (giver plan l) (K.part false) (K.part_there false) y.0 y.1 y.2 y.3 in
          let E = at_end (taker plan l) (K.part true) (K.part_there true) z.0 z.1 z.2 z.3 in
          (y.2, z.2, end_named true l y.2 b D.names, end_named false l z.2 b E.names, z.4)
      change_said l (suc (suc (suc (suc (suc (suc zero)))))) b few y = send_to true false l b ((there_at l b).part false) ((there_at l b).part_there false) y
      change_said l (suc (suc (suc (suc (suc (suc (suc zero))))))) b few y = send_to false false l b ((there_at l b).part true) ((there_at l b).part_there true) y
      change_said l (suc (suc (suc (suc (suc (suc (suc (suc n)))))))) b few y = absurd (omega (arith, few))
