-- The graph of a plan, once it is assembled, stands where its play begins.
use Rattle.std.proofs.Common.{◌≡◌, ◌⊎◌, inl, inr, ℕ, zero, suc, ◌+◌, ◌<◌, ◌≤◌, Bool, true, false, not, ◌||◌, List, [], ◌∷◌, length, sum_by, slice_get, slice_index_or, Option, Some, None, MatchOption, option_map, option_and_then, refl, sym, ◌∙◌, ap, subst, arith, filter}
use Rattle.std.specs.List.{list_all}
use Rattle.std.proofs.lemmas.Bool.{lt-ltb}
use Rattle.std.proofs.lemmas.List.{length-map}
use Rattle.std.proofs.lemmas.List.Sums.{sum_by-cons}
use Rattle.std.proofs.lemmas.Option.{get_or_from_slice_get, slice_get-map, slice_get_within}
use Rattle.omx_types.specs.declared.handle.Handle.{Handle}
use Rattle.omx_types.specs.declared.format.Format.{Format}
use Rattle.omx_types.specs.declared.kind.Kind.{Kind}
use Rattle.omx_types.specs.declared.kind.Kind.TheVariants as kinds
use Rattle.omx_types.specs.Formats.{frame_bytes_of}
use Rattle.part_forms.specs.Kinds.{is_input_format, is_late, is_source, ports_in}
use Rattle.il_machine.specs.declared.port.Port.{Port}
use Rattle.il_machine.specs.declared.port.PortKey.{PortKey}
use Rattle.il_machine.specs.declared.port.PortSetting.{PortSetting}
use Rattle.il_machine.specs.Files.{Offered, attached}
use Rattle.il_machine.specs.Kinds.{is_auto, is_sink}
use Rattle.il_machine.specs.Parameters.{overflows}
use Rattle.il_machine.specs.Parts.{frames_of, file_format}
use Rattle.il_machine.specs.Settings.{Settings, are_fitting, fits, formats_of, is_known, is_splitter, same_format, same_rate_and_channels}
use Rattle.il_machine.specs.Units.{need_of, units_of}
use Rattle.il_machine.specs.World.{Component, Stream, World, fresh, number_of, port_of, stream_of}
use Rattle.script_lang.specs.declared.play_line.PartLine.{PartLine}
use Rattle.wav_form.specs.declared.heads.WavHead.{WavHead}
use Rattle.part_api.specs.declared.attached.Attached.{Attached}
use Rattle.machine_laws.proofs.Finding.{either}
use Rattle.machine_laws.proofs.Keys.{is_there}
use Rattle.machine_laws.proofs.Lookups.{port_parts}
use Rattle.machine_laws.proofs.Parts.{parts_of}
use Rattle.play_forms.specs.Flows.{flow_of_head, no_flow}
use Rattle.play_forms.specs.Parts.{kind_of, passes_at, source_number}
use Rattle.play_forms.specs.Plans.{PlanValue}
use Rattle.play_forms.specs.Settling.{into}
use Rattle.stream_plan.proofs.Flows.{flow_of_source}
use Rattle.play_world_laws.specs.Cast.{Cast, IsCast, components_of, input_at, output_at, script_place}
use Rattle.play_world_laws.specs.Openings.{opening}
use Rattle.play_world_laws.specs.Wiring.{IsSomeEnd, link_to, port_in}
use Rattle.play_world_laws.proofs.Lists.{get_there}
use Rattle.play_world_laws.proofs.Resting.{all_true}
use Rattle.play_plan_laws.specs.Casting.{IsCastOf, IsLinkCast, cast_of, flow_of, joint_of}
use Rattle.play_plan_laws.proofs.Casting.{plan_casts}
use Rattle.play_plan_laws.proofs.Casts.{plan_has_cast}
use Rattle.play_plan_laws.proofs.Limits.{head_there, in_limits}
use Rattle.play_build_laws.specs.Assembly.{Assembly, component_at}
use Rattle.play_build_laws.specs.Stages.{AreBuilt, IsStage, Joining, file_by, progress_of, setting_of, state_by, stream_by}
use Rattle.play_build_laws.proofs.Places.{from_mapped, stream_found}
use Rattle.machine_laws.proofs.Fitting.{format_itself}
use Rattle.play_build_laws.proofs.Filing.{stream_component}
use Rattle.play_build_laws.proofs.Standing.{port_at_end}
use Rattle.play_plan_laws.specs.Assemblies.{IsReady, PlayFiles, assembly_of, end_of, file_at, file_of, is_late_link, kind_in, opening_format, play_cast_of}
use Rattle.play_plan_laws.proofs.Lawful.{IsLinkAt, alike_flows, kind_on, known_format, known_within, late_is, link_is, not_late, plan_lawful, flow_given, same_part, sink_roomy}
use Rattle.machine_laws.proofs.Accepting.{is_not}
use Rattle.play_model.specs.Network.{IsInput, IsOutput}
use Rattle.play_forms.specs.declared.flow.Flow.{Flow}
use Rattle.play_world_laws.specs.Changing.{is_set, state_by as changing_state}
use Rattle.play_world_laws.specs.PlayWorlds.{IsAlike, IsSetFor, IsWiredAt}
use Rattle.play_world_laws.specs.Openings.{IsOpeningWorld, IsSetUpAt}

-- ---- formats that fit

fitting : (kind : Kind) (fs : List Format)
    → ((i j : ℕ) (f g : Format) → slice_get fs i ≡ Some f → slice_get fs j ≡ Some g → (same_rate_and_channels f g ≡ true) × (is_splitter kind ≡ true → same_format f g ≡ true)) → are_fitting kind fs ≡ true
fitting kind [] h = refl
fitting kind (first ∷ rest) h =
    let rates : list_all (λ format. same_rate_and_channels format first) rest ≡ true = all_true (λ format. same_rate_and_channels format first) rest (λ k f e. (h (suc k) 0 f first e refl).0) in
    let split : (not (is_splitter kind) || list_all (λ format. same_format format first) rest) ≡ true = either (is_splitter kind)
    (λ t. let s = all_true (λ format. same_format format first) rest (λ k f e. (h (suc k) 0 f first e refl).1 t) in rw (t, s) refl)
    (λ t. rw t refl)
    in
    rw (rates, split) refl

-- ---- sums

units_same : (cs : List Component) (parts : List PartLine) → length cs ≡ length parts → ((i : ℕ) (a : Component) (part : PartLine) → slice_get cs i ≡ Some a → slice_get parts i ≡ Some part → need_of a ≡ units_of (kind_of part.form))
    → sum_by need_of cs ≡ sum_by (λ (part : PartLine). units_of (kind_of part.form)) parts
units_same [] [] n h = refl
units_same [] (part ∷ parts) n h = absurd (omega arith)
units_same (a ∷ cs) [] n h = absurd (omega arith)
units_same (a ∷ cs) (part ∷ parts) n h =
    let c = sum_by-cons need_of a cs in
    let d = sum_by-cons (λ (p : PartLine). units_of (kind_of p.form)) part parts in
    let i = units_same cs parts (omega arith) (λ k b q e f. h (suc k) b q e f) in
    let z = h 0 a part refl refl in
    omega arith

no_frames_yet : (o : Option Offered) (c : ℕ) → (stream_by o c).frames ≡ 0
no_frames_yet None c = refl
no_frames_yet (Some file) c = refl

from_kept : {X : Type 0} (test : X → Bool) (y : X) (xs ys : List X) (x : X) → ((i : ℕ) → slice_get ys i ≡ Some x → (j : ℕ) × (slice_get xs j ≡ Some x) × (test x ≡ true)) → test y ≡ true
    → (k : ℕ) → slice_get (y ∷ ys) k ≡ Some x → (j : ℕ) × (slice_get (y ∷ xs) j ≡ Some x) × (test x ≡ true)
from_kept test y xs ys x later t zero h = let s : y ≡ x = cc in (0, h, ap test (sym s) ∙ t)
from_kept test y xs ys x later t (suc k) h = let r = later k h in (suc r.0, r.1, r.2)

from_filtered : {X : Type 0} (test : X → Bool) (xs : List X) (i : ℕ) (x : X) → slice_get (filter test xs) i ≡ Some x → (j : ℕ) × (slice_get xs j ≡ Some x) × (test x ≡ true)
from_filtered test [] i x e = absurd cc
from_filtered test (y ∷ xs) i x e = either (test y)
    (λ t. from_kept test y xs (filter test xs) x (λ k h. from_filtered test xs k x h) t i (rw t at e))
    (λ f. let r = from_filtered test xs i x (rw f at e) in (suc r.0, r.1, r.2))

late_source : (kind : Kind) → is_late kind ≡ true → is_source kind ≡ true
late_source kinds.Late h = refl
late_source _ h = absurd cc

source_format : (kind : Kind) (head : WavHead) (frames there : ℕ) (known : Option (List ℕ)) → is_source kind ≡ true → file_format (option_map attached (file_of kind (Some head) frames there known)) ≡ head.format
source_format kinds.Source head frames there known h = refl
source_format kinds.Late head frames there known h = refl
source_format _ head frames there known h = absurd cc

source_frames : (kind : Kind) (head : WavHead) (frames there : ℕ) (known : Option (List ℕ)) → is_source kind ≡ true → frames_of (option_map attached (file_of kind (Some head) frames there known)) ≡ head.frames
source_frames kinds.Source head frames there known h = refl
source_frames kinds.Late head frames there known h = refl
source_frames kinds.Decoder head frames there known h = absurd cc
source_frames kinds.Alaw head frames there known h = absurd cc
source_frames kinds.Mulaw head frames there known h = absurd cc
source_frames kinds.Gain head frames there known h = absurd cc
source_frames (kinds.Mixer n) head frames there known h = absurd cc
source_frames (kinds.Splitter n) head frames there known h = absurd cc
source_frames kinds.Sink head frames there known h = absurd cc

-- ---- the world

pub record IsGiven (plan : PlanValue) (files : PlayFiles) (handles : List Handle) (w : World) : Type 0 where
  pub ready : IsReady plan files
  pub stage : IsStage (assembly_of plan files) (Joining (length plan.joints)) handles w

-- the port of an end that is joined
abbrev joined_port : Assembly → Bool → ℕ → Port
joined_port s side l = record { key = s.end side l; setting = setting_of s side l; state = state_by s true side l }

-- the format of a port of the component at the place
record IsFormatAt (plan : PlanValue) (files : PlayFiles) (place : ℕ) (f : Format) : Type 0 where
  side : Bool
  link : ℕ
  below : link < length plan.joints
  at : component_at (assembly_of plan files) side link ≡ place
  format : f ≡ opening_format (is_late_link plan link) (flow_of plan link).format

module _ (plan : PlanValue) (files : PlayFiles) (handles : List Handle) (w : World) (G : IsGiven plan files handles w) where
  built : AreBuilt (assembly_of plan files) (progress_of (assembly_of plan files) (Joining (length plan.joints))) w.components
  built = ((G.stage).built).components

  placed_there : (place : ℕ) → place < length plan.parts → (a : Component) × (slice_get w.components place ≡ Some a)
  placed_there place b = let m = ((G.stage).built).many in get_there w.components place (omega arith)

  is_cast_of : IsCastOf plan (cast_of (λ l. false) plan)
  is_cast_of = plan_has_cast plan (λ l. false) (G.ready).valid

  is_cast : IsCast (cast_of (λ l. false) plan)
  is_cast =
      let R = G.ready in
      plan_casts plan files.heads (cast_of (λ l. false) plan) R.valid R.flows R.frames R.fit (in_limits plan files.heads R.valid R.flows R.fit R.scripted R.heads_are) is_cast_of

  lawful_format : (l : ℕ) → l < length plan.joints → is_auto (flow_of plan l).format ≡ false
  lawful_format l b = let K = link_is plan files G.ready l b in known_within (flow_of plan l).format ((K.lawful).format)

  -- the format of a port is known where no source of the link is late
  known_at : (output : Bool) (l : ℕ) → l < length plan.joints → is_auto (opening_format (is_late_link plan l) (flow_of plan l).format) ≡ not (is_set ((play_cast_of plan).cast).layout opening output l)
  known_at true l b = either (is_late_link plan l) (λ t. rw t refl) (λ f. rw f (lawful_format l b))
  known_at false l b = either (is_late_link plan l) (λ t. rw t refl) (λ f. rw f (lawful_format l b))

  not_set : (output : Bool) (l : ℕ) → is_late_link plan l ≡ true → is_set ((play_cast_of plan).cast).layout opening output l ≡ false
  not_set true l t = rw t refl
  not_set false l t = rw t refl

  unit_at : (output : Bool) (l : ℕ) → is_set ((play_cast_of plan).cast).layout opening output l ≡ true → frame_bytes_of (opening_format (is_late_link plan l) (flow_of plan l).format) ≡ frame_bytes_of (flow_of plan l).format
  unit_at output l h = either (is_late_link plan l)
      (λ t. let z : false ≡ true = sym (not_set output l t) ∙ h in absurd cc)
      (λ f. ap (λ (b : Bool). frame_bytes_of (opening_format b (flow_of plan l).format)) f)

  -- ---- links

  port_built : (side : Bool) (l : ℕ) → l < length plan.joints → port_in w.components (end_of side (joint_of plan l)) ≡ Some (joined_port (assembly_of plan files) side l)
  port_built side l b =
      let K = link_is plan files G.ready l b in
      let a = placed_there (end_of side (joint_of plan l)).component (slice_get_within plan.parts _ (K.part side) (K.part_there side)) in
      let s : Assembly = assembly_of plan files in
      let P = port_at_end s (progress_of s (Joining (length plan.joints))) side l a.0 (built.ends side l a.0 b a.1) (built.each _ a.0 a.1).number in
      let state : (P.port).state ≡ state_by s true side l = P.state ∙ ap (λ (t : Bool). state_by s t side l) (lt-ltb l (length plan.joints) b) in
      let key = P.key in
      let setting = P.setting in
      let same : P.port ≡ joined_port s side l = λ i. record { key = key i; setting = setting i; state = state i } in
      ap (λ (o : Option Component). option_and_then (λ c. port_of c (end_of side (joint_of plan l)).port) o) a.1 ∙ (P.there ∙ ap (λ (q : Port). Some q) same)

  link_cast : (l : ℕ) → l < length plan.joints → IsLinkCast plan (cast_of (λ l. false) plan) l (joint_of plan l) (flow_of plan l)
  link_cast l b = let K = link_is plan files G.ready l b in is_cast_of.joints l (joint_of plan l) (flow_of plan l) K.there_joint K.there_flow

  output_key : (l : ℕ) → l < length plan.joints → output_at (cast_of (λ l. false) plan) l ≡ end_of false (joint_of plan l)
  output_key l b = let e = (link_cast l b).giver in λ i. record { component = e i; port = (joint_of plan l).output }

  input_key : (l : ℕ) → l < length plan.joints → input_at (cast_of (λ l. false) plan) l ≡ end_of true (joint_of plan l)
  input_key l b = let e = (link_cast l b).taker in λ i. record { component = e i; port = (joint_of plan l).input }

  wired_so : (l : ℕ) → l < length plan.joints → IsWiredAt (play_cast_of plan) opening (port_in w.components) l
  wired_so l b =
      let x : Cast = cast_of (λ l. false) plan in
      let s : Assembly = assembly_of plan files in
      let out = output_key l b in
      let in_ = input_key l b in
      record {
        output = joined_port s false l;
        input = joined_port s true l;
        output_there = ap (port_in w.components) out ∙ port_built false l b;
        input_there = ap (port_in w.components) in_ ∙ port_built true l b;
        output_end = record {
          key = sym out;
          state = ap (λ (k : PortKey). changing_state true (opening.change l) (link_to x l k)) (sym in_);
          direction = refl;
          count = refl;
          size = refl;
          known = known_at true l b;
          unit = unit_at true l;
          format = λ h k. let z : false ≡ true = sym (not_set true l h) ∙ k in absurd cc;
        };
        input_end = record {
          key = sym in_;
          state = ap (λ (k : PortKey). changing_state false (opening.change l) (link_to x l k)) (sym out);
          direction = refl;
          count = refl;
          size = refl;
          known = known_at false l b;
          unit = unit_at false l;
          format = λ h k. let z : false ≡ true = sym (not_set false l h) ∙ k in absurd cc;
        };
        apart = λ e. (plan_lawful plan files G.ready).apart l b (ap (λ (k : PortKey). k.component) (sym out) ∙ (e ∙ ap (λ (k : PortKey). k.component) in_));
        supplied = λ h. refl;
      }

  end_at_port : (i port : ℕ) (a : Component) (q : Port) → slice_get w.components i ≡ Some a → port_of a port ≡ Some q → IsSomeEnd (cast_of (λ l. false) plan) q.key
  end_at_port i port a q e f =
      let B = built.each i a e in
      let P = port_parts a port q f in
      let m = ((G.stage).built).many in
      let b = slice_get_within w.components i a e in
      let I = (parts_of w (G.stage).sound).components i a e in
      let kind : a.settings.kind ≡ kind_in (slice_get plan.parts i) = ap (λ (y : Settings). y.kind) B.settings in
      let ports = I.ports in
      let below = slice_get_within a.ports port q.state P.state in
      let low : port < ports_in (kind_in (slice_get plan.parts i)) = subst (λ (k : Kind). port < ports_in k) kind (omega arith) in
      let Z = (plan_lawful plan files G.ready).each i port (omega arith) low in
      let number = B.number in
      let key : q.key ≡ end_of Z.side (joint_of plan Z.link) = P.key ∙ ((λ k. record { component = number k; port = port }) ∙ sym Z.end) in
      record { link = Z.link; below = Z.below; end = by_side Z.side Z.link Z.below q.key key }
    where
      by_side : (side : Bool) (l : ℕ) → l < length plan.joints → (key : PortKey) → key ≡ end_of side (joint_of plan l)
          → (key ≡ output_at (cast_of (λ l. false) plan) l) ⊎ (key ≡ input_at (cast_of (λ l. false) plan) l)
      by_side false l d key h = inl (h ∙ sym (output_key l d))
      by_side true l d key h = inr (h ∙ sym (input_key l d))

  -- ---- components

  format_here : (place : ℕ) (a : Component) → slice_get w.components place ≡ Some a → (k : ℕ) (f : Format) → slice_get (formats_of a.settings.ports) k ≡ Some f → IsFormatAt plan files place f
  format_here place a e k f g =
      let B = built.each place a e in
      let s : Assembly = assembly_of plan files in
      let m = ((G.stage).built).many in
      let b = slice_get_within w.components place a e in
      let I = (parts_of w (G.stage).sound).components place a e in
      let kind : a.settings.kind ≡ kind_in (slice_get plan.parts place) = ap (λ (y : Settings). y.kind) B.settings in
      let r = from_mapped (λ (p : PortSetting). p.definition.format) a.settings.ports k f g in
      let ports = (I.whole).ports in
      let below = slice_get_within a.settings.ports k r.0 r.1 in
      let low : k < ports_in (kind_in (slice_get plan.parts place)) = subst (λ (y : Kind). k < ports_in y) kind (omega arith) in
      let Z = (plan_lawful plan files G.ready).each place k (omega arith) low in
      let there : slice_get w.components (component_at s Z.side Z.link) ≡ Some a = ap (slice_get w.components) (ap (λ y. y.component) Z.end) ∙ e in
      let E = built.ends Z.side Z.link a Z.below there in
      let same : Some r.0 ≡ Some (setting_of s Z.side Z.link) = sym r.1 ∙ (ap (slice_get a.settings.ports) (sym (ap (λ y. y.port) Z.end)) ∙ E.setting) in
      let is : r.0 ≡ setting_of s Z.side Z.link = cc in
      record { side = Z.side; link = Z.link; below = Z.below; at = ap (λ y. y.component) Z.end; format = sym r.2 ∙ ap (λ (y : PortSetting). y.definition.format) is }

  fits_so : (place : ℕ) (a : Component) → slice_get w.components place ≡ Some a → fits a.settings ≡ true
  fits_so place a e =
      let B = built.each place a e in
      let s : Assembly = assembly_of plan files in
      let L = plan_lawful plan files G.ready in
      let kind : a.settings.kind ≡ kind_in (slice_get plan.parts place) = ap (λ (y : Settings). y.kind) B.settings in
      let one = format_here place a e in
      let fs : List Format = formats_of a.settings.ports in
      fitting a.settings.kind (filter is_known fs) (λ i j f g x y.
      let X = from_filtered is_known fs i f x in
      let Y = from_filtered is_known fs j g y in
      let F = one X.0 f X.1 in
      let H = one Y.0 g Y.1 in
      let f_known = ap is_auto (sym F.format) ∙ is_not (is_auto f) X.2 in
      let g_known = ap is_auto (sym H.format) ∙ is_not (is_auto g) Y.2 in
      let A = L.fit F.side H.side F.link H.link F.below H.below (F.at ∙ sym H.at) f_known g_known in (
        (λ t. same_rate_and_channels (F.format t) (H.format t)) ∙ A.alike,
        λ h.
            let splitter : is_splitter (kind_in (slice_get plan.parts (component_at s F.side F.link))) ≡ true = ap (λ (n : ℕ). is_splitter (kind_in (slice_get plan.parts n))) F.at ∙ (ap is_splitter (sym kind) ∙ h) in
            (λ t. same_format (F.format t) (H.format t)) ∙ A.same splitter,
      ))

  taken_by : (c l : ℕ) → IsInput ((cast_of (λ l. false) plan).layout).network c l → (joint_of plan l).taker ≡ script_place (cast_of (λ l. false) plan) c
  taken_by c l I = sym (link_cast l I.below).taker ∙ ap (script_place (cast_of (λ l. false) plan)) I.taken_by

  -- its settings, and what its late links will bring
  set_for_so : (c : ℕ) (a : Component) → slice_get w.components (script_place (cast_of (λ l. false) plan) c) ≡ Some a → IsSetFor (play_cast_of plan) c a.settings
  set_for_so c a e =
      let place : ℕ = script_place (cast_of (λ l. false) plan) c in
      let R = G.ready in
      let kind : a.settings.kind ≡ kind_in (slice_get plan.parts place) = ap (λ (y : Settings). y.kind) (built.each place a e).settings in
      let kind_at : (l : ℕ) (K : IsLinkAt plan l) (side : Bool) → (end_of side (joint_of plan l)).component ≡ place → a.settings.kind ≡ kind_of (K.part side).form =
      λ l K side h. kind ∙ (ap (λ (n : ℕ). kind_in (slice_get plan.parts n)) (sym h) ∙ kind_on plan files R l K side)
      in
      let alike : (k l : ℕ) (K : IsLinkAt plan k) (L : IsLinkAt plan l) (side : Bool) → (end_of side (joint_of plan k)).component ≡ place → (joint_of plan l).taker ≡ place → IsAlike a.settings.kind (flow_of plan k).format (flow_of plan l).format =
      λ k l K L side h t.
      let A = alike_flows plan files R side true k l K L (h ∙ sym t) in (
        A.0,
        λ z. ap (λ (y : Format). same_format y (flow_of plan l).format) (A.1 (sym (ap is_splitter (kind_at k K side h)) ∙ z)) ∙ format_itself (flow_of plan l).format,
      )
      in
      record {
        fit = fits_so place a e;
        taken = λ l I h. let K = link_is plan files R l I.below in ap (λ (y : Kind). is_input_format y (flow_of plan l).format) (kind_at l K true (taken_by c l I)) ∙ known_format plan files R l K true;
        beside = λ l i y I h f known.
            let g : slice_get (formats_of a.settings.ports) i ≡ Some y.definition.format = slice_get-map (λ (z : PortSetting). z.definition.format) a.settings.ports i ∙ ap (option_map (λ (z : PortSetting). z.definition.format)) f in
            let F = format_here place a e i y.definition.format g in
            let is : y.definition.format ≡ (flow_of plan F.link).format = F.format ∙ not_late (is_late_link plan F.link) (flow_of plan F.link).format (ap is_auto (sym F.format) ∙ known) in
            subst (λ (z : Format). IsAlike a.settings.kind z (flow_of plan l).format) (sym is) (alike F.link l (link_is plan files R F.link F.below) (link_is plan files R l I.below) F.side F.at (taken_by c l I));
        together = λ k l I J h i. alike k l (link_is plan files R k I.below) (link_is plan files R l J.below) true (taken_by c k I) (taken_by c l J);
      }

  file_so : (place : ℕ) (part : PartLine) (a : Component) → slice_get plan.parts place ≡ Some part → slice_get w.components place ≡ Some a → is_source (kind_of part.form) ≡ true
      → frames_of a.file ≡ slice_index_or plan.frames place 0
  file_so place part a e f h =
      let R = G.ready in
      let B = built.each place a f in
      let kind : Kind = kind_of part.form in
      let H = head_there plan files.heads R.valid R.flows R.fit R.scripted R.heads_are place part e h in
      let head : WavHead = H.0 in
      let own : file_at plan files place ≡ file_of kind (Some head) (slice_index_or plan.frames place 0) (files.there place) (files.known place) =
      λ i. file_of (kind_in (e i)) (H.1 i) (slice_index_or plan.frames place 0) (files.there place) (files.known place)
      in
      let frames : slice_index_or plan.frames place 0 ≡ head.frames =
      get_or_from_slice_get plan.frames place _ 0 ((R.frames).each place part e)
      ∙ (ap (λ y. y.frames) (flow_of_source kind (slice_get files.heads (source_number plan.parts place)) (into no_flow plan.joints plan.flows place) h) ∙ ap (λ (o : Option WavHead). (flow_of_head o).frames) H.1)
      in
      ap frames_of B.file ∙ (ap (λ (o : Option Offered). frames_of (option_map attached o)) own ∙ (source_frames kind head _ _ _ h ∙ sym frames))

  stream_so : (place : ℕ) (a : Component) → slice_get w.components place ≡ Some a → MatchOption (stream_of (number_of a) w) ⊥ (λ s. s.frames ≡ 0)
  stream_so place a e =
      let S = (G.stage).sound in
      let V = (G.stage).built in
      let s : Assembly = assembly_of plan files in
      let b = slice_get_within w.components place a e in
      let m = V.many in
      let many : length w.streams ≡ length plan.parts = sym (length-map w.streams (λ (y : Stream). y.component)) ∙ (ap length S.streams ∙ (length-map w.components number_of ∙ m)) in
      let number = (built.each place a e).number in
      let found = stream_found w.streams 0 place (λ k st f.
      let l = slice_get_within w.streams k st f in
      let z : Some st ≡ Some (stream_by (file_by s true k) k) = sym f ∙ V.streams k (omega arith) in
      let is : st ≡ stream_by (file_by s true k) k = cc in
      ap (λ (y : Stream). y.component) is ∙ (stream_component (file_by s true k) k ∙ (let o : k ≡ 0 + k = omega arith in o)))
      in
      let there : stream_of (number_of a) w ≡ Some (stream_by (file_by s true place) place) =
      ap (λ (n : ℕ). stream_of n w) (number ∙ (let o : place ≡ 0 + place = omega arith in o)) ∙ (found ∙ V.streams place (omega arith))
      in
      is_there (stream_of (number_of a) w) (λ y. y.frames ≡ 0) (stream_by (file_by s true place) place) there (no_frames_yet (file_by s true place) place)

  -- a link that the component gives
  given_by : (c l : ℕ) → IsOutput ((cast_of (λ l. false) plan).layout).network c l → (joint_of plan l).giver ≡ script_place (cast_of (λ l. false) plan) c
  given_by c l O = sym (link_cast l O.below).giver ∙ ap (script_place (cast_of (λ l. false) plan)) O.given_by

  late_format_so : (place : ℕ) (part : PartLine) (a : Component) (l : ℕ) → slice_get plan.parts place ≡ Some part → slice_get w.components place ≡ Some a → l < length plan.joints → (joint_of plan l).giver ≡ place
      → is_late_link plan l ≡ true → file_format a.file ≡ (flow_of plan l).format
  late_format_so place part a l e f b g h =
      let R = G.ready in
      let B = built.each place a f in
      let K = link_is plan files R l b in
      let p = same_part plan.parts _ _ (K.part false) part (K.part_there false) e g in
      let kind : Kind = kind_of part.form in
      let source : is_source kind ≡ true = ap (λ (y : PartLine). is_source (kind_of y.form)) (sym p) ∙ late_source (kind_of (K.part false).form) (sym (late_is plan files R l K) ∙ h) in
      let H = head_there plan files.heads R.valid R.flows R.fit R.scripted R.heads_are place part e source in
      let head : WavHead = H.0 in
      let own : file_at plan files place ≡ file_of kind (Some head) (slice_index_or plan.frames place 0) (files.there place) (files.known place) =
      λ i. file_of (kind_in (e i)) (H.1 i) (slice_index_or plan.frames place 0) (files.there place) (files.known place)
      in
      let given : flow_of plan l ≡ flow_of_head (Some head) =
      flow_given plan files R l K ∙ (flow_of_source (kind_of (K.part false).form) _ (into no_flow plan.joints plan.flows (joint_of plan l).giver) (ap (λ (y : PartLine). is_source (kind_of y.form)) p ∙ source)
      ∙ (ap (λ (n : ℕ). flow_of_head (slice_get files.heads (source_number plan.parts n))) g ∙ ap flow_of_head H.1))
      in
      ap file_format B.file ∙ (ap (λ (o : Option Offered). file_format (option_map attached o)) own ∙ (source_format kind head _ _ _ source ∙ sym (ap (λ (y : Flow). y.format) given)))

  -- the frames of its file in the format of its link
  roomy_so : (place : ℕ) (part : PartLine) (a : Component) (l : ℕ) → slice_get plan.parts place ≡ Some part → slice_get w.components place ≡ Some a → l < length plan.joints → (joint_of plan l).taker ≡ place
      → overflows a.file (flow_of plan l).format ≡ false
  roomy_so place part a l e f b t =
      let own : file_at plan files place ≡ file_of (kind_of part.form) (slice_get files.heads (source_number plan.parts place)) (slice_index_or plan.frames place 0) (files.there place) (files.known place) =
      ap (λ (o : Option PartLine). file_of (kind_in o) (slice_get files.heads (source_number plan.parts place)) (slice_index_or plan.frames place 0) (files.there place) (files.known place)) e
      in
      ap (λ (o : Option Attached). overflows o (flow_of plan l).format) ((built.each place a f).file ∙ ap (option_map attached) own)
      ∙ by_kind (kind_of part.form) (slice_get files.heads (source_number plan.parts place)) refl
    where
      by_kind : (kind : Kind) (head : Option WavHead) → kind_of part.form ≡ kind → overflows (option_map attached (file_of kind head (slice_index_or plan.frames place 0) (files.there place) (files.known place))) (flow_of plan l).format ≡ false
      by_kind kinds.Source None k = refl
      by_kind kinds.Source (Some head) k = refl
      by_kind kinds.Late None k = refl
      by_kind kinds.Late (Some head) k = refl
      by_kind kinds.Sink head k = sink_roomy plan files G.ready place part l e k (link_is plan files G.ready l b) t
      by_kind kinds.Decoder head k = refl
      by_kind kinds.Alaw head k = refl
      by_kind kinds.Mulaw head k = refl
      by_kind kinds.Gain head k = refl
      by_kind (kinds.Mixer n) head k = refl
      by_kind (kinds.Splitter n) head k = refl

  set_up : (c : ℕ) (a : Component) → c < components_of (cast_of (λ l. false) plan) → slice_get w.components (script_place (cast_of (λ l. false) plan) c) ≡ Some a → IsSetUpAt (play_cast_of plan) w c a
  set_up c a l e =
      let x : Cast = cast_of (λ l. false) plan in
      let place : ℕ = script_place x c in
      let B = built.each place a e in
      let p = get_there plan.parts place (is_cast.placed c l) in
      let kind : a.settings.kind ≡ kind_in (slice_get plan.parts place) = ap (λ (y : Settings). y.kind) B.settings in
      let its_kind : a.settings.kind ≡ kind_of (p.0).form = kind ∙ ap kind_in p.1 in
      record {
        number = B.number;
        fresh_else = B.fresh_else ∙ ap (λ (k : Kind). record (fresh a.handle k) { settings = a.settings; file = a.file; ports = a.ports }) (sym kind);
        set_for = set_for_so c a e;
        roomy = λ k I h. roomy_so place p.0 a k p.1 e I.below (taken_by c k I);
        source = ap is_source its_kind ∙ sym (ap (passes_at is_source) p.1);
        sink = ap is_sink its_kind ∙ sym (ap (passes_at is_sink) p.1);
        late = λ k O. ap is_late its_kind ∙ sym (ap (λ (n : ℕ). passes_at is_late (slice_get plan.parts n)) (given_by c k O) ∙ ap (passes_at is_late) p.1);
        late_format = λ k O h. late_format_so place p.0 a k p.1 e O.below (given_by c k O) h;
        file = λ h. file_so place p.0 a p.1 e (ap is_source (sym its_kind) ∙ h);
        stream = stream_so place a e;
      }

  units_so : sum_by need_of w.components ≤ w.units
  units_so =
      let V = (G.stage).built in
      let e = units_same w.components plan.parts V.many (λ i a part f g.
      let kind : a.settings.kind ≡ kind_in (slice_get plan.parts i) = ap (λ (y : Settings). y.kind) (built.each i a f).settings in
      ap units_of (kind ∙ ap kind_in g))
      in
      let n = ((G.ready).valid).enough in
      let u = V.units in
      omega arith

  pub opens : IsOpeningWorld (play_cast_of plan) w
  opens = record {
    cast_is = is_cast;
    formats = λ l b h. (refl, lawful_format l b);
    sound = (G.stage).sound;
    many = ((G.stage).built).many;
    components = set_up;
    wired = wired_so;
    ends = end_at_port;
    headers = ((G.stage).built).headers;
    made = ((G.stage).built).unmade;
    given = ((G.stage).built).given;
    units = units_so;
  }

pub assembled_opens : (plan : PlanValue) (files : PlayFiles) (handles : List Handle) (w : World) → IsReady plan files → IsStage (assembly_of plan files) (Joining (length plan.joints)) handles w → IsOpeningWorld (play_cast_of plan) w
assembled_opens plan files handles w R W = opens plan files handles w (record { ready = R; stage = W })
