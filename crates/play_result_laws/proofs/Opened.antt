-- The assembled graph of a plan is set as the plan's contents say, but for the formats of its late sources' links, which aren't known yet,
-- and its files hold what they say; nothing flowed yet.
use Rattle.std.proofs.Common.{◌≡◌, ℕ, suc, ◌+◌, ◌*◌, ◌<◌, Bool, true, false, nat_le, List, [], ◌∷◌, length, take, drop, slice_get, slice_index_or, Option, Some, None, option_map, refl, sym, ◌∙◌, ap, subst, append-nil, leb-true, arith}
use Rattle.std.proofs.lemmas.List.{length-drop, length-map, length-replicate, length-take-le}
use Rattle.std.proofs.lemmas.Bool.{leb-false}
use Rattle.std.proofs.lemmas.Option.{slice_get-map, slice_get_within}
use Rattle.omx_types.specs.declared.handle.Handle.{Handle}
use Rattle.omx_types.specs.declared.format.Format.{Format}
use Rattle.omx_types.specs.declared.kind.Kind.{Kind}
use Rattle.omx_types.specs.declared.kind.Kind.TheVariants as kinds
use Rattle.omx_types.specs.Formats.{frame_bytes_of}
use Rattle.part_forms.specs.Kinds.{inputs_of, is_source, outputs_of, ports_in}
use Rattle.audio_parts.specs.Kinds.{default_factors}
use Rattle.il_machine.specs.declared.port.PortSetting.{PortSetting}
use Rattle.il_machine.specs.Files.{Offered}
use Rattle.il_machine.specs.Kinds.{is_auto, is_sink}
use Rattle.il_machine.specs.Parts.{factors_by, terms_of}
use Rattle.il_machine.specs.Settings.{Settings, formats_of as set_formats, weights_in}
use Rattle.il_machine.specs.World.{Component, Stream, World, number_of, stream_of}
use Rattle.script_lang.specs.declared.play_line.PartForm.{PartForm}
use Rattle.script_lang.specs.declared.play_line.PartForm.TheVariants as forms
use Rattle.script_lang.specs.declared.play_line.PartLine.{PartLine}
use Rattle.wav_form.specs.declared.heads.WavHead.{WavHead}
use Rattle.machine_laws.proofs.Finding.{either}
use Rattle.machine_laws.proofs.Keys.{is_there}
use Rattle.machine_laws.proofs.Parts.{parts_of}
use Rattle.play_model.specs.Content.{Part}
use Rattle.play_forms.specs.Fitting.{format_into}
use Rattle.play_forms.specs.Parts.{factors_of, kind_of, passes_at, source_number}
use Rattle.play_forms.specs.Plain.{format_out, formats_of, samples_at}
use Rattle.play_forms.specs.Plans.{PlanValue}
use Rattle.stream_plan.proofs.Lists.{slice_get_take}
use Rattle.play_world_laws.specs.Cast.{Cast, script_place}
use Rattle.play_world_laws.specs.Openings.{opening}
use Rattle.play_world_laws.proofs.Lengths.{drop_at}
use Rattle.play_world_laws.proofs.Lists.{get_there}
use Rattle.play_plan_laws.specs.Casting.{flow_of, joint_of, place_of}
use Rattle.play_world_laws.proofs.Opened.{play_opens}
use Rattle.play_build_laws.specs.Assembly.{Assembly, component_at}
use Rattle.play_build_laws.specs.Stages.{AreBuilt, IsStage, Joining, file_by, progress_of, stream_by}
use Rattle.play_build_laws.proofs.Filing.{stream_component}
use Rattle.play_build_laws.proofs.Places.{stream_found}
use Rattle.play_plan_laws.specs.Assemblies.{IsReady, PlayFiles, assembly_of, factors_in, file_at, file_of, is_late_link, kind_in, play_cast_of, opening_format}
use Rattle.play_plan_laws.proofs.Lawful.{not_late}
use Rattle.play_plan_laws.proofs.Opened.{assembled_opens}
use Rattle.play_result_laws.specs.Files.{AreSamples, IsWriter, written_by}
use Rattle.play_result_laws.specs.Worlds.{IsOpening}
use Rattle.play_stream_laws.specs.Contents.{Tells}
use Rattle.play_stream_laws.specs.Streams.{AreNew}
use Rattle.play_stream_laws.specs.PlayContents.{AreSetAs, HasPlayContents, IsSetAs}
use Rattle.play_stream_laws.specs.PlayStreams.{HasPlayStreams}
use Rattle.play_stream_laws.proofs.Beginning.{opening_has}
use Rattle.play_result_laws.specs.Contents.{contents_of, samples_by}
use Rattle.play_result_laws.specs.Terms.{terms_by}
use Rattle.play_result_laws.proofs.Contents.{input_is, link_in, no_part_is, plan_contents}
use Rattle.play_result_laws.proofs.Files.{source_file as samples_of}
use Rattle.play_result_laws.proofs.Links.{link_input, link_output}
use Rattle.play_result_laws.proofs.Ports.{at_input, at_output, factors_many, formats_get, formats_many}
use Rattle.play_result_laws.proofs.Turns.{part_is, seat_at, terms_is}

-- ---- lists

-- of so many formats, each that is known is the one that the function says
are_set : (n : ℕ) (f : ℕ → Format) (xs : List Format) → length xs ≡ n → ((i : ℕ) (y : Format) → i < n → slice_get xs i ≡ Some y → is_auto y ≡ false → y ≡ f i) → AreSetAs xs (formats_of n f)
are_set n f xs e h = record {
  many = e ∙ sym (formats_many n f);
  each = λ i y z a b known.
      let l = slice_get_within xs i y a in
      let low : i < n = omega arith in
      let same : Some (f i) ≡ Some z = sym (formats_get n f i low) ∙ b in
      let is : f i ≡ z = cc in
      h i y low a known ∙ is;
}

same_list : (xs ys : List ℕ) → length ys ≡ length xs → ((i x : ℕ) → slice_get xs i ≡ Some x → slice_get ys i ≡ Some x) → ys ≡ xs
same_list [] [] e h = refl
same_list [] (y ∷ ys) e h = absurd (omega arith)
same_list (x ∷ xs) [] e h = absurd (omega arith)
same_list (x ∷ xs) (y ∷ ys) e h =
    let z : Some y ≡ Some x = h 0 x refl in
    let s : y ≡ x = cc in
    let r = same_list xs ys (omega arith) (λ i v f. h (suc i) v f) in
    λ i. s i ∷ r i

factors_long : (k : Kind) (gain : ℕ) (weights : List ℕ) → length weights ≡ weights_in k → length (factors_by k gain weights) ≡ length (default_factors k)
factors_long kinds.Source gain weights h = refl
factors_long kinds.Late gain weights h = refl
factors_long kinds.Decoder gain weights h = refl
factors_long kinds.Alaw gain weights h = refl
factors_long kinds.Mulaw gain weights h = refl
factors_long kinds.Gain gain weights h = refl
factors_long (kinds.Mixer n) gain weights h = h ∙ sym (length-replicate n 4096)
factors_long (kinds.Splitter n) gain weights h = refl
factors_long kinds.Sink gain weights h = refl

-- ---- streams

not_written : (o : Option Offered) (c : ℕ) → (stream_by o c).written ≡ []
not_written None c = refl
not_written (Some file) c = refl

known_of_source : (kind : Kind) (head : WavHead) (frames there : ℕ) (known : Option (List ℕ)) (c : ℕ) → is_source kind ≡ true
    → (stream_by (file_of kind (Some head) frames there known) c).known ≡ option_map (take (head.frames * frame_bytes_of head.format)) known
known_of_source kinds.Source head frames there known c h = refl
known_of_source kinds.Late head frames there known c h = refl
known_of_source kinds.Decoder head frames there known c h = absurd cc
known_of_source kinds.Alaw head frames there known c h = absurd cc
known_of_source kinds.Mulaw head frames there known c h = absurd cc
known_of_source kinds.Gain head frames there known c h = absurd cc
known_of_source (kinds.Mixer n) head frames there known c h = absurd cc
known_of_source (kinds.Splitter n) head frames there known c h = absurd cc
known_of_source kinds.Sink head frames there known c h = absurd cc

known_of_sink : (kind : Kind) (head : Option WavHead) (frames there : ℕ) (known : Option (List ℕ)) (c : ℕ) → is_sink kind ≡ true → (stream_by (file_of kind head frames there known) c).known ≡ known
known_of_sink kinds.Sink head frames there known c h = refl
known_of_sink kinds.Source head frames there known c h = absurd cc
known_of_sink kinds.Late head frames there known c h = absurd cc
known_of_sink kinds.Decoder head frames there known c h = absurd cc
known_of_sink kinds.Alaw head frames there known c h = absurd cc
known_of_sink kinds.Mulaw head frames there known c h = absurd cc
known_of_sink kinds.Gain head frames there known c h = absurd cc
known_of_sink (kinds.Mixer n) head frames there known c h = absurd cc
known_of_sink (kinds.Splitter n) head frames there known c h = absurd cc

sink_writes : (form : PartForm) → is_sink (kind_of form) ≡ true → (name : List ℕ) × (written_by form ≡ Some name)
sink_writes (forms.Sink file) h = (file, refl)
sink_writes (forms.Source file) h = absurd cc
sink_writes (forms.Late file) h = absurd cc
sink_writes forms.Decoder h = absurd cc
sink_writes forms.Alaw h = absurd cc
sink_writes forms.Mulaw h = absurd cc
sink_writes (forms.Gain gain) h = absurd cc
sink_writes (forms.Mixer weights) h = absurd cc
sink_writes (forms.Splitter outputs) h = absurd cc

writer_is_sink : (form : PartForm) (name : List ℕ) → written_by form ≡ Some name → is_sink (kind_of form) ≡ true
writer_is_sink (forms.Sink file) name e = refl
writer_is_sink (forms.Source file) name e = absurd cc
writer_is_sink (forms.Late file) name e = absurd cc
writer_is_sink forms.Decoder name e = absurd cc
writer_is_sink forms.Alaw name e = absurd cc
writer_is_sink forms.Mulaw name e = absurd cc
writer_is_sink (forms.Gain gain) name e = absurd cc
writer_is_sink (forms.Mixer weights) name e = absurd cc
writer_is_sink (forms.Splitter outputs) name e = absurd cc

tells : (o : Option (List ℕ)) (file : List ℕ) → o ≡ Some file → Tells o file
tells None file e = absurd cc
tells (Some known) file e = let s : known ≡ file = cc in ([], s ∙ sym (append-nil file))

-- ---- the world

module _ (plan : PlanValue) (files : PlayFiles) (handles : List Handle) (w : World) (B : IsStage (assembly_of plan files) (Joining (length plan.joints)) handles w) where
  module _ (place : ℕ) (part : PartLine) (a : Component) (e : slice_get plan.parts place ≡ Some part) (f : slice_get w.components place ≡ Some a) where
    -- the stream of the component's file
    pub opening_stream : stream_of (number_of a) w ≡ Some (stream_by (file_at plan files place) place)
    opening_stream =
        let S = B.sound in
        let V = B.built in
        let b = slice_get_within w.components place a f in
        let m = V.many in
        let many : length w.streams ≡ length plan.parts = sym (length-map w.streams (λ (y : Stream). y.component)) ∙ (ap length S.streams ∙ (length-map w.components number_of ∙ m)) in
        let number = (V.components.each place a f).number in
        let found = stream_found w.streams 0 place (λ j st g.
        let l = slice_get_within w.streams j st g in
        let z : Some st ≡ Some (stream_by (file_by (assembly_of plan files) true j) j) = sym g ∙ V.streams j (omega arith) in
        let is : st ≡ stream_by (file_by (assembly_of plan files) true j) j = cc in
        ap (λ (y : Stream). y.component) is ∙ (stream_component (file_by (assembly_of plan files) true j) j ∙ (let o : j ≡ 0 + j = omega arith in o)))
        in
        ap (λ (n : ℕ). stream_of n w) (number ∙ (let o : place ≡ 0 + place = omega arith in o)) ∙ (found ∙ V.streams place (omega arith))

  -- what the file of a sink told when it came
  pub opening_known : (place : ℕ) (name : List ℕ) → IsWriter plan.parts place name → (st : Stream) → stream_of place w ≡ Some st → st.known ≡ files.known place
  opening_known place name (part, e, writes) st g =
      let m = (B.built).many in
      let l = slice_get_within plan.parts place part e in
      let a = get_there w.components place (omega arith) in
      let sink = writer_is_sink part.form name writes in
      let own : file_at plan files place ≡ file_of (kind_of part.form) (slice_get files.heads (source_number plan.parts place)) (slice_index_or plan.frames place 0) (files.there place) (files.known place) =
      ap (λ (o : Option PartLine). file_of (kind_in o) (slice_get files.heads (source_number plan.parts place)) (slice_index_or plan.frames place 0) (files.there place) (files.known place)) e
      in
      let number = ((B.built).components.each place a.0 a.1).number in
      let z : Some st ≡ Some (stream_by (file_at plan files place) place) = sym g ∙ (ap (λ (n : ℕ). stream_of n w) (sym number) ∙ opening_stream place part a.0 e a.1) in
      let is : st ≡ stream_by (file_at plan files place) place = cc in
      ap (λ (y : Stream). y.known) is ∙ (ap (λ o. (stream_by o place).known) own ∙ known_of_sink (kind_of part.form) (slice_get files.heads (source_number plan.parts place)) (slice_index_or plan.frames place 0) (files.there place) (files.known place) place sink)

module _ (plan : PlanValue) (files : PlayFiles) (samples : List (List ℕ)) (R : IsReady plan files) (F : AreSamples plan files samples) (handles : List Handle) (w : World)
    (B : IsStage (assembly_of plan files) (Joining (length plan.joints)) handles w) where
  abbrev s : Assembly
  s = assembly_of plan files

  built : AreBuilt (assembly_of plan files) (progress_of (assembly_of plan files) (Joining (length plan.joints))) w.components
  built = (B.built).components

  module _ (place : ℕ) (part : PartLine) (a : Component) (e : slice_get plan.parts place ≡ Some part) (f : slice_get w.components place ≡ Some a) where
    abbrev kind : Kind
    kind = kind_of part.form

    abbrev fs : List Format
    fs = set_formats a.settings.ports

    kind_is : a.settings.kind ≡ kind_of part.form
    kind_is = ap (λ (y : Settings). y.kind) (built.each place a f).settings ∙ ap kind_in e

    -- what is set of the port of an end, where it is known
    set_at : (side : Bool) (l port : ℕ) (y : Format) → l < length plan.joints → component_at s side l ≡ place → (s.end side l).port ≡ port → slice_get fs port ≡ Some y → is_auto y ≡ false → y ≡ (flow_of plan l).format
    set_at side l port y b at p g known =
        let E = built.ends side l a b (ap (slice_get w.components) at ∙ f) in
        let here : slice_get fs port ≡ Some (opening_format (is_late_link plan l) (flow_of plan l).format) =
        slice_get-map (λ (z : PortSetting). z.definition.format) a.settings.ports port
        ∙ (ap (λ (n : ℕ). option_map (λ (z : PortSetting). z.definition.format) (slice_get a.settings.ports n)) (sym p)
        ∙ ap (option_map (λ (z : PortSetting). z.definition.format)) E.setting)
        in
        let same : Some y ≡ Some (opening_format (is_late_link plan l) (flow_of plan l).format) = sym g ∙ here in
        let is : y ≡ opening_format (is_late_link plan l) (flow_of plan l).format = cc in
        is ∙ not_late (is_late_link plan l) (flow_of plan l).format (ap is_auto (sym is) ∙ known)

    ports_many : length fs ≡ ports_in (kind_of part.form)
    ports_many =
        let I = (parts_of w B.sound).components place a f in
        length-map a.settings.ports (λ (y : PortSetting). y.definition.format) ∙ ((I.whole).ports ∙ ap ports_in kind_is)

    inputs_set : AreSetAs (take (inputs_of (kind_of part.form)) fs) (formats_of (inputs_of (kind_of part.form)) (format_into plan.joints plan.flows place))
    inputs_set =
        let many = ports_many in
        are_set (inputs_of kind) (format_into plan.joints plan.flows place) (take (inputs_of kind) fs) (length-take-le (inputs_of kind) fs (omega arith)) (λ i y l g known.
        let Z = at_input plan files R place part e i l in
        set_at true Z.link i y Z.below Z.taker Z.port (slice_get_take fs (inputs_of kind) i y g).1 known ∙ sym Z.format)

    outputs_set : AreSetAs (drop (inputs_of (kind_of part.form)) fs) (formats_of (outputs_of (kind_of part.form)) (format_out plan place (kind_of part.form)))
    outputs_set =
        let many = ports_many in
        let left = length-drop (inputs_of kind) fs in
        are_set (outputs_of kind) (format_out plan place kind) (drop (inputs_of kind) fs) (omega arith) (λ i y l g known.
        let Z = at_output plan files R place part e i l in
        set_at false Z.link (inputs_of kind + i) y Z.below Z.giver Z.port (sym (drop_at (inputs_of kind) fs i) ∙ g) known ∙ sym Z.format)

    factors_set : factors_by (kind_of part.form) a.settings.gain a.settings.weights ≡ factors_of part.form
    factors_set =
        let I = (parts_of w B.sound).components place a f in
        let q = kind_is in
        let own : kind_in (slice_get plan.parts place) ≡ kind_of part.form = ap kind_in e in
        let weights : length a.settings.weights ≡ weights_in kind = (I.whole).weights ∙ ap weights_in q in
        same_list (factors_of part.form) (factors_by kind a.settings.gain a.settings.weights)
        (factors_long kind a.settings.gain a.settings.weights weights ∙ sym (factors_many part.form))
        (λ i x h.
        let r = (built.each place a f).factors i x (ap (λ o. slice_get (factors_in o) i) e ∙ h) refl in
        ap (λ (y : Kind). slice_get (factors_by y a.settings.gain a.settings.weights) i) (sym own) ∙ r)

    terms_set : IsSetAs (terms_of a) (terms_by plan files place part)
    terms_set =
        let k = kind_is in
        record {
          kind = k;
          inputs = subst (λ (y : Kind). AreSetAs (take (inputs_of y) fs) (formats_of (inputs_of kind) (format_into plan.joints plan.flows place))) (sym k) inputs_set;
          outputs = subst (λ (y : Kind). AreSetAs (drop (inputs_of y) fs) (formats_of (outputs_of kind) (format_out plan place kind))) (sym k) outputs_set;
          factors = ap (λ (y : Kind). factors_by y a.settings.gain a.settings.weights) k ∙ factors_set;
          file = (built.each place a f).file;
        }

    stream_there : stream_of (number_of a) w ≡ Some (stream_by (file_at plan files place) place)
    stream_there = opening_stream plan files handles w B place part a e f

    known_there : is_source (kind_of part.form) ≡ true → (stream_by (file_at plan files place) place).known ≡ Some (samples_at samples plan.parts place)
    known_there h =
        let D = samples_of plan files samples R F place part e h in
        let own : file_at plan files place ≡ file_of kind (Some D.head) (slice_index_or plan.frames place 0) (files.there place) (files.known place) =
        λ i. file_of (kind_in (e i)) (D.head_is i) (slice_index_or plan.frames place 0) (files.there place) (files.known place)
        in
        ap (λ o. (stream_by o place).known) own
        ∙ (known_of_source kind D.head (slice_index_or plan.frames place 0) (files.there place) (files.known place) place h
        ∙ (ap (option_map (take ((D.head).frames * frame_bytes_of (D.head).format))) D.known ∙ ap (λ (y : List ℕ). Some y) (sym D.samples_are)))

  -- ---- all of it

  abbrev x : Cast
  x = (play_cast_of plan).cast

  pub contents_there : HasPlayContents (play_cast_of plan) (contents_of plan files samples) w
  contents_there = record {
    lawful = plan_contents plan files samples R (λ l. false) F;
    terms = λ c a b f.
        let t = seat_at plan R.valid c b in
        subst (IsSetAs (terms_of a)) (sym (terms_is plan files c (place_of plan c) t.0 t.1)) (terms_set (place_of plan c) t.0 a (t.1).there f);
    late_output = λ l b h. link_output plan files R l b;
    late_input = λ l b h. link_input plan files R l b;
    parts = λ c b. refl;
    files = λ c a b f h.
        let t = seat_at plan R.valid c b in
        let place : ℕ = place_of plan c in
        let source : is_source (kind_of (t.0).form) ≡ true = ap is_source (sym (kind_is place t.0 a (t.1).there f)) ∙ h in
        let file : samples_by plan samples place (Some t.0) ≡ samples_by plan samples place _ = ap (samples_by plan samples place) (sym (part_is plan c place t.0 t.1)) in
        is_there (stream_of (number_of a) w) (λ y. Tells y.known ((contents_of plan files samples).model.file c)) (stream_by (file_at plan files place) place) (stream_there place t.0 a (t.1).there f)
        (tells _ _ (known_there place t.0 a (t.1).there f source ∙ ap (λ (y : List ℕ). Some y) file));
    outputs = λ l b. refl;
    inputs = λ c i l. port_of c i l;
    units = λ l b. refl;
  }
    where
      port_of : (c i : ℕ) → i < ((contents_of plan files samples).model.part c).inputs → (joint_of plan ((contents_of plan files samples).model.input c i)).input ≡ i
      port_of c i l = either (nat_le (length plan.parts) c)
          (λ h. let none = ap (λ (p : Part). p.inputs) (no_part_is plan files samples R c (leb-true (length plan.parts) c h)) in absurd (omega arith))
          (λ h.
          let t = seat_at plan R.valid c (leb-false (length plan.parts) c h) in
          let Z = link_in plan files samples R c (place_of plan c) t.0 t.1 i l in
          ap (λ (j : ℕ). (joint_of plan j).input) (input_is plan files samples R c (place_of plan c) t.0 t.1 i l) ∙ Z.port)

  pub all_new : AreNew (play_cast_of plan).cast w
  all_new l a st d sink f g =
      let place : ℕ = script_place x (((x.layout).network).taker l) in
      let m = (B.built).many in
      let b = slice_get_within w.components place a f in
      let p = get_there plan.parts place (omega arith) in
      let form : is_sink (kind_of (p.0).form) ≡ true = ap (passes_at is_sink) (sym p.1) ∙ sink in
      let name = sink_writes (p.0).form form in
      let own : file_at plan files place ≡ file_of (kind_of (p.0).form) (slice_get files.heads (source_number plan.parts place)) (slice_index_or plan.frames place 0) (files.there place) (files.known place) =
      ap (λ (o : Option PartLine). file_of (kind_in o) (slice_get files.heads (source_number plan.parts place)) (slice_index_or plan.frames place 0) (files.there place) (files.known place)) p.1
      in
      let z : Some st ≡ Some (stream_by (file_at plan files place) place) = sym g ∙ stream_there place p.0 a p.1 f in
      let is : st ≡ stream_by (file_at plan files place) place = cc in (
        ap (λ (y : Stream). y.known) is ∙ (ap (λ o. (stream_by o place).known) own
            ∙ (known_of_sink (kind_of (p.0).form) (slice_get files.heads (source_number plan.parts place)) (slice_index_or plan.frames place 0) (files.there place) (files.known place) place form ∙ F.sinks place name.0 (p.0, p.1, name.1))),
        ap (λ (y : Stream). y.written) is ∙ not_written (file_at plan files place) place,
      )

-- ---- the world in which the play begins

module _ (plan : PlanValue) (files : PlayFiles) (samples : List (List ℕ)) (w : World) (R : IsReady plan files) (F : AreSamples plan files samples) (B : IsOpening plan files w) where
  pub opening_contents : HasPlayContents (play_cast_of plan) (contents_of plan files samples) w
  opening_contents = contents_there plan files samples R F B.0 w B.1

  pub opening_new : AreNew (play_cast_of plan).cast w
  opening_new = all_new plan files samples R F B.0 w B.1

  pub opening_streams : HasPlayStreams (play_cast_of plan) (contents_of plan files samples) opening w
  opening_streams =
      let W = play_opens (play_cast_of plan) 0 w (assembled_opens plan files B.0 w R B.1) in
      opening_has (play_cast_of plan) (contents_of plan files samples) 0 opening w W (omega arith) opening_contents opening_new
