-- The contents of a plan are those of its network.
use Rattle.std.proofs.Common.{◌≡◌, ℕ, ◌-◌, ◌*◌, ◌<◌, ◌≤◌, Bool, true, false, nat_le, ◌||◌, List, [], length, slice_index_or, refl, sym, ◌∙◌, ap, subst, leb-true, ltb-true, arith}
use Rattle.std.specs.List.{position_or_len}
use Rattle.std.proofs.lemmas.Bool.{leb-false}
use Rattle.omx_types.specs.declared.kind.Kind.{Kind}
use Rattle.omx_types.specs.Formats.{frame_bytes_of}
use Rattle.part_api.specs.Streams.{Shape}
use Rattle.part_api.specs.Terms.{Terms}
use Rattle.part_forms.specs.Kinds.{inputs_of, is_source, outputs_of, ports_in}
use Rattle.part_forms.specs.Shapes.{shape_of}
use Rattle.audio_parts.specs.Shapes.{IsFrame}
use Rattle.script_lang.specs.declared.play_line.PartLine.{PartLine}
use Rattle.machine_laws.proofs.Accepting.{both_of}
use Rattle.machine_laws.proofs.Finding.{either}
use Rattle.play_model.specs.Network.{IsInput, Network}
use Rattle.play_model.specs.Content.{AreContents, Contents, IsPart, Part}
use Rattle.play_forms.specs.Fitting.{format_into}
use Rattle.play_forms.specs.Parts.{kind_of, passes_at}
use Rattle.play_forms.specs.Plain.{format_out, samples_at}
use Rattle.play_forms.specs.Plans.{PlanValue}
use Rattle.play_world_laws.proofs.Lengths.{at_all}
use Rattle.play_plan_laws.specs.Casting.{cast_of, joint_of, place_of, turn_of}
use Rattle.play_plan_laws.proofs.Links.{one_output, some_input}
use Rattle.play_plan_laws.specs.Assemblies.{IsReady, PlayFiles}
use Rattle.play_plan_laws.proofs.Lawful.{link_is}
use Rattle.play_result_laws.specs.Files.{AreSamples}
use Rattle.play_stream_laws.specs.Parts.{part_of}
use Rattle.play_stream_laws.proofs.Plain.{no_input, parts}
use Rattle.play_stream_laws.specs.Contents.{network_of}
use Rattle.play_result_laws.specs.Contents.{contents_of, leads_to, samples_by}
use Rattle.play_result_laws.specs.Terms.{no_terms, terms_by}
use Rattle.play_result_laws.proofs.Files.{source_file, source_output}
use Rattle.play_result_laws.proofs.Ports.{IsAtInput, at_input, at_output, formats_get, formats_many, sized, terms_frames, terms_lawful}
use Rattle.play_result_laws.proofs.Turns.{IsSeat, no_terms_is, none_at, part_is, seat_at, seat_of, terms_is, turn_is}

-- a source of nothing
none_is : IsPart (part_of no_terms)
none_is = record { joins = λ frames more first second H K output. refl; sized = λ frames x H output. H.file refl }

times_none : (n : ℕ) → n * 0 ≡ 0
times_none n = omega arith

module _ (plan : PlanValue) (files : PlayFiles) (samples : List (List ℕ)) (R : IsReady plan files) where
  abbrev k : Contents
  k = (contents_of plan files samples).model

  -- ---- a component

  module _ (c place : ℕ) (part : PartLine) (S : IsSeat plan c place part) where
    abbrev t : Terms
    t = terms_by plan files place part

    abbrev shape : Shape
    shape = shape_of t

    pub part_of_is : k.part c ≡ part_of (terms_by plan files place part)
    part_of_is = ap part_of (terms_is plan files c place part S)

    pub inputs_are : (shape_of (terms_by plan files place part)).inputs ≡ inputs_of (kind_of part.form)
    inputs_are = sym (terms_frames plan files R place part S.there).input_count ∙ formats_many (inputs_of (kind_of part.form)) (format_into plan.joints plan.flows place)

    pub model_inputs : (k.part c).inputs ≡ inputs_of (kind_of part.form)
    model_inputs = ap (λ (p : Part). p.inputs) part_of_is ∙ inputs_are

    pub link_in : (input : ℕ) → input < (k.part c).inputs → IsAtInput plan place input
    link_in input l = let n = model_inputs in at_input plan files R place part S.there input (omega arith)

    -- the link at an input
    pub input_is : (input : ℕ) (l : input < (k.part c).inputs) → k.input c input ≡ (link_in input l).link
    input_is input l = ap (λ (p : ℕ). position_or_len (leads_to p input) plan.joints) S.place_is ∙ (link_in input l).position

    pub input_unit : (input : ℕ) (l : input < (k.part c).inputs) → k.unit (link_in input l).link ≡ (k.part c).input_frame
    input_unit input l =
        let n = model_inputs in
        let Z = link_in input l in
        let F = at_all (IsFrame shape.channels shape.input_frame) t.inputs input (format_into plan.joints plan.flows place input) (terms_frames plan files R place part S.there).input (formats_get (inputs_of (kind_of part.form)) (format_into plan.joints plan.flows place) input (omega arith)) in
        ap frame_bytes_of (sym Z.format) ∙ (F.size ∙ ap (λ (p : Part). p.input_frame) (sym part_of_is))

    -- the bytes of a frame of an output
    pub output_frame_is : (number : ℕ) → number < outputs_of (kind_of part.form) → frame_bytes_of (format_out plan place (kind_of part.form) number) ≡ (k.part c).output_frame
    output_frame_is number l =
        let F = at_all (IsFrame shape.channels shape.output_frame) t.outputs number (format_out plan place (kind_of part.form) number) (terms_frames plan files R place part S.there).output (formats_get (outputs_of (kind_of part.form)) (format_out plan place (kind_of part.form)) number l) in
        F.size ∙ ap (λ (p : Part). p.output_frame) (sym part_of_is)

    part_lawful : IsPart (k.part c)
    part_lawful = subst IsPart (sym part_of_is) (parts (terms_by plan files place part) (sized plan files R place part S.there) (terms_lawful plan files R place part S.there))

  -- ---- a number beyond the components

  module _ (c : ℕ) (l : length plan.parts ≤ c) where
    pub no_part_is : k.part c ≡ part_of no_terms
    no_part_is = ap part_of (no_terms_is plan files c R.valid l)

    no_file_is : k.file c ≡ []
    no_file_is = ap (samples_by plan samples (place_of plan c)) (none_at plan R.valid c l)

  -- ---- all

  within : (c : ℕ) → nat_le (length plan.parts) c ≡ false → c < length plan.parts
  within c h = leb-false (length plan.parts) c h

  all_lawful : (c : ℕ) → IsPart (k.part c)
  all_lawful c = either (nat_le (length plan.parts) c)
      (λ h. subst IsPart (sym (no_part_is c (leb-true (length plan.parts) c h))) none_is)
      (λ h. let s = seat_at plan R.valid c (within c h) in part_lawful c (place_of plan c) s.0 s.1)

  module _ (by_output : ℕ → Bool) where
    abbrev net : Network
    net = network_of (cast_of by_output plan)

    all_inputs : (c i : ℕ) → i < (k.part c).inputs → IsInput net c (k.input c i) × (k.unit (k.input c i) ≡ (k.part c).input_frame)
    all_inputs c i l = either (nat_le (length plan.parts) c)
        (λ h. let none = ap (λ (p : Part). p.inputs) (no_part_is c (leb-true (length plan.parts) c h)) in absurd (omega arith))
        (λ h.
        let s = seat_at plan R.valid c (within c h) in
        let Z = link_in c (place_of plan c) s.0 s.1 i l in
        let e = input_is c (place_of plan c) s.0 s.1 i l in
        let taken : IsInput net c Z.link = record { below = Z.below; taken_by = ap (turn_of plan) Z.taker ∙ turn_is plan R.valid c (place_of plan c) s.0 s.1 } in
        (subst (IsInput net c) (sym e) taken, ap k.unit e ∙ input_unit c (place_of plan c) s.0 s.1 i l))

    all_outputs : (l : ℕ) → l < length plan.joints → k.unit l ≡ (k.part (net.giver l)).output_frame
    all_outputs l b =
        let K = link_is plan files R l b in
        let part : PartLine = K.part false in
        let place : ℕ = (joint_of plan l).giver in
        let port : ℕ = (joint_of plan l).output in
        let kind : Kind = kind_of part.form in
        let s = seat_of plan R.valid place part (K.part_there false) in
        let ends = both_of (nat_le (inputs_of kind) port) _ K.has_out in
        let low = leb-true (inputs_of kind) port ends.0 in
        let high = ltb-true port (ports_in kind) ends.1 in
        let number : ℕ = port - inputs_of kind in
        let Z = at_output plan files R place part (K.part_there false) number (omega arith) in
        let port_is = Z.port in
        let M = link_is plan files R Z.link Z.below in
        let same : Z.link ≡ l = one_output plan R.valid Z.link l (joint_of plan l) (joint_of plan Z.link) M.there_joint K.there_joint Z.giver (omega arith) in
        ap k.unit (sym same) ∙ (ap frame_bytes_of (sym Z.format) ∙ output_frame_is (turn_of plan place) place part s.1 number (omega arith))

    all_others : (c : ℕ) → net.is_source c ≡ false → 0 < (k.part c).inputs
    all_others c h = either (nat_le (length plan.parts) c)
        (λ t. let z : true ≡ false = sym (ap (λ (b : Bool). b || (((cast_of by_output plan).layout).network).is_source c) t) ∙ h in absurd cc)
        (λ t.
        let s = seat_at plan R.valid c (within c t) in
        let kind : Kind = kind_of (s.0).form in
        let source : is_source kind ≡ false = sym (ap (passes_at is_source) (s.1).there) ∙ (sym (ap (λ (b : Bool). b || (((cast_of by_output plan).layout).network).is_source c) t) ∙ h) in
        let some = some_input kind (sized plan files R (place_of plan c) s.0 (s.1).there) source in
        let n = model_inputs c (place_of plan c) s.0 s.1 in
        omega arith)

    module _ (F : AreSamples plan files samples) where
      file_long : (c place : ℕ) (part : PartLine) → IsSeat plan c place part → is_source (kind_of part.form) ≡ true → length (k.file c) ≡ net.frames c * (k.part c).output_frame
      file_long c place part S h =
          let D = source_file plan files samples R F place part S.there h in
          let e = S.place_is in
          let p = part_is plan c place part S in
          let file : k.file c ≡ samples_at samples plan.parts place = λ i. samples_by plan samples (e i) (p i) in
          let frames : net.frames c ≡ (D.head).frames = ap (λ (n : ℕ). slice_index_or plan.frames n 0) e ∙ D.frames in
          let unit : (k.part c).output_frame ≡ frame_bytes_of (D.head).format = sym (output_frame_is c place part S 0 (source_output (kind_of part.form) h)) ∙ ap frame_bytes_of D.format in
          ap length file ∙ (D.long ∙ (λ i. sym frames i * sym unit i))

      all_sources : (c : ℕ) → net.is_source c ≡ true → ((k.part c).inputs ≡ 0) × (length (k.file c) ≡ net.frames c * (k.part c).output_frame)
      all_sources c h = either (nat_le (length plan.parts) c)
          (λ t.
          let l = leb-true (length plan.parts) c t in
          let unit : (k.part c).output_frame ≡ 0 = ap (λ (p : Part). p.output_frame) (no_part_is c l) in
          (ap (λ (p : Part). p.inputs) (no_part_is c l), ap length (no_file_is c l) ∙ (sym (times_none (net.frames c)) ∙ ap (λ (n : ℕ). net.frames c * n) (sym unit))))
          (λ t.
          let s = seat_at plan R.valid c (within c t) in
          let kind : Kind = kind_of (s.0).form in
          let source : is_source kind ≡ true = sym (ap (passes_at is_source) (s.1).there) ∙ (sym (ap (λ (b : Bool). b || (((cast_of by_output plan).layout).network).is_source c) t) ∙ h) in
          let terms : Terms = terms_by plan files (place_of plan c) s.0 in
          let none : (shape_of terms).inputs ≡ 0 = no_input terms.kind terms.inputs terms.outputs terms.factors source in
          (ap (λ (p : Part). p.inputs) (part_of_is c (place_of plan c) s.0 s.1) ∙ none, file_long c (place_of plan c) s.0 s.1 source))

      pub plan_contents : AreContents (network_of (cast_of by_output plan)) (contents_of plan files samples).model
      plan_contents = record { parts = all_lawful; inputs = all_inputs; outputs = all_outputs; sources = all_sources; others = all_others }
