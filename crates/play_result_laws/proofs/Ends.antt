-- What the file of a plan's sink is to take is its text of the plain function.
use Rattle.std.proofs.Common.{◌≡◌, ℕ, ◌+◌, ◌*◌, ◌/◌, ◌%◌, ◌<◌, Bool, true, false, List, [], ◌++◌, length, length-append, get_or, slice_get, slice_index_or, Some, refl, sym, ◌∙◌, ap, subst, option_map, arith}
use Rattle.omx_types.specs.declared.format.Format.{Format}
use Rattle.omx_types.specs.declared.format.Format.TheVariants.{Auto}
use Rattle.omx_types.specs.declared.format.Format.TheVariants as formats
use Rattle.omx_types.specs.declared.kind.Kind.{Kind}
use Rattle.omx_types.specs.declared.kind.Kind.TheVariants as kinds
use Rattle.omx_types.specs.Formats.{IsWithinLimits, frame_bytes_of}
use Rattle.part_forms.specs.Kinds.{inputs_of, is_source, outputs_of}
use Rattle.part_forms.specs.Writing.{head_len, head_of, pad_of, written}
use Rattle.il_machine.specs.Files.{attached}
use Rattle.il_machine.specs.Kinds.{is_sink}
use Rattle.script_lang.specs.declared.play_line.PartForm.{PartForm}
use Rattle.script_lang.specs.declared.play_line.PartForm.TheVariants as forms
use Rattle.script_lang.specs.declared.play_line.PartLine.{PartLine}
use Rattle.play_model.specs.Content.{Contents}
use Rattle.play_forms.specs.Fitting.{format_into}
use Rattle.play_forms.specs.Parts.{kind_of, passes_at, source_number}
use Rattle.play_forms.specs.Plain.{format_out, formats_of, plain, sink_text}
use Rattle.play_forms.specs.Plans.{PlanValue}
use Rattle.play_forms.specs.Settling.{into}
use Rattle.play_world_laws.specs.Cast.{Cast, script_place, taker_of}
use Rattle.play_plan_laws.specs.Casting.{cast_of, place_of, turn_of}
use Rattle.play_plan_laws.specs.Assemblies.{IsReady, PlayFiles, file_of, kind_in}
use Rattle.play_plan_laws.proofs.Lawful.{link_is}
use Rattle.play_result_laws.specs.Files.{AreSamples, written_by}
use Rattle.play_stream_laws.specs.Sunk.{sunk}
use Rattle.play_stream_laws.proofs.Sinks.{sunk_whole}
use Rattle.play_stream_laws.specs.Fronts.{whole_text}
use Rattle.play_stream_laws.specs.Streams.{sunk_by, sunk_of}
use Rattle.play_result_laws.specs.Contents.{contents_of, streams_of}
use Rattle.play_result_laws.specs.Terms.{terms_by, terms_in}
use Rattle.play_result_laws.specs.Texts.{size_of}
use Rattle.play_result_laws.proofs.Contents.{input_unit, link_in, model_inputs}
use Rattle.play_result_laws.proofs.Plainly.{all_before, into_is, one_long, source_is}
use Rattle.play_result_laws.proofs.Ports.{IsAtInput}
use Rattle.play_result_laws.proofs.Turns.{IsSeat, seat_of, terms_is}

sink_form : (form : PartForm) (name : List ℕ) → written_by form ≡ Some name → kind_of form ≡ kinds.Sink
sink_form (forms.Sink file) name h = refl
sink_form (forms.Source file) name h = absurd cc
sink_form (forms.Late file) name h = absurd cc
sink_form forms.Decoder name h = absurd cc
sink_form forms.Alaw name h = absurd cc
sink_form forms.Mulaw name h = absurd cc
sink_form (forms.Gain gain) name h = absurd cc
sink_form (forms.Mixer weights) name h = absurd cc
sink_form (forms.Splitter outputs) name h = absurd cc

-- how long a written file is
length_head : (format : Format) (frames : ℕ) → length (head_of format frames) ≡ head_len format
length_head (formats.Pcm rate channels) frames = refl
length_head (formats.Alaw rate channels) frames = refl
length_head (formats.Mulaw rate channels) frames = refl
length_head formats.Auto frames = refl

length_pad : (size : ℕ) → length (pad_of size) ≡ size % 2
length_pad size = grind arith

length_written : (format : Format) (bytes : List ℕ) → length (written format bytes) ≡ head_len format + length bytes + length bytes % 2
length_written format bytes =
    let frames = length bytes / frame_bytes_of format in
    omega (arith, length-append (head_of format frames ++ bytes) (pad_of (length bytes)), length-append (head_of format frames) bytes, length_head format frames, length_pad (length bytes))

-- a link into a sink, and what goes through it
pub record IsSinkLink (plan : PlanValue) (files : PlayFiles) (samples : List (List ℕ)) (by_output : ℕ → Bool) (place : ℕ) : Type 0 where
  pub link : ℕ
  pub below : link < length plan.joints
  pub inside : taker_of (cast_of by_output plan) link < length plan.parts
  pub sink : ((cast_of by_output plan).layout).is_sink (taker_of (cast_of by_output plan) link) ≡ true
  pub at : script_place (cast_of by_output plan) (taker_of (cast_of by_output plan) link) ≡ place
  pub text : whole_text (cast_of by_output plan) (contents_of plan files samples) link (streams_of plan samples link) ≡ sink_text plan samples place

module _ (plan : PlanValue) (files : PlayFiles) (samples : List (List ℕ)) (R : IsReady plan files) (F : AreSamples plan files samples) (by_output : ℕ → Bool) where
  abbrev x : Cast
  x = cast_of by_output plan

  abbrev k : Contents
  k = (contents_of plan files samples).model

  abbrev values : List (List ℕ)
  values = plain plan samples

  module _ (place : ℕ) (part : PartLine) (name : List ℕ) (e : slice_get plan.parts place ≡ Some part) (w : written_by part.form ≡ Some name) where
    kind_is : kind_of part.form ≡ kinds.Sink
    kind_is = sink_form part.form name w

    abbrev c : ℕ
    c = turn_of plan place

    seat : (c < length plan.parts) × IsSeat plan c place part
    seat = seat_of plan R.valid place part e

    S : IsSeat plan c place part
    S = seat.1

    abbrev format : Format
    format = format_into plan.joints plan.flows place 0

    abbrev planned : ℕ
    planned = slice_index_or plan.frames place 0

    -- what a step of its file writes is told by its first input and its file
    abbrev sunk_at : Kind → Kind → ℕ → List ℕ → List ℕ
    sunk_at kind own frames bytes =
        sunk_by (option_map attached (file_of own (slice_get files.heads (source_number plan.parts place)) planned (files.there place) (files.known place)))
        (get_or (formats_of (inputs_of kind) (format_into plan.joints plan.flows place) ++ formats_of (outputs_of kind) (format_out plan place kind)) 0 Auto) frames bytes

    sunk_is : (frames : ℕ) (bytes : List ℕ) → sunk_of (terms_by plan files place part) frames bytes ≡ sunk format planned frames bytes
    sunk_is frames bytes =
        let q = kind_is in
        let r : kind_in (slice_get plan.parts place) ≡ kinds.Sink = ap kind_in e ∙ kind_is in
        λ i. sunk_at (q i) (r i) frames bytes

    one : (k.part c).inputs ≡ 1
    one = model_inputs plan files samples R c place part S ∙ ap inputs_of kind_is

    low : 0 < (k.part c).inputs
    low = let n = one in omega arith

    Z : IsAtInput plan place 0
    Z = link_in plan files samples R c place part S 0 low

    abbrev stream : List ℕ
    stream = into [] plan.joints values place 0

    stream_is : streams_of plan samples Z.link ≡ stream
    unfolding Z
    stream_is = sym (into_is plan files samples R F by_output c place part S seat.0 0 low)

    frames_are : ((x.layout).network).frames c ≡ planned
    frames_are = ap (λ (p : ℕ). slice_index_or plan.frames p 0) S.place_is

    not_source : is_source (kind_of part.form) ≡ false
    not_source = ap is_source kind_is

    stream_long : length stream ≡ planned * frame_bytes_of format
    unfolding Z
    stream_long =
        let r = one_long plan files samples R F by_output c place part S seat.0 (all_before plan files samples R F by_output c) (source_is plan files samples R F by_output c place part S seat.0 ∙ not_source) in
        let n = one in
        let few = r.1 in
        let first : r.0 ≡ 0 = omega arith in
        let unit : (k.part c).input_frame ≡ frame_bytes_of format = sym (input_unit plan files samples R c place part S 0 low) ∙ ap frame_bytes_of (sym Z.format) in
        ap (λ (i : ℕ). length (into [] plan.joints values place i)) (sym first) ∙ (r.2 ∙ (λ i. frames_are i * unit i))

    pub text_long : length (sink_text plan samples place) ≡ size_of format planned
    text_long = length_written format stream ∙ (λ i. head_len format + stream_long i + stream_long i % 2)

    limits : IsWithinLimits format
    limits = let K = link_is plan files R Z.link Z.below in subst IsWithinLimits (sym Z.format) (K.lawful).format

    taker_is : taker_of x Z.link ≡ c
    taker_is = ap (turn_of plan) Z.taker

    text_is : whole_text x (contents_of plan files samples) Z.link (streams_of plan samples Z.link) ≡ sink_text plan samples place
    text_is =
        (λ i. sunk_of (terms_in plan files (taker_is i)) (((x.layout).network).frames (taker_is i)) (stream_is i))
        ∙ ((λ i. sunk_of (terms_is plan files c place part S i) (frames_are i) stream)
        ∙ (sunk_is planned stream ∙ sunk_whole format planned stream limits stream_long))

    pub sink_link : IsSinkLink plan files samples by_output place
    sink_link = record {
      link = Z.link;
      below = Z.below;
      inside = let l = seat.0 in let t = taker_is in omega arith;
      sink = ap (x.layout).is_sink taker_is ∙ (ap (λ (p : ℕ). passes_at is_sink (slice_get plan.parts p)) S.place_is ∙ (ap (passes_at is_sink) e ∙ ap is_sink kind_is));
      at = ap (place_of plan) taker_is ∙ S.place_is;
      text = text_is;
    }
