-- The plan's plain function is the plain function of its network: what each giver makes of what it takes, where zeros behind the shorter
-- inputs of a mixer change nothing.
use Rattle.std.proofs.Common.{◌≡◌, ◌⊎◌, inl, inr, ℕ, zero, suc, ◌-◌, ◌*◌, ◌<◌, ◌≤◌, Bool, true, false, nat_lt, if◌then◌else◌, List, [], length, slice_get, Some, refl, sym, ◌∙◌, ap, subst, lt-ltb, ltb-true, arith}
use Rattle.std.proofs.lemmas.Option.{get_or_from_slice_get, slice_get-get_or}
use Rattle.std.proofs.Math.Nat.{mul-le-mul_right}
use Rattle.omx_types.specs.declared.kind.Kind.{Kind}
use Rattle.part_api.specs.Streams.{Incoming as PartIncoming}
use Rattle.part_api.specs.Terms.{Terms}
use Rattle.part_forms.specs.Kinds.{inputs_of, is_source}
use Rattle.part_forms.specs.Shapes.{shape_of}
use Rattle.script_lang.specs.declared.play_line.PartLine.{PartLine}
use Rattle.machine_laws.proofs.Finding.{either}
use Rattle.play_model.specs.Network.{IsInput, IsNetwork, Network}
use Rattle.play_model.specs.Content.{AreContents, ArePlain, Contents, HasFrames, Incoming, Part, padded, whole}
use Rattle.play_model.proofs.Streams.{length-padded}
use Rattle.play_forms.specs.declared.joint.Joint.{Joint}
use Rattle.play_forms.specs.Parts.{kind_of, passes_at}
use Rattle.play_forms.specs.Plain.{plain, samples_at, stream_at}
use Rattle.play_forms.specs.Plans.{PlanValue}
use Rattle.play_forms.specs.Settling.{into}
use Rattle.play_forms.proofs.Plainly.{plain_is}
use Rattle.play_world_laws.specs.Cast.{IsCast}
use Rattle.play_plan_laws.specs.Casting.{cast_of, joint_of, place_of, turn_of}
use Rattle.play_plan_laws.proofs.Casting.{plan_casts}
use Rattle.play_plan_laws.proofs.Casts.{plan_has_cast}
use Rattle.play_plan_laws.proofs.Limits.{in_limits}
use Rattle.play_plan_laws.specs.Assemblies.{IsReady, PlayFiles}
use Rattle.play_plan_laws.proofs.Lawful.{link_is, same_part}
use Rattle.play_result_laws.specs.Files.{AreSamples}
use Rattle.play_stream_laws.proofs.Padding.{plain_padded}
use Rattle.audio_parts.proofs.Plain.{plain_same}
use Rattle.play_stream_laws.specs.Contents.{network_of}
use Rattle.play_stream_laws.proofs.Bounded.{network_bounded, source_below}
use Rattle.play_result_laws.specs.Contents.{contents_of, samples_by, streams_of}
use Rattle.play_result_laws.specs.Terms.{terms_by}
use Rattle.play_result_laws.proofs.Contents.{input_is, input_unit, link_in, model_inputs, part_of_is, plan_contents}
use Rattle.play_result_laws.proofs.Finding.{both_true, into_found}
use Rattle.play_result_laws.proofs.Turns.{IsSeat, part_is, seat_of}

pub plan_is_cast : (plan : PlanValue) (files : PlayFiles) (by_output : ℕ → Bool) → IsReady plan files → IsCast (cast_of by_output plan)
plan_is_cast plan files by_output R =
    plan_casts plan files.heads (cast_of by_output plan) R.valid R.flows R.frames R.fit (in_limits plan files.heads R.valid R.flows R.fit R.scripted R.heads_are) (plan_has_cast plan by_output R.valid)

module _ (plan : PlanValue) (files : PlayFiles) (samples : List (List ℕ)) (R : IsReady plan files) (F : AreSamples plan files samples) (by_output : ℕ → Bool) where
  abbrev net : Network
  net = network_of (cast_of by_output plan)

  abbrev k : Contents
  k = (contents_of plan files samples).model

  abbrev stream : ℕ → List ℕ
  stream = streams_of plan samples

  abbrev values : List (List ℕ)
  values = plain plan samples

  L : AreContents net k
  L = plan_contents plan files samples R by_output F

  N : IsNetwork net
  N = network_bounded (((cast_of by_output plan).layout).network) (((plan_is_cast plan files by_output R).layout).network)

  there : (l : ℕ) → l < length plan.joints → slice_get values l ≡ Some (stream l)
  there l b = let m = (plain_is plan samples R.valid).many in slice_get-get_or values l [] (omega arith)

  -- ---- a component

  module _ (c place : ℕ) (part : PartLine) (S : IsSeat plan c place part) (b : c < length plan.parts) where
    abbrev t : Terms
    t = terms_by plan files place part

    abbrev kind : Kind
    kind = kind_of part.form

    -- what comes in by the plan
    abbrev came : PartIncoming
    came = record { input = into [] plan.joints values place; file = samples_at samples plan.parts place }

    abbrev size : ℕ
    size = net.frames c * (k.part c).input_frame

    pub source_is : net.is_source c ≡ is_source kind
    source_is =
        let at : slice_get plan.parts (place_of plan c) ≡ Some part = ap (slice_get plan.parts) S.place_is ∙ S.there in
        source_below (((cast_of by_output plan).layout).network) c b ∙ ap (passes_at is_source) at

    pub into_is : (i : ℕ) (l : i < (k.part c).inputs) → into [] plan.joints values place i ≡ stream (link_in plan files samples R c place part S i l).link
    into_is i l =
        let Z = link_in plan files samples R c place part S i l in
        let K = link_is plan files R Z.link Z.below in
        into_found [] plan.joints values place i Z.link (joint_of plan Z.link) (stream Z.link) K.there_joint (there Z.link Z.below)
        (both_true (joint_of plan Z.link).taker place (joint_of plan Z.link).input i Z.taker Z.port) Z.only

    input_stream : (i : ℕ) → i < (k.part c).inputs → stream (k.input c i) ≡ into [] plan.joints values place i
    input_stream i l = ap stream (input_is plan files samples R c place part S i l) ∙ sym (into_is i l)

    file_is : net.is_source c ≡ true → k.file c ≡ samples_at samples plan.parts place
    file_is h =
        let e = S.place_is in
        let p = part_is plan c place part S in
        λ i. samples_by plan samples (e i) (p i)

    -- the inputs have the streams of earlier components
    module _ (before : (j : ℕ) → j < length plan.joints → net.giver j < c → length (stream j) ≡ net.frames (net.giver j) * k.unit j) where
      link_long : (j : ℕ) → IsInput net c j → length (stream j) ≡ net.frames (net.giver j) * k.unit j
      link_long j I =
          let order = N.order j I.below in
          let taker = I.taken_by in
          before j I.below (omega arith)

      input_long : (i : ℕ) → i < (k.part c).inputs → length (into [] plan.joints values place i) ≤ size
      input_long i l =
          let I = (L.inputs c i l).0 in
          let unit = (L.inputs c i l).1 in
          let frames = N.frames (k.input c i) I.below in
          let taker = I.taken_by in
          let few : net.frames (net.giver (k.input c i)) ≤ net.frames c = subst (λ (d : ℕ). net.frames (net.giver (k.input c i)) ≤ net.frames d) taker frames in
          let long = link_long (k.input c i) I in
          let less : net.frames (net.giver (k.input c i)) * (k.part c).input_frame ≤ size = mul-le-mul_right (k.part c).input_frame few in
          let is : length (into [] plan.joints values place i) ≡ net.frames (net.giver (k.input c i)) * (k.part c).input_frame = ap length (sym (input_stream i l)) ∙ (long ∙ ap (λ (u : ℕ). net.frames (net.giver (k.input c i)) * u) unit) in
          omega arith

      pub one_long : net.is_source c ≡ false → (i : ℕ) × (i < (k.part c).inputs) × (length (into [] plan.joints values place i) ≡ size)
      one_long h =
          let r = N.longest c b h in
          let l : ℕ = r.0 in
          let I = r.1 in
          let K = link_is plan files R l I.below in
          let J : Joint = joint_of plan l in
          let taker : J.taker ≡ place = at_taker l I in
          let same = same_part plan.parts _ _ (K.part true) part (K.part_there true) S.there taker in
          let low : J.input < inputs_of kind = ltb-true J.input (inputs_of kind) (ap (λ (p : PartLine). nat_lt J.input (inputs_of (kind_of p.form))) (sym same) ∙ K.has_in) in
          let many = model_inputs plan files samples R c place part S in
          let inside : J.input < (k.part c).inputs = omega arith in
          let Z = link_in plan files samples R c place part S J.input inside in
          let one : l ≡ Z.link = Z.only l J K.there_joint (both_true J.taker place J.input J.input taker refl) in
          let unit = input_unit plan files samples R c place part S J.input inside in
          let long = link_long l I in
          (J.input, inside, ap length (into_is J.input inside ∙ ap stream (sym one)) ∙ (long ∙ (λ i. (r.2) i * (ap k.unit one ∙ unit) i)))
        where
          at_taker : (l : ℕ) → IsInput net c l → (joint_of plan l).taker ≡ place
          at_taker l I =
              let K = link_is plan files R l I.below in
              let s = seat_of plan R.valid (joint_of plan l).taker (K.part true) (K.part_there true) in
              sym (s.1).place_is ∙ (ap (place_of plan) I.taken_by ∙ S.place_is)

      abbrev in_all : Incoming
      in_all = whole net k stream c

      in_all_is : (i : ℕ) → i < (k.part c).inputs → in_all.input i ≡ padded size (into [] plan.joints values place i)
      in_all_is i l =
          ap (λ (z : Bool). if z then padded size (stream (k.input c i)) else []) (lt-ltb i (k.part c).inputs l)
          ∙ ap (padded size) (input_stream i l)

      in_all_file : net.is_source c ≡ true → in_all.file ≡ samples_at samples plan.parts place
      in_all_file h = ap (λ (z : Bool). if z then k.file c else []) h ∙ file_is h

      -- the zeros change nothing
      gives_same : (output : ℕ) → (k.part c).plain in_all output ≡ (shape_of t).plain came output
      gives_same output =
          let many = ap (λ (p : Part). p.inputs) (part_of_is plan files samples R c place part S) in
          let pads : PartIncoming = record { input = λ i. padded size (came.input i); file = came.file } in
          ap (λ (p : Part). p.plain in_all output) (part_of_is plan files samples R c place part S)
          ∙ (plain_same t (record { input = in_all.input; file = in_all.file }) pads output
          (λ i l. in_all_is i (omega arith)) (λ h. in_all_file (source_is ∙ h))
          ∙ plain_padded t size came output (λ i l. input_long i (omega arith))
          (λ h. let o = one_long (source_is ∙ h) in let low = o.1 in (o.0, omega arith, o.2)))

      in_all_frames : HasFrames (k.part c) (net.frames c) in_all
      in_all_frames = record {
        input = λ i l. ap length (in_all_is i l) ∙ length-padded size (into [] plan.joints values place i) (input_long i l);
        file = λ none. either (net.is_source c)
            (λ h. ap (λ (z : Bool). length (if z then k.file c else [])) h ∙ (L.sources c h).1)
            (λ h. let some = L.others c h in absurd (omega arith));
      }

  -- ---- a link

  -- by turns
  abbrev Before : ℕ → Type 0
  Before n = (j : ℕ) → j < length plan.joints → net.giver j < n → length (stream j) ≡ net.frames (net.giver j) * k.unit j

  stream_is : (l : ℕ) → l < length plan.joints → Before (net.giver l) → stream l ≡ (k.part (net.giver l)).plain (whole net k stream (net.giver l)) (k.output l)
  stream_is l b before =
      let K = link_is plan files R l b in
      let J : Joint = joint_of plan l in
      let part : PartLine = K.part false in
      let place : ℕ = J.giver in
      let s = seat_of plan R.valid place part (K.part_there false) in
      let c : ℕ = turn_of plan place in
      let given = (plain_is plan samples R.valid).each l J K.there_joint in
      let is : stream l ≡ stream_at plan samples (slice_get plan.parts place) place (into [] plan.joints values place) J.output = get_or_from_slice_get values l _ [] given in
      let at = ap (λ p. stream_at plan samples p place (into [] plan.joints values place) J.output) (K.part_there false) in
      let output : k.output l ≡ J.output - inputs_of (kind_of part.form) = ap (λ (n : ℕ). J.output - n) (model_inputs plan files samples R c place part s.1) in
      is ∙ (at ∙ (ap ((shape_of (terms_by plan files place part)).plain (record { input = into [] plan.joints values place; file = samples_at samples plan.parts place })) (sym output)
      ∙ sym (gives_same c place part s.1 s.0 before (k.output l))))

  stream_sized : (l : ℕ) → l < length plan.joints → Before (net.giver l) → length (stream l) ≡ net.frames (net.giver l) * k.unit l
  stream_sized l b before =
      let K = link_is plan files R l b in
      let part : PartLine = K.part false in
      let place : ℕ = (joint_of plan l).giver in
      let s = seat_of plan R.valid place part (K.part_there false) in
      let c : ℕ = turn_of plan place in
      ap length (stream_is l b before)
      ∙ ((L.parts c).sized (net.frames c) (whole net k stream c) (in_all_frames c place part s.1 s.0 before) (k.output l)
      ∙ ap (λ (u : ℕ). net.frames c * u) (sym (L.outputs l b)))

  pub all_before : (n : ℕ) → Before n
  all_before zero j b l = absurd (omega arith)
  all_before (suc n) j b l = elim (at_last (net.giver j) n l) [
    | inl h ↦ all_before n j b h
    | inr h ↦ stream_sized j b (subst Before (sym h) (all_before n))
  ]
    where
      at_last : (a m : ℕ) → a < suc m → (a < m) ⊎ (a ≡ m)
      at_last zero zero l = inr refl
      at_last zero (suc m) l = inl (omega arith)
      at_last (suc a) zero l = absurd (omega arith)
      at_last (suc a) (suc m) l = elim (at_last a m (omega arith)) [ inl h ↦ inl (omega arith) | inr h ↦ inr (ap suc h) ]

  pub plan_plain : ArePlain (network_of (cast_of by_output plan)) (contents_of plan files samples).model (streams_of plan samples)
  plan_plain l b = stream_is l b (all_before (net.giver l))

  -- the length of each link's stream
  pub plan_long : (l : ℕ) → l < length plan.joints → length (streams_of plan samples l) ≡ (network_of (cast_of by_output plan)).frames ((network_of (cast_of by_output plan)).giver l) * (contents_of plan files samples).model.unit l
  plan_long l b = stream_sized l b (all_before (net.giver l))
