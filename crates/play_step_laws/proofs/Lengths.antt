-- The bytes of a step in a play: its part's frames are those of its links, and each header gets whole frames.
use Rattle.std.proofs.Common.{◌≡◌, ℕ, zero, suc, ◌+◌, ◌-◌, ◌<◌, Bool, true, false, not, ◌&&◌, nat_lt, nat_le, List, [], ◌∷◌, length, take, get_or, slice_get, Some, option_map, refl, sym, ◌∙◌, ap, subst, lt-ltb, le-ltb, ltb-false, leb-true, arith}
use Rattle.std.specs.List.{AllByRecursion, list_all}
use Rattle.std.proofs.lemmas.List.{take-append-drop, get_or_append_left, length-replicate, length-drop, length-map}
use Rattle.std.proofs.lemmas.Option.{slice_get-map, slice_get_within, slice_get-get_or}
use Rattle.omx_types.specs.declared.format.Format.{Format}
use Rattle.omx_types.specs.declared.format.Format.TheVariants.{Auto}
use Rattle.omx_types.specs.declared.kind.Kind.{Kind}
use Rattle.omx_types.specs.declared.kind.Kind.TheVariants as kinds
use Rattle.omx_types.specs.Formats.{IsWithinLimits, frame_bytes_of, rate_of, channels_of}
use Rattle.part_api.specs.Streams.{Shape}
use Rattle.part_api.specs.Terms.{Terms}
use Rattle.part_forms.specs.Shapes.{shape_of}
use Rattle.audio_parts.specs.Kinds.{MayBe, default_factors}
use Rattle.audio_parts.specs.Ready.{AreFitting}
use Rattle.audio_parts.specs.Shapes.{IsFrame, IsLawful, HasFramesOf}
use Rattle.audio_parts.proofs.PortFrames.{has_frames}
use Rattle.il_machine.specs.declared.port.Port.{Port}
use Rattle.il_machine.specs.declared.port.PortSetting.{PortSetting}
use Rattle.il_machine.specs.Kinds.{inputs_of, outputs_of, is_auto, is_input}
use Rattle.il_machine.specs.Parts.{factors_by}
use Rattle.il_machine.specs.Settings.{are_fitting, formats_of, is_known, is_within_limits, is_between, weights_in}
use Rattle.il_machine.specs.Sound.{IsLawfulSetting}
use Rattle.il_machine.specs.World.{Component, Work, World, port_of}
use Rattle.il_machine.specs.Claims.{terms_in}
use Rattle.il_machine.specs.Stepping.{format_at}
use Rattle.machine_laws.proofs.Accepting.{both_of}
use Rattle.machine_laws.proofs.Fitting.{all_known, fit_alike, fit_splitter, known_format}
use Rattle.machine_laws.proofs.Lookups.{port_parts}
use Rattle.machine_laws.proofs.Parts.{parts_of}
use Rattle.machine_laws.proofs.Tunnels.{definition_parts}
use Rattle.play_model.specs.Play.{Play}
use Rattle.play_world_laws.specs.Cast.{Cast, script_place}
use Rattle.play_world_laws.proofs.Lists.{get_there}
use Rattle.play_world_laws.proofs.Rooms.{port_of_state}
use Rattle.play_world_laws.proofs.Resting.{all_true}
use Rattle.play_world_laws.proofs.Wanted.{IsLinkAt, end_at}
use Rattle.play_step_laws.proofs.Worked.{inputs_many, direction_is}
use Rattle.play_world_laws.proofs.Lengths.{at_all, drop_at}
use Rattle.play_step_laws.proofs.Poised.{IsPoised}
use Rattle.play_world_laws.specs.Worlds.{IsWork}

-- ---- lists

all_by : {X : Type 0} (P : X → Type 0) (xs : List X) → ((i : ℕ) (y : X) → slice_get xs i ≡ Some y → P y) → AllByRecursion P xs
all_by P [] h = tt
all_by P (y ∷ xs) h = (h 0 y refl, all_by P xs (λ i z e. h (suc i) z e))

take_at : {X : Type 0} (n : ℕ) (xs : List X) (i : ℕ) (y : X) → slice_get (take n xs) i ≡ Some y → (i < n) × (slice_get xs i ≡ Some y)
take_at zero xs i y e = absurd cc
take_at (suc n) [] i y e = absurd cc
take_at (suc n) (z ∷ xs) zero y e = (omega arith, e)
take_at (suc n) (z ∷ xs) (suc i) y e = let r = take_at n xs i y e in (omega (arith, r.0), r.1)

-- ---- formats

limits_of : (f : Format) → is_within_limits f ≡ true → is_auto f ≡ false → IsWithinLimits f
limits_of f h a =
    let x : (is_between 1 768000 (rate_of f) && is_between 1 8 (channels_of f)) ≡ true = rw a at h in
    let y = both_of (is_between 1 768000 (rate_of f)) (is_between 1 8 (channels_of f)) x in
    let r = both_of (nat_le 1 (rate_of f)) (nat_le (rate_of f) 768000) y.0 in
    let n = both_of (nat_le 1 (channels_of f)) (nat_le (channels_of f) 8) y.1 in
    record { some_rate = leb-true 1 (rate_of f) r.0; rate = leb-true (rate_of f) 768000 r.1; some_channel = leb-true 1 (channels_of f) n.0; channels = leb-true (channels_of f) 8 n.1 }

fitting : (kind : Kind) (fs : List Format) → are_fitting kind fs ≡ true → AreFitting kind fs
fitting kind [] h = tt
fitting kinds.Source (f ∷ fs) h = fit_alike kinds.Source f fs h
fitting kinds.Late (f ∷ fs) h = fit_alike kinds.Late f fs h
fitting kinds.Decoder (f ∷ fs) h = fit_alike kinds.Decoder f fs h
fitting kinds.Alaw (f ∷ fs) h = fit_alike kinds.Alaw f fs h
fitting kinds.Mulaw (f ∷ fs) h = fit_alike kinds.Mulaw f fs h
fitting kinds.Gain (f ∷ fs) h = fit_alike kinds.Gain f fs h
fitting (kinds.Mixer inputs) (f ∷ fs) h = fit_alike (kinds.Mixer inputs) f fs h
fitting (kinds.Splitter outputs) (f ∷ fs) h = fit_splitter outputs f fs h
fitting kinds.Sink (f ∷ fs) h = fit_alike kinds.Sink f fs h

factor_many : (k : Kind) (gain : ℕ) (weights : List ℕ) → length weights ≡ weights_in k → length (factors_by k gain weights) ≡ length (default_factors k)
factor_many kinds.Source gain weights e = refl
factor_many kinds.Late gain weights e = refl
factor_many kinds.Decoder gain weights e = refl
factor_many kinds.Alaw gain weights e = refl
factor_many kinds.Mulaw gain weights e = refl
factor_many kinds.Gain gain weights e = refl
factor_many (kinds.Mixer inputs) gain weights e = e ∙ sym (length-replicate inputs 4096)
factor_many (kinds.Splitter outputs) gain weights e = refl
factor_many kinds.Sink gain weights e = refl

module _ (x : Cast) (p : Play) (w : World) (c : ℕ) (a : Component) (U : IsPoised x p w c a) (work : Work) (f : a.work ≡ Some work) (J : IsWork x p c a work) where
  abbrev t : Terms
  t = terms_in a work

  abbrev kind : Kind
  kind = a.settings.kind

  abbrev fs : List Format
  fs = formats_of a.settings.ports

  abbrev inputs : ℕ
  inputs = inputs_of kind

  abbrev shape : Shape
  shape = shape_of t

  setting_port : (i : ℕ) (st : PortSetting) → slice_get a.settings.ports i ≡ Some st → (q : Port) × (port_of a i ≡ Some q) × (q.setting ≡ st)
  setting_port i st g =
      let S = (parts_of w U.sound).components (script_place x c) a U.there in
      let m = (S.whole).ports in
      let k = S.ports in
      let l = slice_get_within a.settings.ports i st g in
      let s = get_there a.ports i (omega arith) in
      let q = port_of_state w (script_place x c) i a s.0 U.sound U.there s.1 in
      let z : Some (q.0).setting ≡ Some st = sym (port_parts a i q.0 q.1).setting ∙ g in
      (q.0, q.1, cc)

  setting_known : (i : ℕ) (st : PortSetting) → slice_get a.settings.ports i ≡ Some st → is_auto st.definition.format ≡ false
  setting_known i st g =
      let q = setting_port i st g in
      let P = U.ports i q.0 q.1 in
      ap (λ (z : PortSetting). is_auto z.definition.format) (sym q.2) ∙ (P.end).known

  format_setting : (i : ℕ) (fmt : Format) → slice_get fs i ≡ Some fmt → (st : PortSetting) × (slice_get a.settings.ports i ≡ Some st) × (st.definition.format ≡ fmt)
  format_setting i fmt g =
      let n = slice_get_within fs i fmt g in
      let m = length-map a.settings.ports (λ (z : PortSetting). z.definition.format) in
      let s = get_there a.settings.ports i (omega arith) in
      let z : Some (s.0).definition.format ≡ Some fmt = sym (slice_get-map (λ (z : PortSetting). z.definition.format) a.settings.ports i ∙ ap (option_map (λ (z : PortSetting). z.definition.format)) s.1) ∙ g in
      (s.0, s.1, cc)

  may : (i : ℕ) (fmt : Format) → slice_get fs i ≡ Some fmt → MayBe kind (is_input kind i) fmt
  may i fmt g =
      let s = format_setting i fmt g in
      let k = setting_known i s.0 s.1 in
      let S = (parts_of w U.sound).components (script_place x c) a U.there in
      let L : IsLawfulSetting a.settings i s.0 = S.settings i s.0 s.1 in
      subst (λ (z : Format). MayBe kind (is_input kind i) z) s.2 (record {
        allowed = known_format kind (is_input kind i) (s.0).definition.format L.1 k;
        limits = limits_of (s.0).definition.format (definition_parts (is_input kind i) (s.0).definition L.0).limits k;
      })

  formats_many : length fs ≡ inputs + outputs_of kind
  formats_many =
      let S = (parts_of w U.sound).components (script_place x c) a U.there in
      let m = (S.whole).ports in
      length-map a.settings.ports (λ (z : PortSetting). z.definition.format) ∙ m

  pub lawful : IsLawful t
  lawful =
      let S = (parts_of w U.sound).components (script_place x c) a U.there in
      record {
        inputs = all_by (MayBe kind true) t.inputs (λ i fmt g.
            let r = take_at inputs fs i fmt g in
            subst (λ (z : Bool). MayBe kind z fmt) (lt-ltb i inputs r.0) (may i fmt r.1));
        outputs = all_by (MayBe kind false) t.outputs (λ i fmt g.
            let at : slice_get fs (inputs + i) ≡ Some fmt = sym (drop_at inputs fs i) ∙ g in
            subst (λ (z : Bool). MayBe kind z fmt) (le-ltb (inputs + i) inputs (omega arith)) (may (inputs + i) fmt at));
        input_count = inputs_many x p w c a U work f J;
        output_count = let n = formats_many in length-drop inputs fs ∙ omega arith;
        factor_count = factor_many kind work.gain work.weights (ap length J.weights ∙ (S.whole).weights);
      }

  all_formats : list_all is_known fs ≡ true
  all_formats = all_true is_known fs (λ i fmt g.
      let s = format_setting i fmt g in
      ap is_known (sym s.2) ∙ ap not (setting_known i s.0 s.1))

  pub frames_of_ports : HasFramesOf t.inputs t.outputs shape
  frames_of_ports =
      let fit : are_fitting kind fs ≡ true = ap (are_fitting kind) (sym (all_known fs all_formats)) ∙ U.fit in
      has_frames t lawful (subst (λ (gs : List Format). AreFitting kind gs) (sym (take-append-drop inputs fs)) (fitting kind fs fit))

  -- ---- a frame of a link is one of its port

  port_format : (input : Bool) (l : ℕ) (I : IsLinkAt input (x.layout).network c l) → (fmt : Format) × (slice_get fs (end_at input x l).port ≡ Some fmt) × (frame_bytes_of fmt ≡ x.unit l) × (nat_lt (end_at input x l).port inputs ≡ input)
  port_format input l I =
      let H = U.its input l I in
      let i : ℕ = (end_at input x l).port in
      let fmt : Format = (H.port).setting.definition.format in (
        fmt,
        slice_get-map (λ (z : PortSetting). z.definition.format) a.settings.ports i ∙ ap (option_map (λ (z : PortSetting). z.definition.format)) (port_parts a i H.port H.there).setting,
        (H.end).unit,
        sym (direction_is x p w c a U work f J i H.port H.there) ∙ (H.end).direction,
      )

  pub output_unit : (l : ℕ) → IsLinkAt false (x.layout).network c l → shape.output_frame ≡ x.unit l
  output_unit l I =
      let r = port_format false l I in
      let i : ℕ = (end_at false x l).port in
      let low = ltb-false i inputs r.3 in
      let there : slice_get t.outputs (i - inputs) ≡ Some r.0 = drop_at inputs fs (i - inputs) ∙ (let s : inputs + (i - inputs) ≡ i = omega arith in ap (slice_get fs) s ∙ r.1) in
      let F = at_all (IsFrame shape.channels shape.output_frame) t.outputs (i - inputs) r.0 frames_of_ports.output there in
      sym F.size ∙ r.2

  pub input_frames : (i : ℕ) → i < length t.inputs → frame_bytes_of (format_at t i) ≡ shape.input_frame
  input_frames i l =
      let F = at_all (IsFrame shape.channels shape.input_frame) t.inputs i (get_or t.inputs i Auto) frames_of_ports.input (slice_get-get_or t.inputs i Auto l) in
      ap frame_bytes_of (get_or_append_left t.inputs t.outputs Auto i l) ∙ F.size
