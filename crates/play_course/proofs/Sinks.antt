-- What comes in at a sink.
use Rattle.std.proofs.Common.{◌≡◌, ℕ, ◌*◌, ◌<◌, ◌≤◌, List, slice_get, Some, sym, ◌∙◌, ap, subst, arith}
use Rattle.std.specs.List.{slice_index_or}
use Rattle.std.proofs.lemmas.Option.{get_or_from_slice_get, slice_get_within}
use Rattle.omx_types.specs.declared.format.Format.{Format}
use Rattle.omx_types.specs.declared.format.Format.TheVariants.{Pcm, Alaw, Mulaw, Auto}
use Rattle.omx_types.specs.Formats.{IsWithinLimits, channels_of, frame_bytes_of}
use Rattle.part_forms.specs.Kinds.{inputs_of}
use Rattle.wav_form.specs.Reading.{most_bytes}
use Rattle.script_lang.specs.declared.play_line.PartForm.{PartForm}
use Rattle.script_lang.specs.declared.play_line.PartForm.TheVariants as forms
use Rattle.play_build_laws.proofs.Places.{get_there}
use Rattle.play_forms.specs.declared.flow.Flow.{Flow}
use Rattle.play_forms.specs.Flows.{flow_by, no_flow}
use Rattle.play_forms.specs.Parts.{kind_of, source_number}
use Rattle.play_forms.specs.Plans.{PlanValue}
use Rattle.play_forms.specs.Settling.{into}
use Rattle.play_plan_laws.specs.Limits.{IsLawfulFlow}
use Rattle.play_plan_laws.proofs.Limits.{flows_lawful}
use Rattle.play_plan_laws.proofs.Links.{incoming_is, input_linked}
use Rattle.play_plan_laws.specs.Assemblies.{IsReady, PlayFiles}
use Rattle.play_result_laws.specs.Files.{IsWriter, written_by}

sink_inputs : (form : PartForm) (name : List ℕ) → written_by form ≡ Some name → 0 < inputs_of (kind_of form)
sink_inputs (forms.Sink f) name e = omega arith
sink_inputs (forms.Source f) name e = absurd cc
sink_inputs (forms.Late f) name e = absurd cc
sink_inputs forms.Decoder name e = absurd cc
sink_inputs forms.Alaw name e = absurd cc
sink_inputs forms.Mulaw name e = absurd cc
sink_inputs (forms.Gain gain) name e = absurd cc
sink_inputs (forms.Mixer weights) name e = absurd cc
sink_inputs (forms.Splitter outputs) name e = absurd cc

sink_frames : (form : PartForm) (name : List ℕ) (head : _) (incoming : ℕ → Flow) → written_by form ≡ Some name → (flow_by (kind_of form) head incoming).frames ≡ (incoming 0).frames
sink_frames (forms.Sink f) name head incoming e = omega arith
sink_frames (forms.Source f) name head incoming e = absurd cc
sink_frames (forms.Late f) name head incoming e = absurd cc
sink_frames forms.Decoder name head incoming e = absurd cc
sink_frames forms.Alaw name head incoming e = absurd cc
sink_frames forms.Mulaw name head incoming e = absurd cc
sink_frames (forms.Gain gain) name head incoming e = absurd cc
sink_frames (forms.Mixer weights) name head incoming e = absurd cc
sink_frames (forms.Splitter outputs) name head incoming e = absurd cc

twice : (n c : ℕ) → n * (2 * c) ≡ 2 * (n * c)
twice n c = grind arith

few_bytes : (f : Format) (n : ℕ) → IsWithinLimits f → n * channels_of f ≤ most_bytes → n * frame_bytes_of f ≤ 134217728
few_bytes (Pcm rate channels) n L b = let t = twice n channels in omega arith
few_bytes (Alaw rate channels) n L b = omega arith
few_bytes (Mulaw rate channels) n L b = omega arith
few_bytes Auto n L b = absurd (let s = L.some_channel in omega arith)

-- the flow into a sink is lawful, and the sink's frames are its
pub record IsSinkFlow (plan : PlanValue) (place : ℕ) (flow : Flow) : Type 0 where
  pub lawful : IsWithinLimits flow.format
  pub fits : flow.frames * frame_bytes_of flow.format ≤ 134217728
  pub frames : slice_index_or plan.frames place 0 ≡ flow.frames

pub sink_flow : (plan : PlanValue) (files : PlayFiles) (place : ℕ) (name : List ℕ) → IsReady plan files → IsWriter plan.parts place name → IsSinkFlow plan place (into no_flow plan.joints plan.flows place 0)
sink_flow plan files place name R (part, e, w) =
    let V = R.valid in
    let k = input_linked plan V place part 0 e (sink_inputs part.form name w) in
    let joint = k.1 in
    let m = V.flows in
    let b = slice_get_within plan.joints k.0 joint k.2 in
    let f = get_there plan.flows k.0 (omega arith) in
    let is : into no_flow plan.joints plan.flows place 0 ≡ f.0 =
    ap (λ (p : ℕ). into no_flow plan.joints plan.flows p 0) (sym k.3) ∙ (ap (into no_flow plan.joints plan.flows joint.taker) (sym k.4) ∙ incoming_is plan V k.0 joint f.0 k.2 f.1) in
    let L : IsLawfulFlow f.0 = flows_lawful plan files.heads V R.flows R.fit R.scripted R.heads_are k.0 f.0 f.1 in
    let frames = get_or_from_slice_get plan.frames place _ 0 ((R.frames).each place part e) ∙ sink_frames part.form name (slice_get files.heads (source_number plan.parts place)) (into no_flow plan.joints plan.flows place) w in
    subst (IsSinkFlow plan place) (sym is) (record { lawful = L.format; fits = few_bytes (f.0).format (f.0).frames L.format L.samples; frames = frames ∙ ap (λ (y : Flow). y.frames) is })
