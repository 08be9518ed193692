-- The file of a source of a plan: its samples, and how many there are.
use Rattle.std.proofs.Common.{◌≡◌, ℕ, ◌*◌, ◌<◌, true, false, List, [], take, length, slice_get, slice_index_or, unwrap_or, Option, Some, refl, ◌∙◌, ap, arith}
use Rattle.std.proofs.lemmas.List.{length-take-le}
use Rattle.std.proofs.lemmas.Option.{get_or_from_slice_get}
use Rattle.omx_types.specs.declared.kind.Kind.{Kind}
use Rattle.omx_types.specs.declared.kind.Kind.TheVariants as kinds
use Rattle.omx_types.specs.Formats.{frame_bytes_of}
use Rattle.part_forms.specs.Kinds.{is_source, outputs_of}
use Rattle.script_lang.specs.declared.play_line.PartForm.{PartForm}
use Rattle.script_lang.specs.declared.play_line.PartForm.TheVariants as forms
use Rattle.script_lang.specs.declared.play_line.PartLine.{PartLine}
use Rattle.wav_form.specs.declared.heads.WavHead.{WavHead}
use Rattle.play_forms.specs.declared.flow.Flow.{Flow}
use Rattle.play_forms.specs.Flows.{flow_of_head, no_flow}
use Rattle.play_forms.specs.Parts.{kind_of, source_number}
use Rattle.play_forms.specs.Plain.{format_out, samples_at}
use Rattle.play_forms.specs.Plans.{PlanValue}
use Rattle.play_forms.specs.Settling.{into}
use Rattle.stream_plan.proofs.Flows.{flow_of_source}
use Rattle.play_plan_laws.specs.Casting.{flow_of, joint_of}
use Rattle.play_plan_laws.specs.Assemblies.{IsReady, PlayFiles}
use Rattle.play_plan_laws.proofs.Lawful.{flow_given, link_is, same_part}
use Rattle.play_result_laws.specs.Files.{AreSamples, read_by}
use Rattle.play_result_laws.proofs.Ports.{at_output}

source_reads : (form : PartForm) → is_source (kind_of form) ≡ true → (name : List ℕ) × (read_by form ≡ Some name)
source_reads (forms.Source file) h = (file, refl)
source_reads (forms.Late file) h = (file, refl)
source_reads forms.Decoder h = absurd cc
source_reads forms.Alaw h = absurd cc
source_reads forms.Mulaw h = absurd cc
source_reads (forms.Gain gain) h = absurd cc
source_reads (forms.Mixer weights) h = absurd cc
source_reads (forms.Splitter outputs) h = absurd cc
source_reads (forms.Sink file) h = absurd cc

pub source_output : (kind : Kind) → is_source kind ≡ true → 0 < outputs_of kind
source_output kinds.Source h = omega arith
source_output kinds.Late h = omega arith
source_output kinds.Decoder h = absurd cc
source_output kinds.Alaw h = absurd cc
source_output kinds.Mulaw h = absurd cc
source_output kinds.Gain h = absurd cc
source_output (kinds.Mixer n) h = absurd cc
source_output (kinds.Splitter n) h = absurd cc
source_output kinds.Sink h = absurd cc

-- the file that the source at the place reads
pub record HasSamples (plan : PlanValue) (files : PlayFiles) (samples : List (List ℕ)) (place : ℕ) (part : PartLine) : Type 0 where
  pub head : WavHead
  pub rest : List ℕ
  pub head_is : slice_get files.heads (source_number plan.parts place) ≡ Some head
  pub known : files.known place ≡ Some rest
  pub samples_are : samples_at samples plan.parts place ≡ take (head.frames * frame_bytes_of head.format) rest
  pub long : length (samples_at samples plan.parts place) ≡ head.frames * frame_bytes_of head.format
  pub frames : slice_index_or plan.frames place 0 ≡ head.frames
  pub format : format_out plan place (kind_of part.form) 0 ≡ head.format

pub source_file : (plan : PlanValue) (files : PlayFiles) (samples : List (List ℕ)) → IsReady plan files → AreSamples plan files samples → (place : ℕ) (part : PartLine)
    → slice_get plan.parts place ≡ Some part → is_source (kind_of part.form) ≡ true → HasSamples plan files samples place part
source_file plan files samples R F place part e h =
    let r = source_reads part.form h in
    let I = F.sources place r.0 (part, e, r.1) in
    let head : WavHead = I.head in
    let heads = files.heads in
    let here : samples_at samples plan.parts place ≡ take (head.frames * frame_bytes_of head.format) I.known = ap (λ (o : Option (List ℕ)). unwrap_or o []) I.samples_are in
    let room = R.bytes place part head e h I.head_is in
    let there = I.there in
    let Z = at_output plan files R place part e 0 (source_output (kind_of part.form) h) in
    let K = link_is plan files R Z.link Z.below in
    let same : K.part false ≡ part = same_part plan.parts _ _ (K.part false) part (K.part_there false) e Z.giver in
    let given : flow_of plan Z.link ≡ flow_of_head (Some head) =
    flow_given plan files R Z.link K
    ∙ (flow_of_source (kind_of (K.part false).form) (slice_get heads (source_number plan.parts (joint_of plan Z.link).giver)) (into no_flow plan.joints plan.flows (joint_of plan Z.link).giver) (ap (λ (y : PartLine). is_source (kind_of y.form)) same ∙ h)
    ∙ (ap (λ (n : ℕ). flow_of_head (slice_get heads (source_number plan.parts n))) Z.giver ∙ ap flow_of_head I.head_is))
    in
    let frames : slice_index_or plan.frames place 0 ≡ head.frames =
    get_or_from_slice_get plan.frames place _ 0 ((R.frames).each place part e)
    ∙ (ap (λ y. y.frames) (flow_of_source (kind_of part.form) (slice_get heads (source_number plan.parts place)) (into no_flow plan.joints plan.flows place) h) ∙ ap (λ (o : Option WavHead). (flow_of_head o).frames) I.head_is)
    in
    record {
      head = head;
      rest = I.known;
      head_is = I.head_is;
      known = I.known_is;
      samples_are = here;
      long = ap length here ∙ length-take-le (head.frames * frame_bytes_of head.format) I.known (omega arith);
      frames = frames;
      format = Z.format ∙ ap (λ (y : Flow). y.format) given;
    }
