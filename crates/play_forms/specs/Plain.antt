-- The plain function of a plan and the samples of its files: what goes through each link as one whole list of bytes, and the text of
-- each sink's file.
use Rattle.std.specs.Prelude.{ℕ, zero, suc, ◌+◌, ◌-◌, ◌*◌, List, [], ◌∷◌, length, take, drop, replicate, slice_get, unwrap_or, Option, Some, None}
use Rattle.omx_types.specs.declared.format.Format.{Format}
use Rattle.omx_types.specs.Formats.{frame_bytes_of}
use Rattle.omx_types.specs.declared.kind.Kind.{Kind}
use Rattle.part_api.specs.Streams.{Shape}
use Rattle.part_forms.specs.Kinds.{inputs_of, outputs_of}
use Rattle.part_forms.specs.Shapes.{shape_by}
use Rattle.part_forms.specs.Writing.{written}
use Rattle.script_lang.specs.declared.play_line.PartLine.{PartLine}
use Rattle.wav_form.specs.declared.heads.WavHead.{WavHead}
use Rattle.play_forms.specs.Fitting.{format_into}
use Rattle.play_forms.specs.Flows.{no_flow}
use Rattle.play_forms.specs.Parts.{factors_of, kind_of, source_number}
use Rattle.play_forms.specs.Plans.{PlanValue}
use Rattle.play_forms.specs.Settling.{AreSettled, given_along, into, out_of}

-- the formats of the first ports
abbrev pub formats_of : ℕ → (ℕ → Format) → List Format
formats_of zero format = []
formats_of (suc ports) format = format zero ∷ formats_of ports (λ port. format (suc port))

abbrev pub format_out : PlanValue → ℕ → Kind → ℕ → Format
format_out plan place kind number = (out_of no_flow plan.joints plan.flows place (inputs_of kind + number)).format

-- the part that the component at a place is, with the formats of its ports
abbrev pub shape_at : PlanValue → ℕ → PartLine → Shape
shape_at plan place part =
    let kind = kind_of part.form in
    shape_by kind (formats_of (inputs_of kind) (format_into plan.joints plan.flows place)) (formats_of (outputs_of kind) (format_out plan place kind)) (factors_of part.form)

-- the samples of a file, as its bytes
abbrev pub samples_of_file : WavHead → List ℕ → List ℕ
samples_of_file head bytes = take (head.frames * frame_bytes_of head.format) (drop head.start bytes)

-- the samples of the file that a source reads, of those of all sources in script order
abbrev pub samples_at : List (List ℕ) → List PartLine → ℕ → List ℕ
samples_at samples parts place = unwrap_or (slice_get samples (source_number parts place)) []

abbrev pub stream_at : PlanValue → List (List ℕ) → Option PartLine → ℕ → (ℕ → List ℕ) → ℕ → List ℕ
stream_at plan samples None place incoming output = []
stream_at plan samples (Some part) place incoming output =
    (shape_at plan place part).plain (record { input = incoming; file = samples_at samples plan.parts place }) (output - inputs_of (kind_of part.form))

-- what a component gives at an output, by what comes in
abbrev pub stream_rule : PlanValue → List (List ℕ) → ℕ → (ℕ → List ℕ) → ℕ → List ℕ
stream_rule plan samples place incoming output = stream_at plan samples (slice_get plan.parts place) place incoming output

-- the whole stream of each link, in the order of placing
abbrev pub plain : PlanValue → List (List ℕ) → List (List ℕ)
plain plan samples = given_along (stream_rule plan samples) [] plan.joints plan.order (replicate (length plan.joints) [])

-- each link's stream is what its giver makes of the streams that it takes
abbrev pub ArePlain : PlanValue → List (List ℕ) → List (List ℕ) → Type 0
ArePlain plan samples = AreSettled (stream_rule plan samples) [] plan.joints

-- the file of a sink: the written text of what comes in, in the format of its link
abbrev pub sink_text : PlanValue → List (List ℕ) → ℕ → List ℕ
sink_text plan samples place =
    written (format_into plan.joints plan.flows place 0) (into [] plan.joints (plain plan samples) place 0)
