-- The formats and the frames that go through the links, by the heads of the sources' files.
use Rattle.std.specs.Prelude.{◌≡◌, ℕ, zero, suc, max, List, length, slice_get, Option, Some, None}
use Rattle.omx_types.specs.declared.format.Format.{Format}
use Rattle.omx_types.specs.declared.format.Format.TheVariants.{Pcm, Alaw, Mulaw, Auto}
use Rattle.omx_types.specs.declared.kind.Kind.{Kind}
use Rattle.omx_types.specs.declared.kind.Kind.TheVariants as kinds
use Rattle.omx_types.specs.Formats.{rate_of, channels_of}
use Rattle.part_forms.specs.Kinds.{inputs_of}
use Rattle.script_lang.specs.declared.play_line.PartLine.{PartLine}
use Rattle.wav_form.specs.declared.heads.WavHead.{WavHead}
use Rattle.play_forms.specs.declared.flow.Flow.{Flow}
use Rattle.play_forms.specs.declared.joint.Joint.{Joint}
use Rattle.play_forms.specs.Parts.{kind_of, source_number}
use Rattle.play_forms.specs.Settling.{AreSettled, into}

-- nothing is known yet
abbrev pub no_flow : Flow
no_flow = record { format = Auto; frames = 0 }

abbrev pub flow_of_head : Option WavHead → Flow
flow_of_head None = no_flow
flow_of_head (Some head) = record { format = head.format; frames = head.frames }

-- a decoder gives PCM and an encoder its law, with the input's rate and channels; the others give what comes in
abbrev pub given_format : Kind → Format → Format
given_format kinds.Decoder format = Pcm (rate_of format) (channels_of format)
given_format kinds.Alaw format = Alaw (rate_of format) (channels_of format)
given_format kinds.Mulaw format = Mulaw (rate_of format) (channels_of format)
given_format other format = format

-- the frames of the longest of so many inputs
abbrev pub most_frames : ℕ → (ℕ → Flow) → ℕ
most_frames zero incoming = 0
most_frames (suc inputs) incoming = max (most_frames inputs incoming) (incoming inputs).frames

-- a source gives its file's frames; another component takes its format from its first input, and does as many frames as its longest
abbrev pub flow_by : Kind → Option WavHead → (ℕ → Flow) → Flow
flow_by kinds.Source head incoming = flow_of_head head
flow_by kinds.Late head incoming = flow_of_head head
flow_by kind head incoming = record { format = given_format kind (incoming 0).format; frames = most_frames (inputs_of kind) incoming }

abbrev pub flow_at : List PartLine → List WavHead → Option PartLine → ℕ → (ℕ → Flow) → Flow
flow_at parts heads None place incoming = no_flow
flow_at parts heads (Some part) place incoming = flow_by (kind_of part.form) (slice_get heads (source_number parts place)) incoming

-- what the component at a place gives at each of its outputs
abbrev pub flow_rule : List PartLine → List WavHead → ℕ → (ℕ → Flow) → ℕ → Flow
flow_rule parts heads place incoming output = flow_at parts heads (slice_get parts place) place incoming

abbrev pub AreFlows : List PartLine → List Joint → List WavHead → List Flow → Type 0
AreFlows parts joints heads flows = AreSettled (flow_rule parts heads) no_flow joints flows

-- each component's frames are those that it gives; a sink's are those that come in
pub record AreFrames (parts : List PartLine) (joints : List Joint) (heads : List WavHead) (flows : List Flow) (frames : List ℕ) : Type 0 where
  pub many : length frames ≡ length parts
  pub each : (place : ℕ) (part : PartLine) → slice_get parts place ≡ Some part
      → slice_get frames place ≡ Some (flow_at parts heads (Some part) place (into no_flow joints flows place)).frames
