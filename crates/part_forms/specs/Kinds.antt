-- The kinds of component: their ports, and the formats of these.
use Rattle.std.specs.Prelude.{ℕ, ◌+◌, ◌≤◌, Bool, true, false, not, ◌||◌, nat_lt, if◌then◌else◌}
use Rattle.omx_types.specs.declared.kind.Kind.{Kind}
use Rattle.omx_types.specs.declared.kind.Kind.TheVariants.{Source, Decoder, Alaw, Mulaw, Gain, Mixer, Splitter, Sink, Late}
use Rattle.omx_types.specs.declared.format.Format.{Format}
use Rattle.omx_types.specs.declared.format.Format.TheVariants as formats
use Rattle.omx_types.specs.Formats.{is_pcm, is_alaw, is_mulaw, is_auto}

-- a mixer has 2 to 8 inputs, a splitter 2 to 8 outputs
abbrev pub IsSized : Kind → Type 0
IsSized (Mixer inputs) = (2 ≤ inputs) × (inputs ≤ 8)
IsSized (Splitter outputs) = (2 ≤ outputs) × (outputs ≤ 8)
IsSized _ = Unit {0}

abbrev pub inputs_of : Kind → ℕ
inputs_of Source = 0
inputs_of Decoder = 1
inputs_of Alaw = 1
inputs_of Mulaw = 1
inputs_of Gain = 1
inputs_of (Mixer inputs) = inputs
inputs_of (Splitter outputs) = 1
inputs_of Sink = 1
inputs_of Late = 0

abbrev pub outputs_of : Kind → ℕ
outputs_of Source = 1
outputs_of Decoder = 1
outputs_of Alaw = 1
outputs_of Mulaw = 1
outputs_of Gain = 1
outputs_of (Mixer inputs) = 1
outputs_of (Splitter outputs) = outputs
outputs_of Sink = 0
outputs_of Late = 1

abbrev pub ports_in : Kind → ℕ
ports_in kind = inputs_of kind + outputs_of kind

-- inputs are numbered from 0, then come the outputs
abbrev pub is_input : Kind → ℕ → Bool
is_input kind port = nat_lt port (inputs_of kind)

-- a source that reads a file, also one whose format it tells while it runs
abbrev pub is_source : Kind → Bool
is_source Source = true
is_source Late = true
is_source _ = false

abbrev pub is_late : Kind → Bool
is_late Late = true
is_late _ = false

-- the formats that an input of the kind may have
abbrev pub is_input_format : Kind → Format → Bool
is_input_format Source format = false
is_input_format Decoder format = is_alaw format || is_mulaw format
is_input_format Alaw format = is_pcm format
is_input_format Mulaw format = is_pcm format
is_input_format Gain format = is_pcm format
is_input_format (Mixer inputs) format = is_pcm format
is_input_format (Splitter outputs) format = not (is_auto format)
is_input_format Sink format = not (is_auto format)
is_input_format Late format = false

-- the formats that an output of the kind may have: only a late source's may be one that isn't known yet
abbrev pub is_output_format : Kind → Format → Bool
is_output_format Source format = not (is_auto format)
is_output_format Decoder format = is_pcm format
is_output_format Alaw format = is_alaw format
is_output_format Mulaw format = is_mulaw format
is_output_format Gain format = is_pcm format
is_output_format (Mixer inputs) format = is_pcm format
is_output_format (Splitter outputs) format = not (is_auto format)
is_output_format Sink format = false
is_output_format Late format = true

abbrev pub is_format_of : Kind → Bool → Format → Bool
is_format_of kind true format = is_input_format kind format
is_format_of kind false format = is_output_format kind format

-- PCM where the port may have it, else A-law, else mu-law, with one channel of 8,000 samples a second
abbrev pub known_format : Kind → Bool → Format
known_format kind input =
    if is_format_of kind input (formats.Pcm 8000 1) then formats.Pcm 8000 1
    else if is_format_of kind input (formats.Alaw 8000 1) then formats.Alaw 8000 1
    else formats.Mulaw 8000 1
