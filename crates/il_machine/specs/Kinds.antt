-- The names of the kinds of component, in the order of a table. Their ports and the formats of these are passed on.
use Rattle.std.specs.Prelude.{ℕ, List, [], ◌∷◌, Option, option_map, codes, find, Bool, ◌&&◌, ◌||◌, true, false}
use Rattle.omx_types.specs.declared.kind.Kind.{Kind}
use Rattle.omx_types.specs.declared.kind.Kind.TheVariants.{Source, Decoder, Alaw, Mulaw, Gain, Mixer, Splitter, Sink, Late}
use Rattle.omx_types.specs.declared.format.Format.{Format}
pub use Rattle.omx_types.specs.Formats.{is_pcm, is_alaw, is_mulaw, is_auto}
pub use Rattle.part_forms.specs.Kinds.{inputs_of, outputs_of, ports_in, is_input, is_source, is_late, is_input_format, is_output_format, is_format_of}
use Rattle.il_machine.specs.Lists.{same_numbers}

-- each name with the kind that it makes
abbrev pub named_kinds : List (List ℕ × Kind)
named_kinds =
    (codes "OMX.lab.source.wav", Source)
    ∷ (codes "OMX.lab.source.late", Late)
    ∷ (codes "OMX.lab.decoder.g711", Decoder)
    ∷ (codes "OMX.lab.encoder.alaw", Alaw)
    ∷ (codes "OMX.lab.encoder.mulaw", Mulaw)
    ∷ (codes "OMX.lab.gain", Gain)
    ∷ (codes "OMX.lab.mixer.2", Mixer 2)
    ∷ (codes "OMX.lab.mixer.3", Mixer 3)
    ∷ (codes "OMX.lab.mixer.4", Mixer 4)
    ∷ (codes "OMX.lab.mixer.5", Mixer 5)
    ∷ (codes "OMX.lab.mixer.6", Mixer 6)
    ∷ (codes "OMX.lab.mixer.7", Mixer 7)
    ∷ (codes "OMX.lab.mixer.8", Mixer 8)
    ∷ (codes "OMX.lab.splitter.2", Splitter 2)
    ∷ (codes "OMX.lab.splitter.3", Splitter 3)
    ∷ (codes "OMX.lab.splitter.4", Splitter 4)
    ∷ (codes "OMX.lab.splitter.5", Splitter 5)
    ∷ (codes "OMX.lab.splitter.6", Splitter 6)
    ∷ (codes "OMX.lab.splitter.7", Splitter 7)
    ∷ (codes "OMX.lab.splitter.8", Splitter 8)
    ∷ (codes "OMX.lab.sink.wav", Sink)
    ∷ []

abbrev pub has_name : List ℕ → (List ℕ × Kind) → Bool
has_name name row = same_numbers row.0 name

-- the kind of the name, where the table has it
abbrev pub kind_of : List ℕ → Option Kind
kind_of name = option_map (λ row. row.1) (find (has_name name) named_kinds)

-- a port may have the format: one of the kind's, or one that isn't known yet, on an input or on the output of a late source
abbrev pub is_port_format : Kind → Bool → Format → Bool
is_port_format kind input format = is_format_of kind input format || (is_auto format && (input || is_late kind))

abbrev pub is_sink : Kind → Bool
is_sink Sink = true
is_sink _ = false
