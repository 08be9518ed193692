-- The components of a play, by their script lines.
use Rattle.std.specs.Prelude.{ℕ, Bool, false, nat_le, nat_lt, ◌&&◌, List, [], ◌∷◌, length, take, sum_by, count_by, Option, Some, None}
use Rattle.il_machine.specs.Units.{units_of}
use Rattle.omx_types.specs.declared.kind.Kind.{Kind}
use Rattle.omx_types.specs.declared.kind.Kind.TheVariants as kinds
use Rattle.part_forms.specs.Kinds.{inputs_of, ports_in, is_source}
use Rattle.script_lang.specs.declared.play_line.PartForm.{PartForm}
use Rattle.script_lang.specs.declared.play_line.PartForm.TheVariants as forms
use Rattle.script_lang.specs.declared.play_line.PartLine.{PartLine}

abbrev pub kind_of : PartForm → Kind
kind_of (forms.Source file) = kinds.Source
kind_of (forms.Late file) = kinds.Late
kind_of forms.Decoder = kinds.Decoder
kind_of forms.Alaw = kinds.Alaw
kind_of forms.Mulaw = kinds.Mulaw
kind_of (forms.Gain gain) = kinds.Gain
kind_of (forms.Mixer weights) = kinds.Mixer (length weights)
kind_of (forms.Splitter outputs) = kinds.Splitter outputs
kind_of (forms.Sink file) = kinds.Sink

-- the gain of a gain, a weight for each input of a mixer
abbrev pub factors_of : PartForm → List ℕ
factors_of (forms.Gain gain) = gain ∷ []
factors_of (forms.Mixer weights) = weights
factors_of other = []

-- the units of all components
abbrev pub units_needed : List PartLine → ℕ
units_needed = sum_by (λ part. units_of (kind_of part.form))

-- inputs are numbered from 0, then come the outputs
abbrev pub has_input : ℕ → Kind → Bool
has_input port kind = nat_lt port (inputs_of kind)

abbrev pub has_output : ℕ → Kind → Bool
has_output port kind = nat_le (inputs_of kind) port && nat_lt port (ports_in kind)

-- a test of the component at a place: where there is none, it doesn't pass
abbrev pub passes_at : (Kind → Bool) → Option PartLine → Bool
passes_at test None = false
passes_at test (Some part) = test (kind_of part.form)

abbrev pub is_source_part : PartLine → Bool
is_source_part part = is_source (kind_of part.form)

-- how many sources stand before the place: the number of the file that a source there reads
abbrev pub source_number : List PartLine → ℕ → ℕ
source_number parts place = count_by is_source_part (take place parts)
