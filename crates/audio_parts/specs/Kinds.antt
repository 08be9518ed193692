-- What a part's ports may have, what a new part has, and what is set.
use Rattle.std.specs.Prelude.{◌≡◌, ℕ, ◌-◌, Bool, true, false, nat_lt, if◌then◌else◌, List, [], ◌∷◌, length, replicate, slice_set, Option, None}
use Rattle.omx_types.specs.declared.kind.Kind.{Kind}
use Rattle.omx_types.specs.declared.kind.Kind.TheVariants.{Gain, Mixer}
use Rattle.omx_types.specs.declared.format.Format.{Format}
use Rattle.omx_types.specs.Formats.{IsWithinLimits}
use Rattle.part_forms.specs.Kinds.{inputs_of, outputs_of, is_format_of, known_format}
use Rattle.part_api.specs.declared.attached.Attached.{Attached}
use Rattle.part_api.specs.Terms.{Terms}

-- inputs are numbered from 0, then come the outputs
abbrev pub is_input : Terms → ℕ → Bool
is_input terms port = nat_lt port (length terms.inputs)

-- an input or output of the kind may have the format, whose rate and channels are within the limits
pub record MayBe (kind : Kind) (input : Bool) (format : Format) : Type 0 where
  pub allowed : is_format_of kind input format ≡ true
  pub limits : IsWithinLimits format

-- the port may have the format
abbrev pub MayHave : Terms → ℕ → Format → Type 0
MayHave terms port format = MayBe terms.kind (is_input terms port) format

-- ---- what a new part has

-- a gain and each weight is one
abbrev pub default_factors : Kind → List ℕ
default_factors Gain = 4096 ∷ []
default_factors (Mixer inputs) = replicate inputs 4096
default_factors _ = []

abbrev pub default_terms : Kind → Terms
default_terms kind = record {
  kind = kind;
  inputs = replicate (inputs_of kind) (known_format kind true);
  outputs = replicate (outputs_of kind) (known_format kind false);
  factors = default_factors kind;
  file = None;
}

-- ---- what is set

abbrev pub with_format : Terms → ℕ → Format → Terms
with_format terms port format = record {
  kind = terms.kind;
  inputs = if is_input terms port then slice_set terms.inputs port format else terms.inputs;
  outputs = if is_input terms port then terms.outputs else slice_set terms.outputs (port - length terms.inputs) format;
  factors = terms.factors;
  file = terms.file;
}

abbrev pub with_factor : Terms → ℕ → ℕ → Terms
with_factor terms input factor = record {
  kind = terms.kind;
  inputs = terms.inputs;
  outputs = terms.outputs;
  factors = slice_set terms.factors input factor;
  file = terms.file;
}

abbrev pub with_file : Terms → Option Attached → Terms
with_file terms file = record {
  kind = terms.kind;
  inputs = terms.inputs;
  outputs = terms.outputs;
  factors = terms.factors;
  file = file;
}
