-- Terms whose formats are lawful.
use Rattle.std.proofs.Common.{◌≡◌, ℕ, suc, zero, ◌-◌, List, [], ◌∷◌, length, replicate, set, refl, ◌∙◌, arith, Bool, true, false, if◌then◌else◌}
use Rattle.std.specs.Prelude.{Option, slice_set}
use Rattle.std.specs.List.{AllByRecursion}
use Rattle.std.proofs.Math.ListN.{length-set}
use Rattle.std.proofs.lemmas.List.{length-replicate}
use Rattle.omx_types.specs.declared.format.Format.{Format}
use Rattle.omx_types.specs.declared.format.Format.TheVariants as formats
use Rattle.omx_types.specs.declared.kind.Kind.{Kind}
use Rattle.omx_types.specs.declared.kind.Kind.TheVariants.{Source, Decoder, Alaw, Mulaw, Gain, Mixer, Splitter, Sink, Late}
use Rattle.omx_types.specs.Formats.{IsWithinLimits}
use Rattle.part_api.specs.declared.attached.Attached.{Attached}
use Rattle.part_api.specs.Terms.{Terms}
use Rattle.audio_parts.specs.Kinds.{MayBe, MayHave, is_input, default_terms, with_factor, with_file, with_format}
use Rattle.audio_parts.specs.Shapes.{IsLawful}

all_set : {A : Type 0} (P : A → Type 0) (xs : List A) (i : ℕ) (x : A) → AllByRecursion P xs → P x → AllByRecursion P (set xs i x)
all_set P [] i x h p = tt
all_set P (y ∷ ys) zero x h p = (p, h.1)
all_set P (y ∷ ys) (suc i) x h p = (h.0, all_set P ys i x h.1 p)

all_replicate : {A : Type 0} (P : A → Type 0) (n : ℕ) (x : A) → P x → AllByRecursion P (replicate n x)
all_replicate P zero x p = tt
all_replicate P (suc n) x p = (p, all_replicate P n x p)

-- ---- a new part

pcm_limits : IsWithinLimits (formats.Pcm 8000 1)
pcm_limits = record { some_rate = omega arith; rate = omega arith; some_channel = omega arith; channels = omega arith }

alaw_limits : IsWithinLimits (formats.Alaw 8000 1)
alaw_limits = record { some_rate = omega arith; rate = omega arith; some_channel = omega arith; channels = omega arith }

mulaw_limits : IsWithinLimits (formats.Mulaw 8000 1)
mulaw_limits = record { some_rate = omega arith; rate = omega arith; some_channel = omega arith; channels = omega arith }

pub new_is_lawful : (kind : Kind) → IsLawful (default_terms kind)
new_is_lawful Source = record { inputs = tt; outputs = (record { allowed = refl; limits = pcm_limits }, tt); input_count = refl; output_count = refl; factor_count = refl }
new_is_lawful Decoder = record { inputs = (record { allowed = refl; limits = alaw_limits }, tt); outputs = (record { allowed = refl; limits = pcm_limits }, tt); input_count = refl; output_count = refl; factor_count = refl }
new_is_lawful Alaw = record { inputs = (record { allowed = refl; limits = pcm_limits }, tt); outputs = (record { allowed = refl; limits = alaw_limits }, tt); input_count = refl; output_count = refl; factor_count = refl }
new_is_lawful Mulaw = record { inputs = (record { allowed = refl; limits = pcm_limits }, tt); outputs = (record { allowed = refl; limits = mulaw_limits }, tt); input_count = refl; output_count = refl; factor_count = refl }
new_is_lawful Gain = record { inputs = (record { allowed = refl; limits = pcm_limits }, tt); outputs = (record { allowed = refl; limits = pcm_limits }, tt); input_count = refl; output_count = refl; factor_count = refl }
new_is_lawful (Mixer number) = record {
  inputs = all_replicate (MayBe (Mixer number) true) number (formats.Pcm 8000 1) (record { allowed = refl; limits = pcm_limits });
  outputs = (record { allowed = refl; limits = pcm_limits }, tt);
  input_count = length-replicate number (formats.Pcm 8000 1);
  output_count = refl;
  factor_count = refl;
}
new_is_lawful (Splitter number) = record {
  inputs = (record { allowed = refl; limits = pcm_limits }, tt);
  outputs = all_replicate (MayBe (Splitter number) false) number (formats.Pcm 8000 1) (record { allowed = refl; limits = pcm_limits });
  input_count = refl;
  output_count = length-replicate number (formats.Pcm 8000 1);
  factor_count = refl;
}
new_is_lawful Sink = record { inputs = (record { allowed = refl; limits = pcm_limits }, tt); outputs = tt; input_count = refl; output_count = refl; factor_count = refl }
new_is_lawful Late = record { inputs = tt; outputs = (record { allowed = refl; limits = pcm_limits }, tt); input_count = refl; output_count = refl; factor_count = refl }

-- ---- another format

inputs_set : (kind : Kind) (input : Bool) (ports : List Format) (port : ℕ) (format : Format) → AllByRecursion (MayBe kind true) ports → MayBe kind input format
    → AllByRecursion (MayBe kind true) (if input then slice_set ports port format else ports)
inputs_set kind true ports port format h m = all_set (MayBe kind true) ports port format h m
inputs_set kind false ports port format h m = h

outputs_set : (kind : Kind) (input : Bool) (ports : List Format) (port : ℕ) (format : Format) → AllByRecursion (MayBe kind false) ports → MayBe kind input format
    → AllByRecursion (MayBe kind false) (if input then ports else slice_set ports port format)
outputs_set kind true ports port format h m = h
outputs_set kind false ports port format h m = all_set (MayBe kind false) ports port format h m

as_long : (input : Bool) (ports : List Format) (port : ℕ) (format : Format) → length (if input then slice_set ports port format else ports) ≡ length ports
as_long true ports port format = length-set ports port format
as_long false ports port format = refl

also_long : (input : Bool) (ports : List Format) (port : ℕ) (format : Format) → length (if input then ports else slice_set ports port format) ≡ length ports
also_long true ports port format = refl
also_long false ports port format = length-set ports port format

pub format_is_lawful : (terms : Terms) (port : ℕ) (format : Format) → IsLawful terms → MayHave terms port format → IsLawful (with_format terms port format)
format_is_lawful terms port format h m = record {
  inputs = inputs_set terms.kind (is_input terms port) terms.inputs port format h.inputs m;
  outputs = outputs_set terms.kind (is_input terms port) terms.outputs (port - length terms.inputs) format h.outputs m;
  input_count = as_long (is_input terms port) terms.inputs port format ∙ h.input_count;
  output_count = also_long (is_input terms port) terms.outputs (port - length terms.inputs) format ∙ h.output_count;
  factor_count = h.factor_count;
}

pub factor_is_lawful : (terms : Terms) (input factor : ℕ) → IsLawful terms → IsLawful (with_factor terms input factor)
factor_is_lawful terms input factor h = record {
  inputs = h.inputs;
  outputs = h.outputs;
  input_count = h.input_count;
  output_count = h.output_count;
  factor_count = length-set terms.factors input factor ∙ h.factor_count;
}

pub file_is_lawful : (terms : Terms) (file : Option Attached) → IsLawful terms → IsLawful (with_file terms file)
file_is_lawful terms file h =
    record { inputs = h.inputs; outputs = h.outputs; input_count = h.input_count; output_count = h.output_count; factor_count = h.factor_count }
