-- The formats and frames that a part's ports may have.
use Rattle.std.specs.Prelude.{◌≡◌, ℕ, true, false, List, length}
use Rattle.std.specs.List.{AllByRecursion}
use Rattle.omx_types.specs.declared.format.Format.{Format}
use Rattle.omx_types.specs.Formats.{channels_of, frame_bytes_of}
use Rattle.part_api.specs.Streams.{Shape}
use Rattle.part_api.specs.Terms.{Terms}
use Rattle.part_forms.specs.Kinds.{inputs_of, outputs_of}
use Rattle.audio_parts.specs.Kinds.{MayBe, default_factors}

-- each port has a format that it may have, and each input of a mixer its weight
pub record IsLawful (terms : Terms) : Type 0 where
  pub inputs : AllByRecursion (MayBe terms.kind true) terms.inputs
  pub outputs : AllByRecursion (MayBe terms.kind false) terms.outputs
  pub input_count : length terms.inputs ≡ inputs_of terms.kind
  pub output_count : length terms.outputs ≡ outputs_of terms.kind
  pub factor_count : length terms.factors ≡ length (default_factors terms.kind)

-- the bytes and samples of a frame are those of the format
pub record IsFrame (channels bytes : ℕ) (format : Format) : Type 0 where
  pub samples : channels_of format ≡ channels
  pub size : frame_bytes_of format ≡ bytes

-- the part's frames are those of its ports' formats
pub record HasFramesOf (inputs outputs : List Format) (shape : Shape) : Type 0 where
  pub input : AllByRecursion (IsFrame shape.channels shape.input_frame) inputs
  pub output : AllByRecursion (IsFrame shape.channels shape.output_frame) outputs
  pub input_count : length inputs ≡ shape.inputs
  pub output_count : length outputs ≡ shape.outputs
