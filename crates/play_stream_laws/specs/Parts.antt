-- What a part does, as a part of a network.
use Rattle.part_api.specs.Streams.{Shape}
use Rattle.part_api.specs.Terms.{Terms}
use Rattle.part_forms.specs.Shapes.{shape_of}
use Rattle.play_model.specs.Content.{Part}

abbrev pub part_by : Shape → Part
part_by shape = record {
  inputs = shape.inputs;
  input_frame = shape.input_frame;
  output_frame = shape.output_frame;
  plain = λ came output. shape.plain (record { input = came.input; file = came.file }) output;
}

abbrev pub part_of : Terms → Part
part_of terms = part_by (shape_of terms)
