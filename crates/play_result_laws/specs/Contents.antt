-- The contents of a plan's network, and the streams of the plan's plain function.
use Rattle.std.specs.Prelude.{ℕ, ◌-◌, ◌==◌, ◌&&◌, Bool, List, [], slice_index_or, Option, Some, None}
use Rattle.std.specs.List.{position_or_len}
use Rattle.omx_types.specs.Formats.{frame_bytes_of}
use Rattle.part_forms.specs.Shapes.{shape_of}
use Rattle.script_lang.specs.declared.play_line.PartLine.{PartLine}
use Rattle.play_forms.specs.declared.joint.Joint.{Joint}
use Rattle.play_forms.specs.Plain.{plain, samples_at}
use Rattle.play_forms.specs.Plans.{PlanValue}
use Rattle.play_plan_laws.specs.Casting.{flow_of, joint_of, place_of, turn_of}
use Rattle.play_plan_laws.specs.Assemblies.{PlayFiles}
use Rattle.play_stream_laws.specs.Parts.{part_of}
use Rattle.play_stream_laws.specs.Contents.{PlayContents}
use Rattle.play_result_laws.specs.Terms.{part_at, terms_in}

abbrev pub samples_by : PlanValue → List (List ℕ) → ℕ → Option PartLine → List ℕ
samples_by plan samples place None = []
samples_by plan samples place (Some part) = samples_at samples plan.parts place

abbrev pub leads_to : ℕ → ℕ → Joint → Bool
leads_to place input joint = joint.taker == place && joint.input == input

abbrev pub contents_of : PlanValue → PlayFiles → List (List ℕ) → PlayContents
contents_of plan files samples = record {
  terms = terms_in plan files;
  model = record {
    part = λ c. part_of (terms_in plan files c);
    file = λ c. samples_by plan samples (place_of plan c) (part_at plan c);
    output = λ l. (joint_of plan l).output - (shape_of (terms_in plan files (turn_of plan (joint_of plan l).giver))).inputs;
    input = λ c input. position_or_len (leads_to (place_of plan c) input) plan.joints;
    unit = λ l. frame_bytes_of (flow_of plan l).format;
  };
}

-- what goes through each link, by its number
abbrev pub streams_of : PlanValue → List (List ℕ) → ℕ → List ℕ
streams_of plan samples l = slice_index_or (plain plan samples) l []
