-- A plan as the cast of a play. The model names components by their place in the order of placing, and links by their number.
use Rattle.std.specs.Prelude.{◌≡◌, ℕ, ◌/◌, ◌<◌, ◌≤◌, ◌==◌, Bool, length, slice_get, slice_index_or, Some}
use Rattle.std.specs.List.{position_or_len}
use Rattle.omx_types.specs.Formats.{frame_bytes_of}
use Rattle.part_forms.specs.Kinds.{IsSized, is_late, is_source}
use Rattle.il_machine.specs.Kinds.{is_sink}
use Rattle.script_lang.specs.declared.play_line.PartLine.{PartLine}
use Rattle.play_forms.specs.declared.flow.Flow.{Flow}
use Rattle.play_forms.specs.declared.joint.Joint.{Joint}
use Rattle.play_forms.specs.Flows.{no_flow}
use Rattle.play_forms.specs.Parts.{kind_of, passes_at}
use Rattle.play_forms.specs.Plans.{PlanValue}
use Rattle.play_world_laws.specs.Cast.{Cast, components_of, links_of, script_place, giver_of, taker_of}

pub record IsPartCast (plan : PlanValue) (x : Cast) (c : ℕ) (part : PartLine) : Type 0 where
  pub source : ((x.layout).network).is_source c ≡ is_source (kind_of part.form)
  pub sink : (x.layout).is_sink c ≡ is_sink (kind_of part.form)
  pub frames : slice_get plan.frames (script_place x c) ≡ Some (((x.layout).network).frames c)

pub record IsLinkCast (plan : PlanValue) (x : Cast) (l : ℕ) (joint : Joint) (flow : Flow) : Type 0 where
  pub giver_below : giver_of x l < components_of x
  pub taker_below : taker_of x l < components_of x
  pub giver : script_place x (giver_of x l) ≡ joint.giver
  pub taker : script_place x (taker_of x l) ≡ joint.taker
  pub output : x.output_port l ≡ joint.output
  pub input : x.input_port l ≡ joint.input
  pub count : ((x.layout).network).count l ≡ joint.count
  pub size : x.size l ≡ joint.size
  pub unit : x.unit l ≡ frame_bytes_of flow.format
  pub fits : ((x.layout).network).fits l ≡ joint.size / frame_bytes_of flow.format
  pub late : (x.layout).is_late l ≡ passes_at is_late (slice_get plan.parts joint.giver)

-- the cast of a plan, whoever supplies the headers of its links
pub record IsCastOf (plan : PlanValue) (x : Cast) : Type 0 where
  pub components : components_of x ≡ length plan.parts
  pub links : links_of x ≡ length plan.joints
  pub placed : (c : ℕ) → c < components_of x → slice_get plan.order c ≡ Some (script_place x c)
  pub parts : (c : ℕ) (part : PartLine) → c < components_of x → slice_get plan.parts (script_place x c) ≡ Some part → IsPartCast plan x c part
  pub joints : (l : ℕ) (joint : Joint) (flow : Flow) → slice_get plan.joints l ≡ Some joint → slice_get plan.flows l ≡ Some flow → IsLinkCast plan x l joint flow

-- the numbers of a script are in their limits, and frames have bytes
pub record IsInLimits (plan : PlanValue) : Type 0 where
  pub parts : (place : ℕ) (part : PartLine) → slice_get plan.parts place ≡ Some part → IsSized (kind_of part.form)
  pub joints : (l : ℕ) (joint : Joint) → slice_get plan.joints l ≡ Some joint → 1 ≤ joint.count
  pub flows : (l : ℕ) (flow : Flow) → slice_get plan.flows l ≡ Some flow → 1 ≤ frame_bytes_of flow.format

-- ---- the cast of a plan, with the ends that supply its links

abbrev pub no_joint : Joint
no_joint = record { line = 0; giver = 0; output = 0; taker = 0; input = 0; count = 0; size = 0 }

abbrev pub joint_of : PlanValue → ℕ → Joint
joint_of plan l = slice_index_or plan.joints l no_joint

abbrev pub flow_of : PlanValue → ℕ → Flow
flow_of plan l = slice_index_or plan.flows l no_flow

-- the place of the component that has its turn then, and the turn of the one at a place
abbrev pub place_of : PlanValue → ℕ → ℕ
place_of plan c = slice_index_or plan.order c 0

abbrev pub turn_of : PlanValue → ℕ → ℕ
turn_of plan place = position_or_len (λ (other : ℕ). other == place) plan.order

abbrev pub cast_of : (ℕ → Bool) → PlanValue → Cast
cast_of by_output plan = record {
  layout = record {
    network = record {
      components = length plan.parts;
      links = length plan.joints;
      giver = λ l. turn_of plan (joint_of plan l).giver;
      taker = λ l. turn_of plan (joint_of plan l).taker;
      count = λ l. (joint_of plan l).count;
      fits = λ l. (joint_of plan l).size / frame_bytes_of (flow_of plan l).format;
      is_source = λ c. passes_at is_source (slice_get plan.parts (place_of plan c));
      frames = λ c. slice_index_or plan.frames (place_of plan c) 0;
    };
    by_output = by_output;
    is_sink = λ c. passes_at is_sink (slice_get plan.parts (place_of plan c));
    is_late = λ l. passes_at is_late (slice_get plan.parts (joint_of plan l).giver);
    place = place_of plan;
  };
  output_port = λ l. (joint_of plan l).output;
  input_port = λ l. (joint_of plan l).input;
  unit = λ l. frame_bytes_of (flow_of plan l).format;
  size = λ l. (joint_of plan l).size;
}
