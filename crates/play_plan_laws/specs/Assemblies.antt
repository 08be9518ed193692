-- What the graph of a plan is assembled from.
use Rattle.std.specs.Prelude.{◌≡◌, ℕ, ◌*◌, ◌≤◌, Bool, true, false, if◌then◌else◌, List, [], length, slice_get, slice_index_or, Option, Some, None}
use Rattle.omx_types.specs.declared.format.Format.{Format}
use Rattle.omx_types.specs.declared.format.Format.TheVariants.{Auto}
use Rattle.omx_types.specs.declared.kind.Kind.{Kind}
use Rattle.omx_types.specs.declared.kind.Kind.TheVariants as kinds
use Rattle.omx_types.specs.Formats.{frame_bytes_of}
use Rattle.part_forms.specs.Kinds.{is_late, is_source}
use Rattle.il_machine.specs.declared.port.PortKey.{PortKey}
use Rattle.il_machine.specs.Files.{Offered, OfferedFrom, OfferedTo}
use Rattle.script_lang.specs.declared.play_line.PartLine.{PartLine}
use Rattle.wav_form.specs.declared.heads.WavHead.{WavHead}
use Rattle.play_forms.specs.declared.joint.Joint.{Joint}
use Rattle.play_forms.specs.Flows.{AreFlows, AreFrames}
use Rattle.play_forms.specs.Parts.{factors_of, kind_of, passes_at, source_number}
use Rattle.play_forms.specs.Plans.{IsFit, IsValid, PlanValue}
use Rattle.play_plan_laws.specs.Casting.{cast_of, flow_of, joint_of}
use Rattle.play_world_laws.specs.PlayWorlds.{PlayCast}
use Rattle.play_plan_laws.specs.Limits.{AreHeads, IsScripted}
use Rattle.play_build_laws.specs.Assembly.{Assembly}

pub record PlayFiles : Type 0 where
  -- the heads of the sources' files, in the order of the script
  pub heads : List WavHead
  -- of the file of a component: of one that is read, the bytes from its samples on; those that it tells
  pub there : ℕ → ℕ
  pub known : ℕ → Option (List ℕ)

abbrev pub kind_in : Option PartLine → Kind
kind_in None = kinds.Sink
kind_in (Some part) = kind_of part.form

abbrev pub factors_in : Option PartLine → List ℕ
factors_in None = []
factors_in (Some part) = factors_of part.form

abbrev pub source_file : Option WavHead → ℕ → Option (List ℕ) → Option Offered
source_file None there known = None
source_file (Some head) there known = Some (OfferedFrom head.format head.frames there known)

-- a sink's frames are those that are planned
abbrev pub file_of : Kind → Option WavHead → ℕ → ℕ → Option (List ℕ) → Option Offered
file_of kinds.Source head frames there known = source_file head there known
file_of kinds.Late head frames there known = source_file head there known
file_of kinds.Sink head frames there known = Some (OfferedTo frames known)
file_of _ head frames there known = None

abbrev pub file_at : PlanValue → PlayFiles → ℕ → Option Offered
file_at plan files place =
    file_of (kind_in (slice_get plan.parts place)) (slice_get files.heads (source_number plan.parts place)) (slice_index_or plan.frames place 0) (files.there place) (files.known place)

abbrev pub end_of : Bool → Joint → PortKey
end_of false joint = record { component = joint.giver; port = joint.output }
end_of true joint = record { component = joint.taker; port = joint.input }

-- a late source tells its format while the play runs
abbrev pub opening_format : Bool → Format → Format
opening_format late format = if late then Auto else format

abbrev pub is_late_link : PlanValue → ℕ → Bool
is_late_link plan l = passes_at is_late (slice_get plan.parts (joint_of plan l).giver)

abbrev pub assembly_of : PlanValue → PlayFiles → Assembly
assembly_of plan files = record {
  units = plan.units;
  components = length plan.parts;
  kind = λ place. kind_in (slice_get plan.parts place);
  factors = λ place. factors_in (slice_get plan.parts place);
  file = file_at plan files;
  links = length plan.joints;
  end = λ side l. end_of side (joint_of plan l);
  format = λ l. opening_format (is_late_link plan l) (flow_of plan l).format;
  count = λ l. (joint_of plan l).count;
  size = λ l. (joint_of plan l).size;
}

-- the plan of a script, fitted to the heads of its files, each of which has as many bytes as its head says
pub record IsReady (plan : PlanValue) (files : PlayFiles) : Type 0 where
  pub valid : IsValid plan
  pub flows : AreFlows plan.parts plan.joints files.heads plan.flows
  pub frames : AreFrames plan.parts plan.joints files.heads plan.flows plan.frames
  pub fit : IsFit plan
  pub scripted : IsScripted plan
  pub heads_are : AreHeads plan files.heads
  pub bytes : (place : ℕ) (part : PartLine) (head : WavHead) → slice_get plan.parts place ≡ Some part → is_source (kind_of part.form) ≡ true
      → slice_get files.heads (source_number plan.parts place) ≡ Some head → head.frames * frame_bytes_of head.format ≤ files.there place

-- its cast, in which the input supplies each link, with the formats of its links
abbrev pub play_cast_of : PlanValue → PlayCast
play_cast_of plan = record { cast = cast_of (λ l. false) plan; format = λ l. (flow_of plan l).format }
