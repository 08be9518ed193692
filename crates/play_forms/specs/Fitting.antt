-- Which formats and sizes an input takes, and the first that doesn't fit.
use Rattle.std.specs.Prelude.{◌≡◌, ℕ, ◌<◌, ◌≤◌, true, false, List, take, slice_get, Some}
use Rattle.omx_types.specs.declared.format.Format.{Format}
use Rattle.omx_types.specs.declared.kind.Kind.{Kind}
use Rattle.omx_types.specs.Formats.{frame_bytes_of}
use Rattle.part_forms.specs.Kinds.{inputs_of, is_input_format}
use Rattle.script_lang.specs.declared.play_line.PartLine.{PartLine}
use Rattle.play_forms.specs.declared.flow.Flow.{Flow}
use Rattle.play_forms.specs.declared.joint.Joint.{Joint}
use Rattle.play_forms.specs.declared.plan_fault.PlanFault.{PlanFault}
use Rattle.play_forms.specs.declared.plan_fault.PlanFault.TheVariants.{Wrong, Small, Differ}
use Rattle.play_forms.specs.Flows.{no_flow}
use Rattle.play_forms.specs.Parts.{kind_of}
use Rattle.play_forms.specs.Settling.{into}

-- a link into a component of the kind, with this format, fits beside the format of the component's first input
pub record Fits (kind : Kind) (joint : Joint) (format first : Format) : Type 0 where
  pub taken : is_input_format kind format ≡ true
  pub holds_one : frame_bytes_of format ≤ joint.size
  pub same : format ≡ first

-- the first of its three causes why it doesn't
abbrev pub IsCause : Kind → Joint → Format → Format → PlanFault → Type 0
IsCause kind joint format first (Wrong line) = (line ≡ joint.line) × (is_input_format kind format ≡ false)
IsCause kind joint format first (Small line) =
    (line ≡ joint.line) × (is_input_format kind format ≡ true) × (joint.size < frame_bytes_of format)
IsCause kind joint format first (Differ line) =
    (line ≡ joint.line) × (is_input_format kind format ≡ true) × (frame_bytes_of format ≤ joint.size) × (format ≡ first → ⊥)
IsCause kind joint format first other = ⊥

abbrev pub format_into : List Joint → List Flow → ℕ → ℕ → Format
format_into joints flows place input = (into no_flow joints flows place input).format

-- the link into that input fits
abbrev pub InputFits : List Joint → List Flow → ℕ → Kind → ℕ → Type 0
InputFits joints flows place kind input =
    (k : ℕ) (joint : Joint) → slice_get joints k ≡ Some joint → joint.taker ≡ place → joint.input ≡ input
    → Fits kind joint (format_into joints flows place input) (format_into joints flows place 0)

-- so do all links into the component
abbrev pub ComponentFits : List Joint → List Flow → ℕ → PartLine → Type 0
ComponentFits joints flows place part = (input : ℕ) → input < inputs_of (kind_of part.form) → InputFits joints flows place (kind_of part.form) input

-- so do all links into these components
abbrev pub AllFit : List PartLine → List Joint → List Flow → List ℕ → Type 0
AllFit parts joints flows places =
    (k place : ℕ) (part : PartLine) → slice_get places k ≡ Some place → slice_get parts place ≡ Some part → ComponentFits joints flows place part

-- the first that doesn't fit, by the order of placing and then by input
pub record IsMisfit (parts : List PartLine) (joints : List Joint) (order : List ℕ) (flows : List Flow) (fault : PlanFault) : Type 0 where
  pub turn : ℕ
  pub place : ℕ
  pub its_turn : slice_get order turn ≡ Some place
  pub part : PartLine
  pub there : slice_get parts place ≡ Some part
  pub input : ℕ
  pub its_input : input < inputs_of (kind_of part.form)
  pub number : ℕ
  pub joint : Joint
  pub link : slice_get joints number ≡ Some joint
  pub taker : joint.taker ≡ place
  pub taken_at : joint.input ≡ input
  pub cause : IsCause (kind_of part.form) joint (format_into joints flows place input) (format_into joints flows place 0) fault
  pub before : AllFit parts joints flows (take turn order)
  pub first : (other : ℕ) → other < input → InputFits joints flows place (kind_of part.form) other
