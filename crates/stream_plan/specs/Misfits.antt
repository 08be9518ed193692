-- A link that doesn't fit, among those into one input or one component.
use Rattle.std.specs.Prelude.{◌≡◌, ℕ, ◌<◌, List, slice_get, Some}
use Rattle.omx_types.specs.declared.kind.Kind.{Kind}
use Rattle.part_forms.specs.Kinds.{inputs_of}
use Rattle.script_lang.specs.declared.play_line.PartLine.{PartLine}
use Rattle.play_forms.specs.declared.flow.Flow.{Flow}
use Rattle.play_forms.specs.declared.joint.Joint.{Joint}
use Rattle.play_forms.specs.declared.plan_fault.PlanFault.{PlanFault}
use Rattle.play_forms.specs.Fitting.{InputFits, IsCause, format_into}
use Rattle.play_forms.specs.Parts.{kind_of}

-- a link into that input doesn't fit
pub record IsInputMisfit (joints : List Joint) (flows : List Flow) (place : ℕ) (kind : Kind) (input : ℕ) (fault : PlanFault) : Type 0 where
  pub number : ℕ
  pub joint : Joint
  pub link : slice_get joints number ≡ Some joint
  pub taker : joint.taker ≡ place
  pub taken_at : joint.input ≡ input
  pub cause : IsCause kind joint (format_into joints flows place input) (format_into joints flows place 0) fault

-- a link into the first of its inputs that has one
pub record IsFirstMisfit (joints : List Joint) (flows : List Flow) (place : ℕ) (part : PartLine) (fault : PlanFault) : Type 0 where
  pub input : ℕ
  pub its_input : input < inputs_of (kind_of part.form)
  pub misfit : IsInputMisfit joints flows place (kind_of part.form) input fault
  pub first : (other : ℕ) → other < input → InputFits joints flows place (kind_of part.form) other
