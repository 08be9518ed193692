-- What the one who conducts a play does, of its own acts alone: rounds of a look at each component in the order of the script, and then the
-- acts of the phase that is answered.
use Rattle.std.specs.Prelude.{◌≡◌, ◌≢◌, ◌⊎◌, ℕ, ◌<◌, false, List, [], ◌∷◌, ◌++◌, length, map, slice_get, take, Option, Some, Ok, Err}
use Rattle.omx_types.specs.declared.error.OmxError.{OmxError}
use Rattle.omx_types.specs.declared.handle.Handle.{Handle}
use Rattle.il_machine.specs.declared.answer.Progress.{Progress as Seen}
use Rattle.il_machine.specs.Acts.{Act, Reply}
use Rattle.il_machine.specs.Acts.Act.{Progress}
use Rattle.il_machine.specs.Acts.Reply.{Progressed}
use Rattle.conductor.specs.declared.phase.ChangeStep.{ChangeStep}
use Rattle.conductor.specs.declared.phase.ChangeStep.TheVariants as steps
use Rattle.conductor.specs.declared.phase.Phase.{Phase}
use Rattle.conductor.specs.declared.phase.Phase.TheVariants as phases
use Rattle.conductor.specs.Casting.{cast_of}
use Rattle.conductor.specs.Hearing.{ConductorValue, heard}
use Rattle.conductor.specs.Phases.{Conducts}
use Rattle.play_build_laws.specs.Assembly.{component_at}
use Rattle.play_forms.specs.Plans.{PlanValue}
use Rattle.play_plan_laws.specs.Assemblies.{PlayFiles}
use Rattle.play_result_laws.specs.Asked.{Asking, Disabling, Enabling, Retuning, acts_of, sending, tuned}

-- a look at each component, and what it showed
abbrev pub looks : List Handle → List (Option Seen) → List (Act × Reply)
looks (handle ∷ handles) (view ∷ views) = (Progress handle, Progressed (Ok view)) ∷ looks handles views
looks _ _ = []

abbrev pub asking_by : ChangeStep → ℕ → Asking
asking_by steps.Disable link = Disabling link
asking_by steps.Retune link = Retuning link
asking_by steps.Enable link = Enabling link

-- the acts of a phase, all accepted
abbrev pub AreMade : PlanValue → PlayFiles → List Handle → Phase → List (Act × Reply) → Type 0
AreMade plan files handles (phases.Send state) made = made ≡ map (sending state) handles
AreMade plan files handles (phases.Change component step) made =
    (link : ℕ) × (link < length plan.joints) × (component_at (tuned plan files) false link ≡ component) × (made ≡ acts_of (tuned plan files) handles (asking_by step link))
AreMade plan files handles _ made = made ≡ []

-- by these acts it came to know so much
pub data IsConducting (plan : PlanValue) (files : PlayFiles) (handles : List Handle) : List (Act × Reply) → ConductorValue → Type 0 where
  begins : IsConducting plan files handles [] (cast_of plan)
  round : (own : List (Act × Reply)) (value : ConductorValue) (views : List (Option Seen)) (phase : Phase) (next : ConductorValue) (made : List (Act × Reply))
      → IsConducting plan files handles own value → length views ≡ length handles → Conducts (heard value views) phase next → AreMade plan files handles phase made
      → IsConducting plan files handles (own ++ looks handles views ++ made) next

-- one of the acts of a phase was answered otherwise
pub record IsRefused (plan : PlanValue) (files : PlayFiles) (handles : List Handle) (own : List (Act × Reply)) : Type 0 where
  pub before : List (Act × Reply)
  pub value : ConductorValue
  pub views : List (Option Seen)
  pub phase : Phase
  pub next : ConductorValue
  pub made : List (Act × Reply)
  pub expected : Act × Reply
  pub left : List (Act × Reply)
  pub reply : Reply
  pub more : List (Act × Reply)
  pub conducting : IsConducting plan files handles before value
  pub seen : length views ≡ length handles
  pub conducts : Conducts (heard value views) phase next
  pub due : AreMade plan files handles phase (made ++ expected ∷ left)
  pub other : reply ≢ expected.1
  pub is : own ≡ before ++ looks handles views ++ made ++ (expected.0, reply) ∷ more

-- looks at the components up to one, at which it was refused, as if there were no such handle
pub record IsLostLook (handles : List Handle) (steps : List (Act × Reply)) : Type 0 where
  pub views : List (Option Seen)
  pub handle : Handle
  pub error : OmxError
  pub there : slice_get handles (length views) ≡ Some handle
  pub is : steps ≡ looks (take (length views) handles) views ++ (Progress handle, Progressed (Err error)) ∷ []

-- so did the acts of one who conducts
pub record IsLost (plan : PlanValue) (files : PlayFiles) (handles : List Handle) (own : List (Act × Reply)) : Type 0 where
  pub before : List (Act × Reply)
  pub value : ConductorValue
  pub looked : List (Act × Reply)
  pub conducting : IsConducting plan files handles before value
  pub lost : IsLostLook handles looked
  pub is : own ≡ before ++ looked

-- one of its acts was answered as none of a play is
abbrev pub IsHalted : PlanValue → PlayFiles → List Handle → List (Act × Reply) → Type 0
IsHalted plan files handles own = IsRefused plan files handles own ⊎ IsLost plan files handles own
