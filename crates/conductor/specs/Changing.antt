-- The step that is due, looked for link by link.
use Rattle.std.specs.Prelude.{◌≡◌, ℕ, Bool, true, List, slice_get, Some}
use Rattle.il_machine.specs.declared.answer.Progress.{Progress}
use Rattle.conductor.specs.declared.changing.Due.{Due}
use Rattle.conductor.specs.declared.phase.ChangeStep.{ChangeStep}
use Rattle.conductor.specs.declared.phase.ChangeStep.TheVariants.{Disable, Retune, Enable}
use Rattle.conductor.specs.declared.phase.LateLink.{LateLink}
use Rattle.conductor.specs.Phases.{IsStep, NoneBefore, is_disabled}

-- the first link that passes the test
pub record IsFirst (test : LateLink → Bool) (lates : List LateLink) (number : ℕ) : Type 0 where
  pub late : LateLink
  pub there : slice_get lates number ≡ Some late
  pub passes : test late ≡ true
  pub none_before : NoneBefore test lates number

-- the step with which a change that was begun goes on
abbrev pub IsNextStep : LateLink → ChangeStep → Type 0
IsNextStep late Disable = ⊥
IsNextStep late Retune = (late.steps ≡ 1) × (is_disabled late ≡ true)
IsNextStep late Enable = late.steps ≡ 2

abbrev pub HasNoStep : LateLink → Type 0
HasNoStep late = (step : ChangeStep) → IsNextStep late step → ⊥

pub record IsDue (told : List Progress) (lates : List LateLink) (due : Due) : Type 0 where
  pub late : LateLink
  pub there : slice_get lates due.number ≡ Some late
  pub step : IsStep told lates due.number late due.step

abbrev pub NoneDue : List Progress → List LateLink → Type 0
NoneDue told lates = (number : ℕ) (late : LateLink) (step : ChangeStep) → slice_get lates number ≡ Some late → IsStep told lates number late step → ⊥
