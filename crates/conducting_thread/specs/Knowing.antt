-- What the one who conducts knows of its plan: as many components, and late sources that give into links.
use Rattle.std.specs.Prelude.{◌≡◌, ℕ, ◌<◌, All, length}
use Rattle.conductor.specs.declared.phase.LateLink.{LateLink}
use Rattle.conductor.specs.declared.phase.Phase.{Phase}
use Rattle.conductor.specs.declared.phase.Phase.TheVariants as phases
use Rattle.conductor.specs.Hearing.{ConductorValue}
use Rattle.play_forms.specs.Plans.{PlanValue}
use Rattle.play_plan_laws.specs.Casting.{joint_of}

-- the component gives into one of the plan's links
abbrev pub GivesInto : PlanValue → ℕ → Type 0
GivesInto plan component = (link : ℕ) × (link < length plan.joints) × ((joint_of plan link).giver ≡ component)

pub record KnowsPlan (plan : PlanValue) (value : ConductorValue) : Type 0 where
  pub many : length value.told ≡ length plan.parts
  pub links : All (λ (late : LateLink). GivesInto plan late.source) value.lates

-- a phase that changes a link names the component that gives into it
abbrev pub IsOfPlan : PlanValue → Phase → Type 0
IsOfPlan plan (phases.Change component step) = GivesInto plan component
IsOfPlan plan other = Unit {0}
