-- How the graph of a plan stands once nothing of its play goes on: it has all that it was assembled from, and rests.
use Rattle.std.specs.Prelude.{◌≡◌, ℕ, Bool, true, [], All, length}
use Rattle.omx_types.specs.declared.state.State.TheVariants.{Loaded}
use Rattle.il_machine.specs.declared.port.PortKey.{PortKey}
use Rattle.il_machine.specs.World.{Component, World}
use Rattle.play_build_laws.specs.Dismantling.{IsParted}
use Rattle.play_forms.specs.Plans.{PlanValue}
use Rattle.play_plan_laws.specs.Casting.{joint_of}
use Rattle.play_plan_laws.specs.Assemblies.{end_of}

-- the output of a link (false), and its input (true)
abbrev pub ends_of : PlanValue → Bool → ℕ → PortKey
ends_of plan side l = end_of side (joint_of plan l)

-- so many of the plan's links are parted, and the others are joined
abbrev pub HasParted : PlanValue → ℕ → World → Type 0
HasParted plan parted w = IsParted (ends_of plan) (length plan.joints) parted w

-- The world has all components of the plan, resting, with all its links and no header.
pub record HasEnded (plan : PlanValue) (w : World) : Type 0 where
  pub many : length w.components ≡ length plan.parts
  pub joined : HasParted plan 0 w

-- ---- after a whole play

-- the component is Loaded, its ports are enabled, no command waits, and every note was given
pub record IsAtEnd (c : Component) : Type 0 where
  pub state : c.state ≡ Loaded
  pub enabled : All (λ port. port.enabled ≡ true) c.ports
  pub commands : c.commands ≡ []
  pub told : c.notes ≡ []

-- The play was done whole: each component is at its end.
pub record IsPlayedOut (plan : PlanValue) (w : World) : Type 0 where
  pub ended : HasEnded plan w
  pub components : All IsAtEnd w.components
