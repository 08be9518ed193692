-- The worlds between which a play runs.
use Rattle.std.specs.Prelude.{◌≡◌, ℕ, List, length, Some, MatchOption}
use Rattle.omx_types.specs.declared.handle.Handle.{Handle}
use Rattle.outside_io.specs.Files.{Outside}
use Rattle.il_machine.specs.World.{World, stream_of}
use Rattle.play_build_laws.specs.Stages.{IsStage, Joining}
use Rattle.play_forms.specs.Plans.{PlanValue}
use Rattle.play_plan_laws.specs.Assemblies.{PlayFiles, assembly_of}
use Rattle.play_plan_laws.specs.Endings.{IsPlayedOut}
use Rattle.play_result_laws.specs.Files.{IsWriter}

-- the plan's graph, with its components set, its files attached and its tunnels set up, and nothing more
abbrev pub IsOpening : PlanValue → PlayFiles → World → Type 0
IsOpening plan files w = (handles : List Handle) × IsStage (assembly_of plan files) (Joining (length plan.joints)) handles w

-- what went into the file of the component of that number
abbrev pub HasWritten : World → ℕ → List ℕ → Type 0
HasWritten w number text = MatchOption (stream_of number w) ⊥ (λ s. s.written ≡ text)

-- the play was done whole, and each sink wrote its file
pub record IsEnding (plan : PlanValue) (new : Outside) (w : World) : Type 0 where
  pub played : IsPlayedOut plan w
  pub sinks : (place : ℕ) (name text : List ℕ) → IsWriter plan.parts place name → new.file name ≡ Some text → HasWritten w place text
