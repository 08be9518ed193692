-- The steps of a run that failed, and the world that the run left.
use Rattle.std.specs.Prelude.{◌≡◌, ◌⊎◌, ℕ, ◌≤◌, List, [], ◌∷◌, Option, Some}
use Rattle.omx_types.specs.declared.fault.PartFault.{PartFault}
use Rattle.omx_types.specs.declared.fault.PartFault.TheVariants as parts
use Rattle.outside_io.specs.Causes.{Rose}
use Rattle.outside_io.specs.Stops.{GaveNothing}
use Rattle.il_machine.specs.Acts.{Act, Reply}
use Rattle.il_machine.specs.Acts as acts
use Rattle.il_machine.specs.Run.{Run}
use Rattle.il_machine.specs.World.{World}
use Rattle.play_forms.specs.Plans.{PlanValue}
use Rattle.play_plan_laws.specs.Assemblies.{PlayFiles}
use Rattle.play_result_laws.specs.Files.{IsWriter}
use Rattle.play_result_laws.specs.Worlds.{HasWritten, IsOpening}
use Rattle.play_files.specs.Closing.{IsSinkAt, IsSourceAt}
use Rattle.play_files.specs.Seen.{FileSeen, SinkSeen, SourceSeen}
use Rattle.play_course.specs.declared.player.RunFault.{RunFault}
use Rattle.play_course.specs.declared.player.RunFault.TheVariants as runs
use Rattle.play_course.specs.Running.{HasTaken}

-- what a fault of a step of the component at the place is for the run
abbrev pub fault_at : ℕ → PartFault → RunFault
fault_at place parts.Read = runs.Read
fault_at place parts.Write = runs.Write
fault_at place (parts.Short at size) = runs.Short place at size

-- a work of the component at the place comes back with this fault
abbrev pub IsFailureOf : Act → ℕ → PartFault → Type 0
IsFailureOf (acts.Finish done) place fault = (done.component ≡ place) × (done.fault ≡ Some fault)
IsFailureOf other place fault = ⊥

-- among the acts is one in which a step of the component at the place failed so
abbrev pub HasFailure : List (Act × Reply) → ℕ → PartFault → Type 0
HasFailure [] place fault = ⊥
HasFailure (step ∷ steps) place fault = IsFailureOf step.0 place fault ⊎ HasFailure steps place fault

-- a short source, at that place or behind it
abbrev pub IsShortBehind : ℕ → ℕ → PartFault → Type 0
IsShortBehind least place (parts.Short at size) = least ≤ place
IsShortBehind least place other = ⊥

-- Of the steps that failed a failed read is told first, then a failed write, then a short source: that at the least place.
abbrev pub TellsFirst : List (Act × Reply) → RunFault → Type 0
TellsFirst steps runs.OutOfMemory = Unit {0}
TellsFirst steps runs.Read = (place : ℕ) × HasFailure steps place parts.Read
TellsFirst steps runs.Write = ((place : ℕ) × HasFailure steps place parts.Write) × ((place : ℕ) → HasFailure steps place parts.Read → ⊥)
TellsFirst steps (runs.Short place at size) = HasFailure steps place (parts.Short at size) × ((other : ℕ) (fault : PartFault) → HasFailure steps other fault → IsShortBehind place other fault)

-- a step that failed shows in the file of its component
abbrev pub ShowsAt : List (Option FileSeen) → List (Option FileSeen) → ℕ → PartFault → Type 0
ShowsAt before after place parts.Read = (first : SourceSeen) × (last : SourceSeen) × IsSourceAt before place first × IsSourceAt after place last × Rose first.faults last.faults
ShowsAt before after place parts.Write = (first : SinkSeen) × (last : SinkSeen) × IsSinkAt before place first × IsSinkAt after place last × Rose first.faults last.faults
ShowsAt before after place (parts.Short at size) = (source : SourceSeen) × IsSourceAt before place source × GaveNothing source.size source.ends source.offset at size

-- from where the play of the plan begins, the acts lead to the world
pub record LeadsTo (plan : PlanValue) (files : PlayFiles) (steps : List (Act × Reply)) (left : World) : Type 0 where
  pub opening : World
  pub opens : IsOpening plan files opening
  pub runs : Run opening steps left

-- What a run that failed leaves: the world to which its acts led, whichever of their steps failed on the way; each of these shows in its
-- file, and the first of them is told. Each sink took what was written to it by then.
pub record LeavesWorld (plan : PlanValue) (files : PlayFiles) (before after : List (Option FileSeen)) (fault : RunFault) : Type 0 where
  pub steps : List (Act × Reply)
  pub left : World
  pub leads : LeadsTo plan files steps left
  pub first : TellsFirst steps fault
  pub shows : (place : ℕ) (why : PartFault) → HasFailure steps place why → ShowsAt before after place why
  pub took : (place : ℕ) (name : List ℕ) → IsWriter plan.parts place name → (bytes : List ℕ) × HasTaken before after place bytes × HasWritten left place bytes

-- so it is, or memory was wanted before the run began
abbrev pub LeavesBehind : PlanValue → PlayFiles → List (Option FileSeen) → List (Option FileSeen) → RunFault → Type 0
LeavesBehind plan files before after fault = ((fault ≡ runs.OutOfMemory) × (after ≡ before)) ⊎ LeavesWorld plan files before after fault
