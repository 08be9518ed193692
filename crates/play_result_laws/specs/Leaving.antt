-- What a play leaves that met a fault.
use Rattle.std.specs.Prelude.{◌≡◌, ◌⊎◌, ℕ, List}
use Rattle.outside_io.specs.Files.{IsFrontOf, Outside}
use Rattle.play_forms.specs.Plain.{sink_text}
use Rattle.play_forms.specs.Plans.{PlanValue}
use Rattle.play_plan_laws.specs.Assemblies.{PlayFiles}
use Rattle.play_result_laws.specs.Files.{IsWriter}
use Rattle.play_result_laws.specs.Results.{HoldSinks, IsLogOf, IsPlanIn, OthersAreKept}

-- the name is as before, or holds a front of the text
abbrev pub IsKeptOrFront : List ℕ → List ℕ → Outside → Outside → Type 0
IsKeptOrFront name text old new = (new.file name ≡ old.file name) ⊎ IsFrontOf (new.file name) text

-- a front of a log of the play, which is written once each sink holds its whole text
abbrev pub IsLogBegun : (workers : ℕ) → PlanValue → PlayFiles → List (List ℕ) → List ℕ → Outside → Type 0
IsLogBegun workers plan files samples log new = HoldSinks plan samples new × ((text : List ℕ) × IsLogOf workers plan files new text × IsFrontOf (new.file log) text)

-- there is a plan, and some of its sinks may have been opened
pub record IsBegun (workers : ℕ) (script log : List ℕ) (old new : Outside) : Type 0 where
  pub plan : PlanValue
  pub files : PlayFiles
  pub samples : List (List ℕ)
  pub is : IsPlanIn script log old plan files samples
  pub sinks : (place : ℕ) (name : List ℕ) → IsWriter plan.parts place name → IsKeptOrFront name (sink_text plan samples place) old new
  pub log_is : (new.file log ≡ old.file log) ⊎ IsLogBegun workers plan files samples log new
  pub others : OthersAreKept plan.parts log old new

-- no told name changed, or the play had begun
abbrev pub IsLeft : (workers : ℕ) → List ℕ → List ℕ → Outside → Outside → Type 0
IsLeft workers script log old new = (new.file ≡ old.file) ⊎ IsBegun workers script log old new
