-- How much of what the client of a play asks for was asked, by what its conductor has answered.
use Rattle.std.specs.Prelude.{◌≡◌, ℕ, zero, suc, ◌+◌, ◌<◌, ◌≤◌, ◌==◌, true, nat_lt, if◌then◌else◌, List, [], ◌∷◌, ◌++◌, count_by, drop, flat_map, length, map, slice_get, take, Some}
use Rattle.omx_types.specs.declared.handle.Handle.{Handle}
use Rattle.il_machine.specs.Acts.{Act, Reply}
use Rattle.il_machine.specs.World.{Component, World}
use Rattle.conductor.specs.declared.phase.ChangeStep.{ChangeStep}
use Rattle.conductor.specs.declared.phase.ChangeStep.TheVariants.{Disable, Retune, Enable}
use Rattle.conductor.specs.declared.phase.LateLink.{LateLink}
use Rattle.conductor.specs.Hearing.{ConductorValue}
use Rattle.play_build_laws.specs.Assembly.{Assembly}
use Rattle.play_forms.specs.Plans.{PlanValue}
use Rattle.play_world_laws.specs.Cast.{Cast, links_of}
use Rattle.play_turn_laws.specs.Conducting.{IsLateOf}
use Rattle.play_plan_laws.specs.Assemblies.{PlayFiles, play_cast_of}
use Rattle.play_result_laws.specs.Asked.{AreTimely, Asking, BackToIdle, Disabling, Enabling, HasCause, IsDone, Retuning, ToExecuting, ToIdle, ToLoaded, acts_of, asked, change_of, tuned}

-- an act that is asked after these steps begins an asking in time, if it begins one
abbrev pub IsInTime : Assembly → List Handle → List Asking → List (Act × Reply) → Type 0
IsInTime s handles list steps = (k : ℕ) (one next : Asking) → slice_get list k ≡ Some one → slice_get list (k + 1) ≡ Some next
    → asked steps ≡ flat_map (acts_of s handles) (take (k + 1) list) → IsDone s one steps × HasCause s next steps

-- All of these was asked but what is left of the last.
pub record IsAsking (s : Assembly) (handles : List Handle) (list : List Asking) (left steps : List (Act × Reply)) : Type 0 where
  pub made : asked steps ++ left ≡ flat_map (acts_of s handles) list
  pub timely : AreTimely s handles list steps
  pub now : 1 ≤ length left → IsInTime s handles list steps
  pub last : 1 ≤ length left → (front : List Asking) × (one : Asking) × (list ≡ front ++ one ∷ []) × (length left ≤ length (acts_of s handles one))

-- ---- by the conductor

-- The links whose changes it has begun, in this order; of the last one's change some askings may still come.
pub record AreChanges (x : Cast) (recent : ℕ) (lates : List LateLink) (changes : List Asking) : Type 0 where
  pub links : List ℕ
  pub rest : List Asking
  pub begun : (i l : ℕ) (late : LateLink) → slice_get lates i ≡ Some late → IsLateOf x l late → count_by (λ (k : ℕ). k == l) links ≡ (if nat_lt 0 late.steps then 1 else 0)
  pub only : (l : ℕ) → 1 ≤ count_by (λ (k : ℕ). k == l) links → (l < links_of x) × ((x.layout).is_late l ≡ true)
  pub parts : changes ++ rest ≡ flat_map change_of links
  pub last : (front : List ℕ) (l i : ℕ) (late : LateLink) → links ≡ front ++ l ∷ [] → slice_get lates i ≡ Some late → IsLateOf x l late
      → (l ≡ recent) × (rest ≡ drop late.steps (change_of l))

-- what it has answered, by how many states it has sent
abbrev pub answered : ℕ → List Asking → List Asking
answered zero changes = []
answered (suc zero) changes = ToIdle ∷ []
answered (suc (suc zero)) changes = ToIdle ∷ ToExecuting ∷ changes
answered (suc (suc (suc zero))) changes = ToIdle ∷ ToExecuting ∷ (changes ++ BackToIdle ∷ [])
answered _ changes = ToIdle ∷ ToExecuting ∷ (changes ++ BackToIdle ∷ ToLoaded ∷ [])

pub record IsAskedBy (x : Cast) (recent : ℕ) (s : Assembly) (handles : List Handle) (value : ConductorValue) (left steps : List (Act × Reply)) : Type 0 where
  pub changes : List Asking
  pub are : AreChanges x recent value.lates changes
  -- before Executing was sent none is begun
  pub early : value.sends ≤ 1 → changes ≡ []
  pub asking : IsAsking s handles (answered value.sends changes) left steps

-- ---- in a play of a plan with these files, from its opening on

abbrev pub handles_of : World → List Handle
handles_of opening = map (λ (c : Component). c.handle) opening.components

abbrev pub Asks : PlanValue → PlayFiles → World → ℕ → ConductorValue → List (Act × Reply) → List (Act × Reply) → Type 0
Asks plan files opening recent value left steps = IsAskedBy (play_cast_of plan).cast recent (tuned plan files) (handles_of opening) value left steps

-- what is asked by a step of a link's change
abbrev pub asking_of : ChangeStep → ℕ → Asking
asking_of Disable l = Disabling l
asking_of Retune l = Retuning l
asking_of Enable l = Enabling l
