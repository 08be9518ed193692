-- What a graph keeps but for its components' parts: all of it is the world's. The parts stand beside the rest, and where a change leaves them
-- alone, it is told without them.
use Rattle.std.specs.Prelude.{◌≡◌, ◌<◌, ℕ, map, All, Some}
use Rattle.il_machine.specs.World.{Load, World, number_of}
use Rattle.il_machine.specs.Headers.{load_at, Once}
use Rattle.il_machine.specs.Look.{look}
use Rattle.il_machine.specs.Whole.{Kept, IsNoticed, HasProgress}

-- `Stands` without its clause of the parts
pub record StandsBare (kept : Kept) (w : World) : Type 0 where
  pub looks : look w ≡ kept.looks
  pub loads : (number : ℕ) (load : Load) → kept.loads number ≡ Some load → load_at number w.headers ≡ Some load
  pub noticed : All (IsNoticed w) kept.noticed
  pub progress : HasProgress kept.clients w
  pub streams : map (λ s. s.component) w.streams ≡ map number_of w.components
  pub once : Once w.headers
  pub given : All (λ g. g.component < w.numbered) w.given

-- for every world that was stood for so there is one that is stood for now, reached by the change
abbrev pub StepsBare : Kept → Kept → (World → World → Type 0) → Type 0
StepsBare old new Change = (w : World) → StandsBare old w → (v : World) × StandsBare new v × Change w v

-- the same of the worlds that meet a condition which what is kept doesn't tell
abbrev pub StepsBareWhere : Kept → Kept → (World → Type 0) → (World → World → Type 0) → Type 0
StepsBareWhere old new Condition Change = (w : World) → StandsBare old w → Condition w → (v : World) × StandsBare new v × Change w v

-- it is so in every world that is stood for
abbrev pub AlwaysBare : Kept → (World → Type 0) → Type 0
AlwaysBare kept Answer = (w : World) → StandsBare kept w → Answer w
