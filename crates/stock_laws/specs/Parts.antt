-- A component's part, as the component changes.
use Rattle.std.specs.Prelude.{◌≡◌, ◌≢◌, ℕ, List, Some, slice_get}
use Rattle.il_machine.specs.World.{Component, number_of}

-- the component is the same one, with the same part, file and work
pub record KeepsPart (c d : Component) : Type 0 where
  pub number : number_of d ≡ number_of c
  pub kind : d.settings.kind ≡ c.settings.kind
  pub file : d.file ≡ c.file
  pub failed : d.part.failed ≡ c.part.failed
  pub work : d.work ≡ c.work

-- no other component has the number
abbrev pub IsAlone : ℕ → Component → List Component → Type 0
IsAlone i c components = (j : ℕ) (d : Component) → slice_get components j ≡ Some d → j ≢ i → number_of d ≢ number_of c
