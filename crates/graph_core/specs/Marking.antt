-- Which components of a graph are asked whether something is due.
use Rattle.std.specs.Prelude.{◌≡◌, ◌<◌, ℕ, true, false, List, length, slice_get, Some}
use Rattle.bit_set.specs.Members.{has}
use Rattle.il_machine.specs.Ports.{IsCalm}
use Rattle.il_component.specs.Entries.{Entry, component_of}

-- Each component at which something is pending is marked by its place. One that is marked may be calm.
pub record AreMarked {C : Type 0} (entries : List (Entry C)) (marks : ℕ) : Type 0 where
  pub there : (i : ℕ) → has marks i ≡ true → i < length entries
  pub calm : (i : ℕ) (e : Entry C) → slice_get entries i ≡ Some e → has marks i ≡ false → IsCalm (component_of e)
