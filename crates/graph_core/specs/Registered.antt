-- What is true of all that a graph keeps: the registry gives each live handle's place.
use Rattle.std.specs.Prelude.{◌≡◌, ℕ, List, length, option_map}
use Rattle.omx_types.specs.declared.handle.Handle.{Handle}
use Rattle.il_machine.specs.Places.{first_place, AtMostOne, shift}
use Rattle.registry.specs.Handles.{Handles, resolved, live, AllGiven}
use Rattle.il_component.specs.Entries.{Entry}
use Rattle.graph_core.specs.Entries.{is_entry_at}

pub record Registered {C : Type 0} (entries : List (Entry C)) (registry : Handles ℕ) : Type 0 where
  pub registered : (h : Handle) → resolved registry h ≡ first_place (is_entry_at h) entries
  pub once : (h : Handle) → AtMostOne (is_entry_at h) entries
  pub live : live registry ≡ length entries
  pub given : AllGiven registry

-- The registry gives the places as they stood before one was removed, but for those before k.
pub record Shifted {C : Type 0} (k : ℕ) (entries : List (Entry C)) (registry : Handles ℕ) : Type 0 where
  pub places : (h : Handle) → resolved registry h ≡ option_map (shift k) (first_place (is_entry_at h) entries)
  pub once : (h : Handle) → AtMostOne (is_entry_at h) entries
