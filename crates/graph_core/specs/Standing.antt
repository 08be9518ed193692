-- What is true of all that a graph keeps: it stands for a sound world, the registry gives each live handle's place, and each port is
-- one of the stock's.
use Rattle.std.specs.Prelude.{◌≡◌, ◌+◌, ◌<◌, ◌≤◌, ℕ, List, length, All, slice_get, Some}
use Rattle.il_machine.specs.declared.answer.Progress.{Progress}
use Rattle.il_machine.specs.World.{World}
use Rattle.stock_laws.specs.Bare.{StandsBare}
use Rattle.il_machine.specs.Whole as machine
use Rattle.il_machine.specs.Sound.{Sound}
use Rattle.il_machine.specs.Stock.{Stocked}
use Rattle.il_component.specs.Entries.{Entry, component_of}
use Rattle.port_stock.specs.Kept.{StockKept, stocked}
use Rattle.port_rules.specs.Tests.{HasPortsOf}
use Rattle.registry.specs.Handles.{Handles}
use Rattle.graph_core.specs.Entries.{kept, waiters}
use Rattle.graph_core.specs.Registered.{Registered}

-- a sound world that what is kept stands for
pub record SoundWorld (k : machine.Kept) : Type 0 where
  pub world : World
  pub stands : StandsBare k world
  pub sound : Sound world

module _ {C : Type 0} where
  -- the ports of each component are the stock's, and the stock has none of a component that wasn't numbered
  pub record HasPorts (entries : List (Entry C)) (s : Stocked) (numbered : ℕ) : Type 0 where
    pub there : (i : ℕ) (e : Entry C) → slice_get entries i ≡ Some e → HasPortsOf (component_of e) s
    pub below : All (λ key. key.component < numbered) s.ports

  pub record IsGraph (progress : C → Progress) (entries : List (Entry C)) (registry : Handles ℕ) (stock : StockKept) (units waits capacity : ℕ) : Type 0 where
    pub registered : Registered entries registry
    pub roomy : 32 ≤ capacity
    pub few : length entries ≤ 32
    pub ports : HasPorts entries (stocked stock) registry.given
    -- each component that is on its way to wait gets a number
    pub numbers : waits + waiters entries ≤ 18446744073709551615
    pub worlds : SoundWorld (kept progress (record { entries = entries; stock = stock; units = units; waits = waits; numbered = registry.given }))
