-- What a component is told of the graph's units and waits.
use Rattle.std.specs.Prelude.{◌≡◌, ℕ}
use Rattle.il_machine.specs.Look.{Look}
use Rattle.il_machine.specs.Units.{free_units}

-- in the look so many units are free, and so many waits were numbered
pub record Gives (l : Look) (free waits : ℕ) : Type 0 where
  pub units : free_units l ≡ free
  pub numbered : l.waits ≡ waits
