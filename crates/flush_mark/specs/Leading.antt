-- A change of headers leads from one stock to another.
use Rattle.std.specs.Prelude.{◌≡◌, List}
use Rattle.il_machine.specs.World.{HeaderRecord}
use Rattle.il_machine.specs.Stock.{Stocked, StandsFor}

-- The stock stands for what the change makes of each list that it stood for. Its key, its ports and its next number stay.
pub record Leads (change : List HeaderRecord → List HeaderRecord) (old new : Stocked) : Type 0 where
  pub stands : (headers : List HeaderRecord) → StandsFor old headers → StandsFor new (change headers)
  pub key : new.key ≡ old.key
  pub ports : new.ports ≡ old.ports
  pub next : new.next ≡ old.next
