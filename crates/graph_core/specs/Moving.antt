-- Headers move from one end of a tunnel to the other.
use Rattle.std.specs.Prelude.{◌≡◌, ℕ, true, Some}
use Rattle.il_machine.specs.declared.port.PortKey.{PortKey}
use Rattle.il_machine.specs.declared.header.HeaderState.{HeaderState}
use Rattle.il_machine.specs.World.{World}
use Rattle.il_machine.specs.Headers.{is_for, is_owned_by}
use Rattle.il_machine.specs.Stock.{Stocked, StandsFor}

-- each header that the port has was made for the other port too
abbrev pub AreShared : PortKey → PortKey → Stocked → Type 0
AreShared key peer s = (number : ℕ) (h : HeaderState) → s.headers.header number ≡ Some h → is_owned_by key h.owner ≡ true → is_for peer h ≡ true

-- The stock stands for the headers of each world whose headers it stood for, as the change leaves them. Its key, its ports and its next number stay.
pub record Moves (change : World → World) (old new : Stocked) : Type 0 where
  pub stands : (w : World) → StandsFor old w.headers → StandsFor new (change w).headers
  pub key : new.key ≡ old.key
  pub ports : new.ports ≡ old.ports
  pub next : new.next ≡ old.next
