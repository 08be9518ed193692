-- A header of a link is made in a play's world: exactly where the model can.
use Rattle.std.proofs.Common.{◌≡◌, ℕ, nat_eq, refl}
use Rattle.il_machine.specs.declared.port.PortKey.{PortKey}
use Rattle.il_machine.specs.declared.port.Port.{Port}
use Rattle.il_machine.specs.Headers.{Seen, is_for}
use Rattle.il_machine.specs.Ports.{is_populated}

-- ---- tests of plain values

pub populated_by : (headers : Seen) (q : Port) (key : PortKey) (made_ count : ℕ) → q.key ≡ key → q.setting.definition.count ≡ count → headers.count (is_for key) ≡ made_ → is_populated headers q ≡ nat_eq made_ count
populated_by headers q key made_ count k c m = rw (k, c, m) refl
