-- The front of a port's done goes to another port.
use Rattle.std.specs.Prelude.{◌≡◌, ℕ, true, List, [], ◌∷◌, Some}
use Rattle.il_machine.specs.declared.port.PortKey.{PortKey}
use Rattle.il_machine.specs.declared.header.Spot.{Spot}
use Rattle.il_machine.specs.declared.header.HeaderState.{HeaderState}
use Rattle.il_machine.specs.World.{Load}
use Rattle.il_machine.specs.Headers.{in_done, is_for}
use Rattle.il_machine.specs.Stock.{Stocked, done_pulled, pushed}

-- each header in done of the port was made for the other one too
abbrev pub AreDoneFor : PortKey → PortKey → Stocked → Type 0
AreDoneFor port to s = (number : ℕ) (h : HeaderState) → s.headers.header number ≡ Some h → in_done port h ≡ true → is_for to h ≡ true

-- The first of the numbers, those of the port's done, left it, and was put at the spot of the other port with what it carried. Where
-- there is none nothing changed.
abbrev pub IsPassed : PortKey → PortKey → Spot → List ℕ → Stocked → Stocked → Type 0
IsPassed port to spot [] s t = t ≡ s
IsPassed port to spot (number ∷ rest) s t = (load : Load) × (s.loads number ≡ Some load) × (t ≡ pushed to spot number load (done_pulled port s))
