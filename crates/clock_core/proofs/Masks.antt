-- A mask of eight ports.
use Rattle.std.proofs.Common.{◌≡◌, ℕ, ◌<◌, ◌≤◌, inl, inr, ap}
use Rattle.std.specs.Prelude.{IsTrue, ◌==◌, false}
use Rattle.std.specs.Int.{bit_at}
use Rattle.std.proofs.lemmas.Bool.{cases_lt}
use Rattle.std.proofs.lemmas.Nat.Bits.{bit_at_above}

-- no port from eight on is in it
pub no_port-above : (ports port : ℕ) → ports < 256 → 8 ≤ port → (bit_at ports port == 1) ≡ false
no_port-above ports port small above = ap (λ (bit : ℕ). bit == 1) (bit_at_above ports 8 port small above)

different : IsTrue false → ⊥
different h = cc

-- so a port that is in it is one of eight
pub port-below : (ports port : ℕ) → ports < 256 → IsTrue (bit_at ports port == 1) → port < 8
port-below ports port small waits = elim (cases_lt port 8) [
  | inl below ↦ below
  | inr above ↦ absurd (different (rw (no_port-above ports port small above) at waits))
]
