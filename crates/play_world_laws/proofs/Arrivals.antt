-- What is due at a component of a play's world, and what then happens, but for the second Idle.
use Rattle.std.proofs.Common.{◌≡◌, ℕ, zero, suc, Bool, true, not, ◌||◌, nat_eq, refl, ap}
use Rattle.il_machine.specs.declared.answer.Pending.{Pending}
use Rattle.il_machine.specs.declared.port.PortKey.{PortKey}
use Rattle.il_machine.specs.declared.port.Link.{Link}
use Rattle.il_machine.specs.declared.port.Port.{Port}
use Rattle.il_machine.specs.declared.port.PortState.{PortState}
use Rattle.il_machine.specs.Lists.{holds_at}
use Rattle.il_machine.specs.Headers.{Seen, is_for}
use Rattle.il_machine.specs.Ports.{is_populated, has_no_header}
use Rattle.play_world_laws.specs.Standing.{target, pending_at, pending_to}
use Rattle.play_world_laws.specs.Telling.{last_told}
use Rattle.play_world_laws.specs.Wiring.{joined_state}

-- ---- what is pending

pub pending_of : (phase stage : ℕ) (test : Pending → Bool) → holds_at (pending_at phase stage) test ≡ true → (stage ≡ 2) × (test (pending_to (target phase)) ≡ true)
pending_of phase zero test h = absurd cc
pending_of phase (suc zero) test h = absurd cc
pending_of phase (suc (suc zero)) test h = (refl, h)
pending_of phase (suc (suc (suc n))) test h = absurd cc

-- ---- due is due in the model

pub populated_test : (headers : Seen) (q : Port) (link : Link) → q.state ≡ joined_state link → (not q.state.enabled || is_populated headers q) ≡ is_populated headers q
populated_test headers q link s = ap (λ (z : PortState). not z.enabled || is_populated headers q) s

pub unmade_by : (headers : Seen) (q : Port) (key : PortKey) (m : ℕ) → q.key ≡ key → headers.count (is_for key) ≡ m → has_no_header headers q ≡ nat_eq m 0
unmade_by headers q key m k c = rw (k, c) refl

-- ---- what then happens

pub reached_told : (phase : ℕ) → last_told phase 3 ≡ last_told phase 2
reached_told zero = refl
reached_told (suc n) = refl
