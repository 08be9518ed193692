-- hand_back in a play's world: of the front of done where there is one, else of a header that was not used.
use Rattle.std.proofs.Common.{◌≡◌, ℕ, zero, suc, false}
use Rattle.il_machine.specs.States.{is_invalid}
use Rattle.play_world_laws.specs.Standing.{target, state_at}
use Rattle.play_world_laws.proofs.Sends.{never_invalid}

-- ---- returning

target_valid : (phase : ℕ) → is_invalid (target phase) ≡ false
target_valid phase = never_invalid (suc phase)

pub state_valid : (phase stage : ℕ) → is_invalid (state_at phase stage) ≡ false
state_valid phase zero = never_invalid phase
state_valid phase (suc zero) = never_invalid phase
state_valid phase (suc (suc zero)) = never_invalid phase
state_valid phase (suc (suc (suc n))) = target_valid phase
