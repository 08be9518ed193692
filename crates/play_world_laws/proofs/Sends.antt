-- The conductor's StateSet is sent to a component: it is accepted, and queued.
use Rattle.std.proofs.Common.{◌≡◌, ◌≢◌, ℕ, zero, suc, false, nat_eq, if◌then◌else◌, refl, eq-eqb, ne_eqb}
use Rattle.il_machine.specs.States.{is_invalid}
use Rattle.play_model.specs.Play.{Play}
use Rattle.play_world_laws.specs.Standing.{before}

pub never_invalid : (phase : ℕ) → is_invalid (before phase) ≡ false
never_invalid zero = refl
never_invalid (suc zero) = refl
never_invalid (suc (suc zero)) = refl
never_invalid (suc (suc (suc zero))) = refl
never_invalid (suc (suc (suc (suc zero)))) = refl
never_invalid (suc (suc (suc (suc (suc n))))) = refl

-- other components stay where they are
pub stage_else : (p : Play) (c k n : ℕ) → k ≢ c → (if nat_eq k c then n else p.stage k) ≡ p.stage k
stage_else p c k n e = rw (ne_eqb k c e) refl

pub stage_here : (p : Play) (c n : ℕ) → (if nat_eq c c then n else p.stage c) ≡ n
stage_here p c n = rw (eq-eqb c c refl) refl
