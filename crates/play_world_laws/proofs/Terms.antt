-- The machine's tests of where a component stands are the model's terms.
use Rattle.std.proofs.Common.{◌≡◌, ◌⊎◌, inl, inr, ℕ, zero, suc, ◌≤◌, true, is_none, refl, ap, arith}
use Rattle.il_machine.specs.States.{is_executing, is_running}
use Rattle.play_world_laws.specs.Standing.{target, before, state_at, pending_at}

target_executing : (phase : ℕ) → is_executing (target phase) ≡ true → phase ≡ 2
target_executing zero e = absurd cc
target_executing (suc zero) e = absurd cc
target_executing (suc (suc zero)) e = refl
target_executing (suc (suc (suc zero))) e = absurd cc
target_executing (suc (suc (suc (suc n)))) e = absurd cc

before_executing : (phase : ℕ) → is_executing (before phase) ≡ true → phase ≡ 3
before_executing zero e = absurd cc
before_executing (suc n) e = ap suc (target_executing n e)

target_running : (phase : ℕ) → is_running (target phase) ≡ is_executing (target phase)
target_running zero = refl
target_running (suc zero) = refl
target_running (suc (suc zero)) = refl
target_running (suc (suc (suc zero))) = refl
target_running (suc (suc (suc (suc n)))) = refl

before_running : (phase : ℕ) → is_running (before phase) ≡ is_executing (before phase)
before_running zero = refl
before_running (suc n) = target_running n

-- a play's component never pauses
pub state_running : (phase stage : ℕ) → is_running (state_at phase stage) ≡ is_executing (state_at phase stage)
state_running phase zero = before_running phase
state_running phase (suc zero) = before_running phase
state_running phase (suc (suc zero)) = before_running phase
state_running phase (suc (suc (suc n))) = target_running phase

-- ---- Executing

abbrev Executes : ℕ → ℕ → Type 0
Executes phase stage = ((phase ≡ 2) × (3 ≤ stage)) ⊎ ((phase ≡ 3) × (stage ≤ 2))

pub executes_back : (phase stage : ℕ) → is_executing (state_at phase stage) ≡ true → Executes phase stage
executes_back phase zero e = inr (before_executing phase e, omega arith)
executes_back phase (suc zero) e = inr (before_executing phase e, omega arith)
executes_back phase (suc (suc zero)) e = inr (before_executing phase e, omega arith)
executes_back phase (suc (suc (suc n))) e = inl (target_executing phase e, omega arith)

pub late_stage : (phase stage : ℕ) → phase ≡ 2 → 3 ≤ stage → (is_executing (state_at phase stage) ≡ true) × (is_none (pending_at phase stage) ≡ true)
late_stage phase zero e l = absurd (omega arith)
late_stage phase (suc zero) e l = absurd (omega arith)
late_stage phase (suc (suc zero)) e l = absurd (omega arith)
late_stage phase (suc (suc (suc n))) e l = (rw e refl, refl)

pub early_stage : (phase stage : ℕ) → phase ≡ 3 → stage ≤ 2 → is_executing (state_at phase stage) ≡ true
early_stage phase zero e l = rw e refl
early_stage phase (suc zero) e l = rw e refl
early_stage phase (suc (suc zero)) e l = rw e refl
early_stage phase (suc (suc (suc n))) e l = absurd (omega arith)

pub at_rest_at : (phase stage : ℕ) → stage ≤ 1 → is_none (pending_at phase stage) ≡ true
at_rest_at phase zero l = refl
at_rest_at phase (suc zero) l = refl
at_rest_at phase (suc (suc n)) l = absurd (omega arith)

pub resting_back : (phase stage : ℕ) → is_none (pending_at phase stage) ≡ true → stage ≤ 2 → stage ≤ 1
resting_back phase zero e l = omega arith
resting_back phase (suc zero) e l = omega arith
resting_back phase (suc (suc zero)) e l = absurd cc
resting_back phase (suc (suc (suc n))) e l = absurd (omega arith)
