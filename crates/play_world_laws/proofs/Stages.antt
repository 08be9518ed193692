-- The machine's changes of a component are steps from stage to stage.
use Rattle.std.proofs.Common.{◌≡◌, ℕ, zero, suc, ◌+◌, ◌<◌, ◌≤◌, true, false, ◌||◌, [], ◌∷◌, ◌++◌, Some, None, refl, sym, ap, subst, le-ltb, arith}
use Rattle.omx_types.specs.declared.state.State.{State}
use Rattle.omx_types.specs.declared.state.State.TheVariants.{Idle}
use Rattle.omx_types.specs.declared.command.Command.{Command}
use Rattle.omx_types.specs.declared.command.Command.TheVariants.{StateSet}
use Rattle.il_machine.specs.States.{same_state}
use Rattle.il_machine.specs.Settings.{fits}
use Rattle.il_machine.specs.World.{Component}
use Rattle.il_machine.specs.Look.{Look}
use Rattle.il_machine.specs.Units.{units_of, free_units}
use Rattle.il_machine.specs.Commands.{is_at_once, sent, state_fault, run_idle, run_front}
use Rattle.play_world_laws.specs.Standing.{target, before, commands_at, pending_to, standing}
use Rattle.play_world_laws.specs.Telling.{last_told}

-- ---- begun

pub begin_stands : (phase : ℕ) (a : Component) → phase < 4 → standing phase 4 a ≡ standing (phase + 1) 0 a
begin_stands zero a l = refl
begin_stands (suc zero) a l = refl
begin_stands (suc (suc zero)) a l = refl
begin_stands (suc (suc (suc zero))) a l = refl
begin_stands (suc (suc (suc (suc n)))) a l = absurd (omega arith)

pub begin_told : (phase : ℕ) → last_told (phase + 1) 0 ≡ last_told phase 4
begin_told zero = refl
begin_told (suc n) = let e : suc n + 1 ≡ suc (suc n) = omega arith in rw e refl

-- ---- sent

pub not_at_once : (phase : ℕ) → is_at_once (StateSet (target phase)) ≡ false
not_at_once zero = refl
not_at_once (suc zero) = refl
not_at_once (suc (suc zero)) = refl
not_at_once (suc (suc (suc zero))) = refl
not_at_once (suc (suc (suc (suc n)))) = refl

abbrev pub queued : Command → Component → Component
queued command a = record a { commands = a.commands ++ command ∷ [] }

pub sent_is : (phase : ℕ) (a : Component) → sent (StateSet (target phase)) a ≡ queued (StateSet (target phase)) a
sent_is phase a = rw (not_at_once phase) refl

pub send_stands : (phase : ℕ) (a : Component) → a ≡ standing phase 0 a → queued (StateSet (target phase)) a ≡ standing phase 1 (queued (StateSet (target phase)) a)
send_stands phase a e =
    let there : queued (StateSet (target phase)) (standing phase 0 a) ≡ standing phase 1 (queued (StateSet (target phase)) (standing phase 0 a)) = refl in
    subst (λ (z : Component). queued (StateSet (target phase)) z ≡ standing phase 1 (queued (StateSet (target phase)) z)) (sym e) there

pub send_told : (phase : ℕ) → last_told phase 1 ≡ last_told phase 0
send_told zero = refl
send_told (suc n) = refl

-- ---- run

pub commands_are : (phase stage : ℕ) (a : Component) → a ≡ standing phase stage a → a.commands ≡ commands_at phase stage
commands_are phase stage a e = ap (λ (z : Component). z.commands) e

pub run_goes : (phase : ℕ) (a : Component) → a ≡ standing phase 1 a → run_idle a a.commands ≡ None
run_goes phase a e =
    let c : a.commands ≡ StateSet (target phase) ∷ [] = commands_are phase 1 a e in
    let p : a.pending ≡ None = ap (λ (z : Component). z.pending) e in
    rw (c, p) refl

faultless : (l : Look) (phase : ℕ) (a : Component) (state : State) → state ≡ before phase → 1 ≤ phase → phase ≤ 4 → fits a.settings ≡ true → (phase ≡ 1 → units_of a.settings.kind ≤ free_units l)
    → state_fault l (record a { state = state; commands = [] }) (target phase) ≡ None
faultless l zero a state e i j f u = absurd (omega arith)
faultless l (suc zero) a state e i j f u = rw (e, f, le-ltb (free_units l) (units_of a.settings.kind) (u refl)) refl
faultless l (suc (suc zero)) a state e i j f u = rw e refl
faultless l (suc (suc (suc zero))) a state e i j f u = rw e refl
faultless l (suc (suc (suc (suc zero)))) a state e i j f u = rw e refl
faultless l (suc (suc (suc (suc (suc n))))) a state e i j f u = absurd (omega arith)

abbrev pub ran : ℕ → Component → Component
ran phase a = record a { commands = []; pending = Some (pending_to (target phase)); holds = a.holds || same_state (target phase) Idle }

pub run_is : (l : Look) (phase : ℕ) (a : Component) → a ≡ standing phase 1 a → 1 ≤ phase → phase ≤ 4 → fits a.settings ≡ true → (phase ≡ 1 → units_of a.settings.kind ≤ free_units l) → run_front l a.commands a ≡ ran phase a
run_is l phase a e i j f u =
    let c : a.commands ≡ StateSet (target phase) ∷ [] = commands_are phase 1 a e in
    let s : a.state ≡ before phase = ap (λ (z : Component). z.state) e in
    let z : state_fault l (record a { commands = [] }) (target phase) ≡ None = faultless l phase a a.state s i j f u in
    rw (c, z) refl

run_there : (phase : ℕ) (a : Component) → ran phase (standing phase 1 a) ≡ standing phase 2 (ran phase (standing phase 1 a))
run_there zero a = refl
run_there (suc zero) a = refl
run_there (suc (suc zero)) a = refl
run_there (suc (suc (suc zero))) a = refl
run_there (suc (suc (suc (suc n)))) a = refl

pub run_stands : (phase : ℕ) (a : Component) → a ≡ standing phase 1 a → ran phase a ≡ standing phase 2 (ran phase a)
run_stands phase a e = subst (λ (z : Component). ran phase z ≡ standing phase 2 (ran phase z)) (sym e) (run_there phase a)

pub run_told : (phase : ℕ) → last_told phase 2 ≡ last_told phase 1
run_told zero = refl
run_told (suc n) = refl

-- ---- told

pub tell_stands : (phase : ℕ) (a : Component) → standing phase 4 a ≡ standing phase 3 a
tell_stands zero a = refl
tell_stands (suc zero) a = refl
tell_stands (suc (suc zero)) a = refl
tell_stands (suc (suc (suc zero))) a = refl
tell_stands (suc (suc (suc (suc n)))) a = refl

pub told_now : (phase : ℕ) → 1 ≤ phase → last_told phase 4 ≡ Some (target phase)
told_now zero l = absurd (omega arith)
told_now (suc n) l = refl
