-- What a conductor answers by what it knows, and what it knows then.
use Rattle.std.specs.Prelude.{◌≡◌, ℕ, zero, suc, ◌+◌, ◌<◌, Bool, true, false, not, ◌==◌, ◌&&◌, ◌||◌, nat_lt, List, [], ◌∷◌, is_some, slice_get, slice_set, Option, Some, None}
use Rattle.std.specs.List.{list_any, list_all}
use Rattle.il_machine.specs.declared.answer.Progress.{Progress}
use Rattle.il_machine.specs.States.{same_state}
use Rattle.omx_types.specs.declared.state.State.{State}
use Rattle.omx_types.specs.declared.state.State.TheVariants.{Idle, Executing, Loaded}
use Rattle.conductor.specs.declared.phase.LateLink.{LateLink}
use Rattle.conductor.specs.declared.phase.Phase.{Phase}
use Rattle.conductor.specs.declared.phase.Phase.TheVariants.{Send, Change, Wait, Over, Failed}
use Rattle.conductor.specs.declared.phase.ChangeStep.{ChangeStep}
use Rattle.conductor.specs.declared.phase.ChangeStep.TheVariants.{Disable, Retune, Enable}
use Rattle.conductor.specs.Hearing.{ConductorValue}

-- a component has told an error
abbrev pub has_failed : List Progress → Bool
has_failed = list_any (λ (progress : Progress). is_some progress.error)

abbrev pub is_at : State → Option State → Bool
is_at state None = false
is_at state (Some other) = same_state other state

-- the last state that each component has told
abbrev pub all_told : State → List Progress → Bool
all_told state = list_all (λ (progress : Progress). is_at state progress.state)

-- every sink has told the end of its stream
abbrev pub sinks_over : List Bool → List Progress → Bool
sinks_over (is_sink ∷ sinks) (progress ∷ told) = (not is_sink || progress.eos) && sinks_over sinks told
sinks_over _ _ = true

-- the states, in the order in which they are sent
abbrev pub all_states : List State
all_states = Idle ∷ Executing ∷ Idle ∷ Loaded ∷ []

abbrev pub all_at : Option State → List Progress → Bool
all_at None told = false
all_at (Some state) told = all_told state told

-- every component has told the last state sent, if one was
abbrev pub last_told : ℕ → List Progress → Bool
last_told zero told = true
last_told (suc sends) told = all_at (slice_get all_states sends) told

-- ---- the links of the late sources

-- both its ends have told their disable, or their enable
abbrev pub is_disabled : LateLink → Bool
is_disabled late = late.output_disabled && late.input_disabled

abbrev pub is_changed : LateLink → Bool
is_changed late = late.steps == 3 && (late.output_enabled && late.input_enabled)

-- its change was begun, and isn't done
abbrev pub is_half : LateLink → Bool
is_half late = nat_lt 0 late.steps && not (is_changed late)

abbrev pub has_half : List LateLink → Bool
has_half = list_any is_half

abbrev pub has_settings : Option Progress → Bool
has_settings None = false
has_settings (Some progress) = is_some progress.settings

-- its source has told that its settings changed, and it isn't changed
abbrev pub is_ready : List Progress → LateLink → Bool
is_ready told late = has_settings (slice_get told late.source) && not (is_changed late)

-- every component has told Executing, and none was sent the second Idle
abbrev pub may_change : ConductorValue → Bool
may_change value = value.sends == 2 && all_told Executing value.told

-- no earlier link of a late source passes the test
abbrev pub NoneBefore : (LateLink → Bool) → List LateLink → ℕ → Type 0
NoneBefore test lates number = (k : ℕ) (late : LateLink) → k < number → slice_get lates k ≡ Some late → test late ≡ false

-- A change that was begun goes on: Retune once both ends have told their disable, and Enable right after it. Where none is half done, the
-- first link in script order that is ready begins with Disable. Each step is answered once.
abbrev pub IsStep : List Progress → List LateLink → ℕ → LateLink → ChangeStep → Type 0
IsStep told lates number late Disable = (has_half lates ≡ false) × (is_ready told late ≡ true) × NoneBefore (is_ready told) lates number
IsStep told lates number late Retune =
    (is_half late ≡ true) × NoneBefore is_half lates number × (late.steps ≡ 1) × (is_disabled late ≡ true)
IsStep told lates number late Enable = (is_half late ≡ true) × NoneBefore is_half lates number × (late.steps ≡ 2)

abbrev pub one_step_more : LateLink → LateLink
one_step_more late = record late { steps = late.steps + 1 }

-- the change that is due, of the link at a number
pub record IsChangeDue (value : ConductorValue) (number : ℕ) (late : LateLink) (step : ChangeStep) : Type 0 where
  pub there : slice_get value.lates number ≡ Some late
  pub now : may_change value ≡ true
  pub due : IsStep value.told value.lates number late step

-- the state that is due: before the second Idle every sink has told the end of its stream
pub record IsSendDue (value : ConductorValue) (state : State) : Type 0 where
  pub next : slice_get all_states value.sends ≡ Some state
  pub last : last_told value.sends value.told ≡ true
  pub none_half : has_half value.lates ≡ false
  pub none_next : (may_change value && list_any (is_ready value.told) value.lates) ≡ false
  pub sinks : value.sends ≡ 2 → sinks_over value.sinks value.told ≡ true

-- all have told the last Loaded
abbrev pub is_over : ConductorValue → Bool
is_over value = value.sends == 4 && all_told Loaded value.told

-- a change, and the link that it goes on with
pub record IsChange (value : ConductorValue) (component : ℕ) (step : ChangeStep) (next : ConductorValue) : Type 0 where
  pub number : ℕ
  pub late : LateLink
  pub due : IsChangeDue value number late step
  pub its_source : component ≡ late.source
  pub goes_on : next ≡ record value { lates = slice_set value.lates number (one_step_more late) }

pub record IsWaiting (value : ConductorValue) : Type 0 where
  pub no_change : (number : ℕ) (late : LateLink) (step : ChangeStep) → IsChangeDue value number late step → ⊥
  pub no_send : (state : State) → IsSendDue value state → ⊥
  pub not_over : is_over value ≡ false

-- what is answered, and what is known then
abbrev pub Conducts : ConductorValue → Phase → ConductorValue → Type 0
Conducts value Failed next = (has_failed value.told ≡ true) × (next ≡ value)
Conducts value (Change component step) next = (has_failed value.told ≡ false) × IsChange value component step next
Conducts value (Send state) next =
    (has_failed value.told ≡ false) × IsSendDue value state × (next ≡ record value { sends = value.sends + 1 })
Conducts value Over next = (has_failed value.told ≡ false) × (is_over value ≡ true) × (next ≡ value)
Conducts value Wait next = (has_failed value.told ≡ false) × IsWaiting value × (next ≡ value)
