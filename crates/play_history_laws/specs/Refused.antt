-- What is refused of what nobody asks for: nothing, where the handle is one of the plan's, and has such a port.
use Rattle.std.specs.Prelude.{◌≡◌, ℕ, ◌<◌, Bool, false, List, slice_get, Some, is_err}
use Rattle.omx_types.specs.declared.handle.Handle.{Handle}
use Rattle.il_machine.specs.Acts.{Act, Reply}
use Rattle.il_machine.specs.Acts as acts
use Rattle.il_machine.specs.Kinds.{ports_in}
use Rattle.play_forms.specs.Plans.{PlanValue}
use Rattle.play_plan_laws.specs.Assemblies.{kind_in}

abbrev pub is_refused : Reply → Bool
is_refused (acts.Got result) = is_err result
is_refused (acts.Removed result) = is_err result
is_refused (acts.Plain result) = is_err result
is_refused (acts.Stated result) = is_err result
is_refused (acts.Viewed result) = is_err result
is_refused (acts.Progressed result) = is_err result
is_refused (acts.Parameter result) = is_err result
is_refused (acts.Joined result) = is_err result
is_refused (acts.Acted result) = is_err result
is_refused (acts.Allocated result) = is_err result
is_refused (acts.Used result) = is_err result
is_refused (acts.Freed result) = is_err result
is_refused (acts.Took result) = is_err result
is_refused (acts.Supplied result) = is_err result
is_refused (acts.Claimed result) = is_err result
is_refused other = false

-- the handle of a component of the plan, whose handles these are in the order of the script
abbrev pub IsPartHandle : List Handle → Handle → Type 0
IsPartHandle handles handle = (place : ℕ) × (slice_get handles place ≡ Some handle)

-- and a port of it
abbrev pub IsPartPort : PlanValue → List Handle → Handle → ℕ → Type 0
IsPartPort plan handles handle port = (place : ℕ) × (slice_get handles place ≡ Some handle) × (port < ports_in (kind_in (slice_get plan.parts place)))

-- the act is one at a component of the plan, and at a port that it has
abbrev pub IsAtPart : PlanValue → List Handle → Act → Type 0
IsAtPart plan handles (acts.RunCommand handle) = IsPartHandle handles handle
IsAtPart plan handles (acts.Claim handle) = IsPartHandle handles handle
IsAtPart plan handles (acts.TakeNote handle) = IsPartHandle handles handle
IsAtPart plan handles (acts.Progress handle) = IsPartHandle handles handle
IsAtPart plan handles (acts.Supply handle port) = IsPartPort plan handles handle port
IsAtPart plan handles (acts.Release handle port) = IsPartPort plan handles handle port
IsAtPart plan handles (acts.HandOver handle port) = IsPartPort plan handles handle port
IsAtPart plan handles (acts.HandBack handle port) = IsPartPort plan handles handle port
IsAtPart plan handles other = Unit {0}
