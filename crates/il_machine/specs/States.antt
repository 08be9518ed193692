-- Tests of states, and the lawful transitions.
use Rattle.std.specs.Prelude.{Bool, true, false, nat_eq}
use Rattle.omx_types.specs.declared.state.State.{State}
use Rattle.omx_types.specs.declared.state.State.TheVariants.{Invalid, Loaded, Idle, Executing, Pause, WaitForResources}
use Rattle.omx_types.specs.Numbers.{state_number}

abbrev pub same_state : State → State → Bool
same_state s t = nat_eq (state_number s) (state_number t)

-- the lawful transitions: from the first state to the second
abbrev pub is_lawful : State → State → Bool
is_lawful Loaded Idle = true
is_lawful Loaded WaitForResources = true
is_lawful WaitForResources Loaded = true
is_lawful Idle Loaded = true
is_lawful Idle Executing = true
is_lawful Idle Pause = true
is_lawful Executing Idle = true
is_lawful Executing Pause = true
is_lawful Pause Idle = true
is_lawful Pause Executing = true
is_lawful _ _ = false

abbrev pub is_invalid : State → Bool
is_invalid Invalid = true
is_invalid _ = false

abbrev pub is_loaded : State → Bool
is_loaded Loaded = true
is_loaded _ = false

abbrev pub is_executing : State → Bool
is_executing Executing = true
is_executing _ = false

-- Loaded or WaitForResources
abbrev pub is_down : State → Bool
is_down Loaded = true
is_down WaitForResources = true
is_down _ = false

-- Idle, Executing or Pause
abbrev pub is_up : State → Bool
is_up Idle = true
is_up Executing = true
is_up Pause = true
is_up _ = false

-- Executing or Pause
abbrev pub is_running : State → Bool
is_running Executing = true
is_running Pause = true
is_running _ = false
