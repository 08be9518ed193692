-- The change of a late source's link. A late source, which has one output and no input, finds that its port has another
-- format than its file, and tells so; the client then disables both ports of the link, drops the tunnel, sets the format
-- of both, sets the tunnel up again and enables both. Its headers are unmade on the way, and made again.
use Rattle.std.specs.Prelude.{◌≡◌, ℕ, ◌+◌, ◌<◌, ◌≤◌, ◌⊎◌, Bool, true, false, ◌||◌, nat_eq, if◌then◌else◌}
use Rattle.play_model.specs.Numbers.{settings_told, output_disable_sent, both_disables_sent, tunnel_dropped, tunnel_set_up, output_enable_sent, both_enables_sent, untouched, disable_queued, disable_pending, disable_done, disable_told, enable_queued, enable_pending, enable_done, enable_told}

pub record Change : Type 0 where
  -- from not_announced to both_enables_sent
  pub step : ℕ
  -- the port of the output, and of the input, from untouched to enable_told
  pub output : ℕ
  pub input : ℕ

abbrev pub port_at : Bool → Change → ℕ
port_at true k = k.output
port_at false k = k.input

-- both ends have told their enable
abbrev pub IsChanged : Change → Type 0
IsChanged k = (k.step ≡ both_enables_sent) × (k.output ≡ enable_told) × (k.input ≡ enable_told)

-- Disable was sent, and not both ends have told their enable
abbrev pub IsHalfChanged : Change → Type 0
IsHalfChanged k = (output_disable_sent ≤ k.step) × ((k.output < enable_told) ⊎ (k.input < enable_told))

-- ---- what a port allows

abbrev pub IsEnabledPort : ℕ → Type 0
IsEnabledPort n = (n ≤ disable_queued) ⊎ (enable_pending ≤ n)

-- enabled, and neither Enabling nor Disabling
abbrev pub IsSteadyPort : ℕ → Type 0
IsSteadyPort n = (n ≤ disable_queued) ⊎ (enable_done ≤ n)

abbrev pub IsDisabling : ℕ → Type 0
IsDisabling n = n ≡ disable_pending

-- A command is queued at the port; what it waits for is due: no header of the link is made, or all are; a completion is
-- queued.
abbrev pub HasCommand : ℕ → Type 0
HasCommand n = (n ≡ disable_queued) ⊎ (n ≡ enable_queued)

abbrev pub IsPortDue : ℕ → ℕ → ℕ → Type 0
IsPortDue made count n = ((n ≡ disable_pending) × (made ≡ 0)) ⊎ ((n ≡ enable_pending) × (made ≡ count))

abbrev pub HasCompletion : ℕ → Type 0
HasCompletion n = (n ≡ disable_done) ⊎ (n ≡ enable_done)

-- ---- how a change goes on

-- the settings are announced, or told
abbrev pub told_on : Change → Change
told_on k = record k { step = k.step + 1 }

-- the conductor's next act
abbrev pub conducted : Change → Change
conducted k = record {
  step = k.step + 1;
  output = if nat_eq k.step settings_told || nat_eq k.step tunnel_set_up then k.output + 1 else k.output;
  input = if nat_eq k.step output_disable_sent || nat_eq k.step output_enable_sent then k.input + 1 else k.input;
}

-- the next of the output's port, else of the input's
abbrev pub port_on : Bool → Change → Change
port_on true k = record k { output = k.output + 1 }
port_on false k = record k { input = k.input + 1 }

-- ---- what is always so of a change: how far a port is fits what was sent to it

pub record IsInOrder (k : Change) : Type 0 where
  pub steps : k.step ≤ both_enables_sent
  pub outputs : k.output ≤ enable_told
  pub inputs : k.input ≤ enable_told
  pub output_unsent : k.step ≤ settings_told → k.output ≡ untouched
  pub input_unsent : k.step ≤ output_disable_sent → k.input ≡ untouched
  pub output_disabled : output_disable_sent ≤ k.step → disable_queued ≤ k.output
  pub input_disabled : both_disables_sent ≤ k.step → disable_queued ≤ k.input
  pub told : tunnel_dropped ≤ k.step → (disable_told ≤ k.output) × (disable_told ≤ k.input)
  pub output_waits : k.step ≤ tunnel_set_up → k.output ≤ disable_told
  pub input_waits : k.step ≤ output_enable_sent → k.input ≤ disable_told
  pub output_enabled : output_enable_sent ≤ k.step → enable_queued ≤ k.output
  pub input_enabled : both_enables_sent ≤ k.step → enable_queued ≤ k.input

-- no port is on its way, or one is Steady again: all headers of the link are made
abbrev pub HasAllHeaders : Change → Type 0
HasAllHeaders k = ((k.output ≤ disable_queued) × (k.input ≤ disable_queued)) ⊎ (enable_done ≤ k.output) ⊎ (enable_done ≤ k.input)

-- a port is disabled: no header of the link is made
abbrev pub IsEmptied : Change → Type 0
IsEmptied k = ((disable_done ≤ k.output) × (k.output ≤ enable_queued)) ⊎ ((disable_done ≤ k.input) × (k.input ≤ enable_queued))
