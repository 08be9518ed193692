-- The numbers by which a play is where it is, by their names. They are numbers, since a play goes on by one more.
use Rattle.std.specs.Prelude.{ℕ}

-- ---- the phase: the StateSet that the conductor has begun to send last

abbrev pub unbegun : ℕ
unbegun = 0

abbrev pub to_idle : ℕ
to_idle = 1

abbrev pub to_executing : ℕ
to_executing = 2

abbrev pub back_to_idle : ℕ
back_to_idle = 3

abbrev pub to_loaded : ℕ
to_loaded = 4

-- ---- the stage of that StateSet at a component

abbrev pub not_sent : ℕ
not_sent = 0

abbrev pub command_queued : ℕ
command_queued = 1

abbrev pub transition_pending : ℕ
transition_pending = 2

-- and its completion is queued
abbrev pub state_reached : ℕ
state_reached = 3

abbrev pub state_told : ℕ
state_told = 4

-- ---- the step of the change of a late source's link

abbrev pub not_announced : ℕ
not_announced = 0

-- by the late source, and the note is queued
abbrev pub settings_announced : ℕ
settings_announced = 1

abbrev pub settings_told : ℕ
settings_told = 2

-- then the acts of the conductor, one by one: Disable is sent to the output's component, and to the input's
abbrev pub output_disable_sent : ℕ
output_disable_sent = 3

abbrev pub both_disables_sent : ℕ
both_disables_sent = 4

abbrev pub tunnel_dropped : ℕ
tunnel_dropped = 5

-- the format is set at the output, and at the input too
abbrev pub output_set : ℕ
output_set = 6

abbrev pub retuned : ℕ
retuned = 7

abbrev pub tunnel_set_up : ℕ
tunnel_set_up = 8

abbrev pub output_enable_sent : ℕ
output_enable_sent = 9

abbrev pub both_enables_sent : ℕ
both_enables_sent = 10

-- ---- the port at an end of that link

abbrev pub untouched : ℕ
untouched = 0

abbrev pub disable_queued : ℕ
disable_queued = 1

-- it is Disabling
abbrev pub disable_pending : ℕ
disable_pending = 2

-- it is disabled, and the completion is queued
abbrev pub disable_done : ℕ
disable_done = 3

abbrev pub disable_told : ℕ
disable_told = 4

abbrev pub enable_queued : ℕ
enable_queued = 5

-- it is Enabling
abbrev pub enable_pending : ℕ
enable_pending = 6

-- it is Steady again, and the completion is queued
abbrev pub enable_done : ℕ
enable_done = 7

abbrev pub enable_told : ℕ
enable_told = 8
