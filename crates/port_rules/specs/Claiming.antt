-- What a component's work depends on, as the code names it.
use Rattle.std.specs.Prelude.{ℕ, ◌+◌, Bool, nat_lt, not, ◌&&◌, ◌||◌, List, [], ◌∷◌, length, filter, option_map, Option, Some, None, if◌then◌else◌}
use Rattle.il_machine.specs.declared.port.Port.{Port}
use Rattle.il_machine.specs.Headers.{Seen}
use Rattle.il_machine.specs.Kinds.{is_auto}
use Rattle.il_machine.specs.Lists.{first_of_these, is_empty}
use Rattle.il_machine.specs.Ports.{is_input_port}
use Rattle.il_machine.specs.World.{Component, ports_of}
use Rattle.il_machine.specs.Room.{room}
use Rattle.il_machine.specs.Claims.{Claimed, ClaimedBusy, ClaimedNotRunning, ClaimedEnded, ClaimedHeld, ClaimedNoData, ClaimedNoRoom, ClaimedEvents, gives_header, has_ended, is_unannounced, must_announce}
use Rattle.port_rules.specs.declared.claiming.ClaimTest.{ClaimTest}
use Rattle.port_rules.specs.declared.claiming.ClaimTest.TheVariants as tests
use Rattle.port_rules.specs.declared.claiming.NoWork.{NoWork}
use Rattle.port_rules.specs.declared.claiming.NoWork.TheVariants as answers

-- the answer without a work, as the machine has it
abbrev pub claimed_by : NoWork → Claimed
claimed_by answers.Busy = ClaimedBusy
claimed_by answers.NotRunning = ClaimedNotRunning
claimed_by answers.Ended = ClaimedEnded
claimed_by (answers.Held port) = ClaimedHeld port
claimed_by (answers.NoData port) = ClaimedNoData port
claimed_by (answers.NoRoom port) = ClaimedNoRoom port
claimed_by (answers.Events room need) = ClaimedEvents room need

abbrev pub claim_test : ClaimTest → Seen → Component → Port → Bool
claim_test tests.Unannounced headers c p = is_unannounced c p
claim_test tests.Held headers c p = p.state.held || is_auto p.setting.definition.format
claim_test tests.NoData headers c p = is_input_port p && (not (has_ended c p.key.port) && is_empty (headers.todo p.key))
claim_test tests.NoRoom headers c p = not (is_input_port p) && is_empty (headers.todo p.key)
claim_test tests.Idle headers c p = (p.state.held || is_auto p.setting.definition.format) || (is_empty (headers.todo p.key) && gives_header c p)

-- the number of the first port that passes the test
abbrev pub port_where : (Port → Bool) → List Port → Option ℕ
port_where test [] = None
port_where test (p ∷ ports) = if test p then Some p.key.port else port_where test ports

abbrev pub or_first : Option Claimed → Option Claimed → Option Claimed
or_first None later = later
or_first (Some idle) later = Some idle

-- a port that is held, an input without a header, or an output without one, in this order
abbrev pub port_idle : Seen → Component → Option Claimed
port_idle headers c =
    or_first (option_map ClaimedHeld (port_where (claim_test tests.Held headers c) (ports_of c)))
    (or_first (option_map ClaimedNoData (port_where (claim_test tests.NoData headers c) (ports_of c)))
    (option_map ClaimedNoRoom (port_where (claim_test tests.NoRoom headers c) (ports_of c))))

abbrev pub events_idle : Component → ℕ → Option Claimed
events_idle c headers = first_of_these ((nat_lt (room c) (headers + 2), ClaimedEvents (room c) (headers + 2)) ∷ [])

-- an announcement has no header
abbrev pub work_idle : Seen → Component → Option Claimed
work_idle headers c =
    if must_announce c then events_idle c 0
    else or_first (port_idle headers c) (events_idle c (length (filter (gives_header c) (ports_of c))))
