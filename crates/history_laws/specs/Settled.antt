-- When each header made for a port has come back.
use Rattle.std.specs.Prelude.{◌≡◌, ℕ, true, false, List, All, Some, None, MatchOption}
use Rattle.omx_types.specs.declared.state.State.TheVariants as states
use Rattle.omx_types.specs.declared.command.Completion.TheVariants as completions
use Rattle.il_machine.specs.declared.port.Port.{Port}
use Rattle.il_machine.specs.declared.port.PortKey.{PortKey}
use Rattle.il_machine.specs.declared.header.HeaderState.{HeaderState}
use Rattle.il_machine.specs.declared.header.Home.{Home}
use Rattle.il_machine.specs.States.{is_running}
use Rattle.il_machine.specs.World.{World, number_of, ports_of, port_of}
use Rattle.il_machine.specs.Headers.{seen, is_for}
use Rattle.il_machine.specs.Look.{look}
use Rattle.il_machine.specs.Ports.{has_no_header}
use Rattle.il_machine.specs.Due.{Transition, Happens, HappenTimes}
use Rattle.il_machine.specs.Trails.{Move, trail, returns, hand_overs, IsTrailOfNone}
use Rattle.il_machine.specs.Queued.{WasDue}

-- each header made for the port has as many returns as hand-overs among its moves
abbrev pub IsReturned : World → List Move → Port → Type 0
IsReturned w ms p = (number : ℕ) (s : HeaderState) → (look w).headers.header number ≡ Some s → is_for p.key s ≡ true → returns s.home (trail number ms) ≡ hand_overs s.home (trail number ms)

-- The happening takes its component to Idle from Executing or Pause.
pub record TakesToIdle (w v : World) (h : Happens w v) : Type 0 where
  pub arrives : h.thing ≡ Transition
  pub to_idle : MatchOption (h.component).pending ⊥ (λ p. p.target ≡ states.Idle)
  pub running : is_running (h.component).state ≡ true

-- In the close-out from w to v the component of the number was Executing or Pause, each header made for a port of it had come back by
-- these moves, and then it reached Idle.
pub record ReachesIdle (w v : World) (ms : List Move) (number : ℕ) : Type 0 where
  pub before : World
  pub after : World
  pub earlier : ℕ
  pub later : ℕ
  pub reached : HappenTimes earlier w before
  pub happens : Happens before after
  pub goes_on : HappenTimes later after v
  pub whose : number_of happens.component ≡ number
  pub takes : TakesToIdle before after happens
  pub returned : All (IsReturned before ms) (ports_of happens.component)

-- Each header is made for other ports; or it was unmade, and has as many returns as hand-overs among its moves. What a header was made
-- for isn't told by its moves, so this is said of each number; IsUnmadeAndBack is said of one that was made for the port.
abbrev pub AreAllBack : World → List Move → PortKey → Type 0
AreAllBack w ms key = (number : ℕ) → MatchOption ((look w).headers.header number) (IsTrailOfNone (trail number ms)) (λ s. is_for key s ≡ false)

-- When its disable was completed no header was made for the port, and each that had been was back before it was unmade.
abbrev pub WasUnmade : (w v : World) (ms : List Move) (number port : ℕ) → WasDue w v number (completions.Disable port) → Type 0
WasUnmade w v ms number port D =
    MatchOption (port_of (D.happens).component port) ⊥ (λ p. (has_no_header (seen (D.before).headers) p ≡ true) × AreAllBack D.before ms p.key)

-- The header of the number is unmade, and has as many returns to its home as hand-overs among its moves.
pub record IsUnmadeAndBack (w : World) (ms : List Move) (number : ℕ) (home : Home) : Type 0 where
  pub unmade : (look w).headers.header number ≡ None
  pub returned : returns home (trail number ms) ≡ hand_overs home (trail number ms)
