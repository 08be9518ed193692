-- The components of a play as those see them who play it, and the acts that they make.
use Rattle.std.specs.Prelude.{◌≡◌, ℕ, nat_lt, ◌<◌, List, [], length, Option, Some, None, slice_get}
use Rattle.omx_types.specs.declared.command.Command.{Command}
use Rattle.omx_types.specs.declared.command.Command.TheVariants.{StateSet, Flush, PortDisable, PortEnable, MarkBuffer}
use Rattle.omx_types.specs.declared.handle.Handle.{Handle}
use Rattle.omx_types.specs.declared.param.Param.{Param}
use Rattle.omx_types.specs.declared.param.Param.TheVariants as params
use Rattle.omx_types.specs.declared.param.ParamKey.{ParamKey}
use Rattle.graph_acts.specs.declared.act.Act.{Act}
use Rattle.graph_acts.specs.declared.act.Act.TheVariants as asks
use Rattle.play_log.specs.Saying.{key}
use Rattle.work_signs.specs.declared.seat.Seat.{Seat}

-- the seat has its place by its component's number
abbrev pub IsSeatOf : List Seat → Seat → Type 0
IsSeatOf seats s = slice_get seats (s.handle).generation ≡ Some s

-- the handle is that of a component of the play
abbrev pub IsSeated : List Seat → Handle → Type 0
IsSeated seats h = (s : Seat) × (slice_get seats h.generation ≡ Some s) × (s.handle ≡ h)

-- the handle is that of a component of the play, and it has that port
abbrev pub IsSeatedAt : List Seat → Handle → ℕ → Type 0
IsSeatedAt seats h port = (s : Seat) × (slice_get seats h.generation ≡ Some s) × (s.handle ≡ h) × (port < s.ports)

abbrev pub name_in : Option Seat → List ℕ
name_in (Some s) = s.name
name_in None = []

-- the name of the component of a number
abbrev pub names_of : List Seat → ℕ → List ℕ
names_of seats number = name_in (slice_get seats number)

-- a state, or a port's disable or enable
abbrev pub IsPlayCommand : Command → Type 0
IsPlayCommand (StateSet state) = Unit {0}
IsPlayCommand (PortDisable ports) = Unit {0}
IsPlayCommand (PortEnable ports) = Unit {0}
IsPlayCommand _ = ⊥

-- a definition of the port that the key names, with the port's own direction
abbrev pub IsDefinition : List Seat → Handle → ParamKey → Param → Type 0
IsDefinition seats h k (params.Port d) = (s : Seat) × (slice_get seats h.generation ≡ Some s) × (s.handle ≡ h) × (k ≡ key 1 k.port) × (d.input ≡ nat_lt k.port s.inputs)
IsDefinition seats h k _ = ⊥

module _ {S K C : Type 0} where
  -- those who play make such acts, of components of the play
  abbrev pub IsOfPlay : List Seat → Act S K C → Type 0
  IsOfPlay seats (asks.Progress h) = IsSeated seats h
  IsOfPlay seats (asks.SetParameter h k value) = IsDefinition seats h k value
  IsOfPlay seats (asks.SetupTunnel output input) = IsSeated seats output.handle × IsSeated seats input.handle
  IsOfPlay seats (asks.DropTunnel output input) = IsSeated seats output.handle × IsSeated seats input.handle
  IsOfPlay seats (asks.SendCommand h command) = IsSeated seats h × IsPlayCommand command
  IsOfPlay seats (asks.RunCommand h) = IsSeated seats h
  IsOfPlay seats (asks.TakeNote h) = IsSeated seats h
  IsOfPlay seats (asks.EndNote h client) = IsSeated seats h
  IsOfPlay seats (asks.Supply h port) = IsSeatedAt seats h port
  IsOfPlay seats (asks.Release h port) = IsSeatedAt seats h port
  IsOfPlay seats (asks.HandOver h port) = IsSeatedAt seats h port
  IsOfPlay seats (asks.HandBack h port) = IsSeatedAt seats h port
  IsOfPlay seats (asks.Claim h) = IsSeated seats h
  IsOfPlay seats (asks.Finish done) = done.component.generation < length seats
  IsOfPlay seats _ = ⊥
