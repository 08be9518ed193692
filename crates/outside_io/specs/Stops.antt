-- Where a source gave nothing below its size.
use Rattle.std.specs.Prelude.{◌≡◌, ℕ, ◌<◌, ◌≤◌, max, Option}
use Rattle.outside_io.specs.Moves.{WhereTold}
use Rattle.outside_io.specs.declared.moving.PumpFault.{PumpFault}
use Rattle.outside_io.specs.declared.moving.PumpFault.TheVariants.{Read, Write, Short}
use Rattle.outside_io.specs.declared.moving.ReadStop.{ReadStop}
use Rattle.outside_io.specs.declared.moving.ReadStop.TheVariants.{Failed, Short as Stopped}

-- a source of this size, read from `start` on, gave nothing at an offset below its size: where it tells from which offset on
-- it gives nothing, this is that offset, or the start where that lies behind it
pub record GaveNothing (size : ℕ) (ends : Option ℕ) (start at told_size : ℕ) : Type 0 where
  pub whole : told_size ≡ size
  pub below : at < size
  pub started : start ≤ at
  pub stopped : WhereTold ends (λ end. at ≡ max end start)

-- what a short pump says of the source's size, its told end and the offset where the pump began
abbrev pub IsShortOf : ℕ → Option ℕ → ℕ → PumpFault → Type 0
IsShortOf size ends start Read = Unit {0}
IsShortOf size ends start Write = Unit {0}
IsShortOf size ends start (Short at told_size) = GaveNothing size ends start at told_size

-- what a stopped read says of them
abbrev pub IsStopOf : ℕ → Option ℕ → ℕ → ReadStop → Type 0
IsStopOf size ends start Failed = Unit {0}
IsStopOf size ends start (Stopped at told_size) = GaveNothing size ends start at told_size

-- a stopped read stands before this end
abbrev pub StopsBefore : ℕ → ReadStop → Type 0
StopsBefore end Failed = Unit {0}
StopsBefore end (Stopped at told_size) = at < end

-- what a short pump says of the offset that it reached
abbrev pub IsShortAt : ℕ → PumpFault → Type 0
IsShortAt reached Read = Unit {0}
IsShortAt reached Write = Unit {0}
IsShortAt reached (Short at told_size) = at ≡ reached

-- what a stopped read says of it
abbrev pub IsStopAt : ℕ → ReadStop → Type 0
IsStopAt reached Failed = Unit {0}
IsStopAt reached (Stopped at told_size) = at ≡ reached
