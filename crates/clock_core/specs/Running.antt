-- How a run of a clock's script goes on.
use Rattle.std.specs.Io.KnownBytes.{append_known}
use Rattle.std.specs.Prelude.{◌≡◌, ℕ, List, ◌∷◌, ◌++◌, take, [], Option, Some, None, Result, Ok, Err}
use Rattle.omx_types.specs.declared.fault.Fault.{Fault}
use Rattle.omx_types.specs.declared.fault.Fault.TheVariants.{Script, WriteFault}
use Rattle.omx_types.specs.declared.fault.ScriptWhy.{ScriptWhy}
use Rattle.outside_io.specs.Causes.{Rose}
use Rattle.outside_io.specs.Moves.{AppendsFront}
use Rattle.clock_core.specs.Clock.{State}
use Rattle.clock_core.specs.Printed.{LineCall, calls_in, printed, with_call}
use Rattle.clock_core.specs.Script.{said_of}
use Rattle.clock_core.specs.declared.act.ClockRefusal.{ClockRefusal}
use Rattle.clock_core.specs.declared.act.Fulfilled.{Fulfilled}
use Rattle.clock_core.specs.declared.act.TimedAct.{TimedAct}

-- P of a script's fault
abbrev pub IsFaultIn : (ℕ → ScriptWhy → Type 0) → Fault → Type 0
IsFaultIn P (Script line why) = P line why
IsFaultIn P other = ⊥

-- a write failed: the count rose, and a front of the text was written
abbrev pub IsWriteFault : ℕ → ℕ → Option (List ℕ) → Option (List ℕ) → List ℕ → Fault → Type 0
IsWriteFault before now old new text WriteFault = Rose before now × AppendsFront old new text
IsWriteFault before now old new text other = ⊥

-- what a line adds to the calls
abbrev pub AddsCall : List (List ℕ) → Option TimedAct → Type 0
AddsCall words None = (calls : List LineCall) → with_call words (said_of words) calls ≡ calls
AddsCall words (Some call) = (calls : List LineCall) → with_call words (said_of words) calls ≡ record { words = words; call = call } ∷ calls

-- a line was run: a piece of text was written, which is what the line adds to that of the lines behind it
pub record IsRun (number : ℕ) (before : State) (line : List ℕ) (next : ℕ) (after : State) (old new : Option (List ℕ)) : Type 0 where
  pub piece : List ℕ
  pub told : new ≡ append_known old piece
  pub adds : (lines : List (List ℕ)) → piece ++ printed next after (calls_in lines) ≡ printed number before (calls_in (line ∷ lines))

-- the notes that an answer counts
abbrev pub notes_in : Result ℕ ClockRefusal → List Fulfilled → List Fulfilled
notes_in (Ok count) notes = take count notes
notes_in (Err refusal) notes = []
