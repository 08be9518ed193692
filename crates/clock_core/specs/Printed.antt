-- The text of a run of a clock's script.
use Rattle.std.specs.Prelude.{◌≡◌, ℕ, ◌+◌, List, [], ◌∷◌, ◌++◌, Option, Some, None, Result, Ok, Err, codes, drop}
use Rattle.std.specs.Fmt.{decimal}
use Rattle.std.specs.List.{flat_map}
use Rattle.line_text.specs.Lines.{lines_of}
use Rattle.line_text.specs.Lists.{spaced}
use Rattle.line_text.specs.Words.{words_of}
use Rattle.omx_types.specs.declared.fault.Fault.{Fault}
use Rattle.omx_types.specs.declared.fault.Fault.TheVariants as faults
use Rattle.outside_io.specs.Causes.{Rose}
use Rattle.outside_io.specs.Moves.{AppendsFront}
use Rattle.clock_core.specs.Clock.{State, opening, refusal_of, notes_of_call, after_call}
use Rattle.clock_core.specs.Script.{IsFaulty, IsScript, said_of}
use Rattle.clock_core.specs.declared.act.ClockRefusal.{ClockRefusal}
use Rattle.clock_core.specs.declared.act.ClockRefusal.TheVariants.{Backwards, BadScale, BadMask, NotWaiting, Taken, Full, Unknown}
use Rattle.clock_core.specs.declared.act.Fulfilled.{Fulfilled}
use Rattle.clock_core.specs.declared.act.TimedAct.{TimedAct}
use Rattle.clock_core.specs.declared.script.Said.{Said}
use Rattle.clock_core.specs.declared.script.Said.TheVariants.{Call}

abbrev pub refusal_name : ClockRefusal → List ℕ
refusal_name (Backwards last) = codes "Backwards"
refusal_name BadScale = codes "BadScale"
refusal_name BadMask = codes "BadMask"
refusal_name NotWaiting = codes "NotWaiting"
refusal_name Taken = codes "Taken"
refusal_name Full = codes "Full"
refusal_name Unknown = codes "Unknown"

abbrev pub reply_text : Option ClockRefusal → List ℕ
reply_text None = codes "ok"
reply_text (Some refusal) = codes "error " ++ refusal_name refusal

-- why a call was refused
abbrev pub refusal_in : Result ℕ ClockRefusal → Option ClockRefusal
refusal_in (Ok count) = None
refusal_in (Err refusal) = Some refusal

-- `N: LINE = REPLY`
abbrev pub line_text : ℕ → List (List ℕ) → Option ClockRefusal → List ℕ
line_text number words refusal = decimal number ++ codes ": " ++ spaced words ++ codes " = " ++ reply_text refusal ++ codes "\n"

abbrev pub due_line : Fulfilled → List ℕ
due_line note = codes "due " ++ decimal note.id ++ codes " at " ++ decimal note.wall ++ codes "\n"

abbrev pub due_lines : List Fulfilled → List ℕ
due_lines notes = flat_map due_line notes

-- a line of the script that asks for a call
pub record LineCall : Type 0 where
  pub words : List (List ℕ)
  pub call : TimedAct

abbrev pub with_call : List (List ℕ) → Said → List LineCall → List LineCall
with_call words (Call call) calls = record { words = words; call = call } ∷ calls
with_call words other calls = calls

-- the calls that the lines ask for
abbrev pub calls_in : List (List ℕ) → List LineCall
calls_in [] = []
calls_in (line ∷ lines) = with_call (words_of line) (said_of (words_of line)) (calls_in lines)

-- a call's line with its answer, and a line for each note
abbrev pub call_text : ℕ → State → List (List ℕ) → TimedAct → List ℕ
call_text number state words call =
    line_text number words (refusal_of state call.wall call.act) ++ due_lines (notes_of_call state call.wall call.act)

-- the calls, numbered from the number on, are made one after the other
abbrev pub printed : ℕ → State → List LineCall → List ℕ
printed number state [] = codes "end\n"
printed number state (line ∷ lines) =
    call_text number state line.words line.call ++ printed (number + 1) (after_call state line.call.wall line.call.act) lines

-- the text of a script
abbrev pub clock_text : List ℕ → List ℕ
clock_text text = printed 1 opening (calls_in (drop 1 (lines_of text)))

-- A script's first fault, before which nothing is written; or a write failed and the count rose. No other fault comes.
abbrev pub IsStopped : List ℕ → Option (List ℕ) → Option (List ℕ) → ℕ → ℕ → Fault → Type 0
IsStopped text old new before now (faults.Script line why) = IsFaulty text line why × (new ≡ old)
IsStopped text old new before now faults.WriteFault = IsScript text × Rose before now × AppendsFront old new (clock_text text)
IsStopped text old new before now other = ⊥
