-- The text of a trace.
use Rattle.std.specs.Prelude.{◌≡◌, ℕ, ◌+◌, List, [], ◌∷◌, ◌++◌, take, Option, ◌⊎◌, codes}
use Rattle.std.specs.Fmt.{decimal}
use Rattle.std.specs.Io.KnownBytes.{append_known}
use Rattle.omx_types.specs.declared.fault.Fault.{Fault}
use Rattle.omx_types.specs.declared.fault.Fault.TheVariants.{WriteFault, OutOfMemory}
use Rattle.outside_io.specs.Causes.{Rose}
use Rattle.outside_io.specs.Moves.{AppendsFront}
use Rattle.il_machine.specs.World.{no_world}
use Rattle.line_text.specs.Lists.{spaced}
use Rattle.script_lang.specs.declared.form.TraceLine.{TraceLine}
use Rattle.script_lang.specs.declared.script.Script.{Script}
use Rattle.script_lang.specs.declared.script.Script.TheVariants.{Play, Trace}
use Rattle.trace_run.specs.Naming.{Moment, no_names}
use Rattle.trace_run.specs.Replying.{LineReply, line_reply_words}
use Rattle.trace_run.specs.Lines.{Answered}

-- `N: ACT = REPLY`
abbrev pub line_text : ℕ → TraceLine → LineReply → List ℕ
line_text number line reply = decimal number ++ codes ": " ++ line.text ++ codes " = " ++ spaced (line_reply_words reply) ++ codes "\n"

-- The lines, numbered from the number on, are answered one after the other, and lead from one moment to the other. The text is theirs.
abbrev pub Lead : ℕ → Moment → List TraceLine → List ℕ → Moment → Type 0
Lead number at [] text last = (text ≡ []) × (last ≡ at)
Lead number at (line ∷ lines) text last =
    (reply : LineReply) × (next : Moment) × (rest : List ℕ)
    × Answered at line.form reply next × Lead (number + 1) next lines rest last × (text ≡ line_text number line reply ++ rest)

-- the world without components, whose headers will have the key, and no name stands for anything
abbrev pub beginning : ℕ → ℕ → Moment
beginning key units = record { world = no_world key units; names = no_names }

-- the text of the first lines of a script; that of a play has none
abbrev pub IsTracedTo : ℕ → Script → List ℕ → Type 0
IsTracedTo count (Play units parts links) text = ⊥
IsTracedTo count (Trace units lines) text = (key : ℕ) × (last : Moment) × Lead 1 (beginning key units) (take count lines) text last

-- the text of all its lines, and then `end`
abbrev pub IsTraced : Script → List ℕ → Type 0
IsTraced (Play units parts links) text = ⊥
IsTraced (Trace units lines) text = (key : ℕ) × (body : List ℕ) × (last : Moment) × Lead 1 (beginning key units) lines body last × (text ≡ body ++ codes "end\n")

-- ---- what a sink got of it

abbrev pub GotTrace : Script → Option (List ℕ) → Option (List ℕ) → Type 0
GotTrace script old new = (text : List ℕ) × IsTraced script text × (new ≡ append_known old text)

-- a front of the text, or of that of the lines so far
abbrev pub GotFront : Script → Option (List ℕ) → Option (List ℕ) → Type 0
GotFront script old new = (text : List ℕ) × (IsTraced script text ⊎ ((count : ℕ) × IsTracedTo count script text)) × AppendsFront old new text

-- the lines so far, each whole
abbrev pub GotLines : Script → Option (List ℕ) → Option (List ℕ) → Type 0
GotLines script old new = (count : ℕ) × (text : List ℕ) × IsTracedTo count script text × (new ≡ append_known old text)

-- A write failed and the count rose, or memory was wanting. No other fault comes.
abbrev pub IsStopped : Script → Option (List ℕ) → Option (List ℕ) → ℕ → ℕ → Fault → Type 0
IsStopped script old new before now WriteFault = Rose before now × GotFront script old new
IsStopped script old new before now OutOfMemory = GotLines script old new
IsStopped script old new before now other = ⊥
