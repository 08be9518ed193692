-- What a sink got of the lines from a moment on.
use Rattle.std.specs.Prelude.{◌≡◌, ℕ, List, ◌++◌, take, Option, ◌⊎◌, IsSomeAnd, slice_get}
use Rattle.std.specs.Io.KnownBytes.{append_known}
use Rattle.omx_types.specs.declared.fault.Fault.{Fault}
use Rattle.omx_types.specs.declared.fault.Fault.TheVariants.{WriteFault, OutOfMemory}
use Rattle.outside_io.specs.Causes.{Rose}
use Rattle.outside_io.specs.Moves.{AppendsFront}
use Rattle.script_lang.specs.declared.form.TraceLine.{TraceLine}
use Rattle.trace_run.specs.Naming.{Moment}
use Rattle.trace_run.specs.Replying.{LineReply}
use Rattle.trace_run.specs.Lines.{Answered}
use Rattle.trace_run.specs.Traced.{line_text, Lead}
use Rattle.trace_run.specs.Works.{OnDesk, IsDeskMoment, LeadsAll}

-- the line is answered, and its text was appended
abbrev pub PrintsLine : OnDesk → OnDesk → ℕ → TraceLine → List ℕ → List ℕ → Type 0
PrintsLine old new number line before after = (reply : LineReply) × LeadsAll old new line.form reply × (after ≡ before ++ line_text number line reply)

-- Memory was wanting for the line's text: before its acts, or after them.
abbrev pub IsCutAt : OnDesk → OnDesk → TraceLine → Type 0
IsCutAt old new line = (new ≡ old) ⊎ ((reply : LineReply) × LeadsAll old new line.form reply)

-- A line came behind the bytes that waited. What is first of them was appended, and the rest waits.
abbrev pub PassesOn : Option (List ℕ) → Option (List ℕ) → List ℕ → List ℕ → List ℕ → Type 0
PassesOn old new before line after = (gone : List ℕ) × (new ≡ append_known old gone) × (before ++ line ≡ gone ++ after)

-- the text of the lines was appended
abbrev pub GotBody : Moment → List TraceLine → Option (List ℕ) → Option (List ℕ) → Type 0
GotBody at lines old new = (text : List ℕ) × (last : Moment) × Lead 1 at lines text last × (new ≡ append_known old text)

-- so many lines lead to the moment, and no acts were made since but those of the next line, which has no text
abbrev pub IsPast : List TraceLine → ℕ → Moment → OnDesk → Type 0
IsPast lines count last kept =
    IsDeskMoment kept last ⊎ IsSomeAnd (slice_get lines count) (λ line. (reply : LineReply) × (next : Moment) × Answered last line.form reply next × IsDeskMoment kept next)

-- The text of the first lines was, or a prefix of it where a write failed. Where memory was wanting no line is missing but one without a text.
abbrev pub IsBroken : Moment → List TraceLine → OnDesk → Option (List ℕ) → Option (List ℕ) → ℕ → ℕ → Fault → Type 0
IsBroken at lines kept old new before now WriteFault =
    Rose before now × ((count : ℕ) × (text : List ℕ) × (last : Moment) × Lead 1 at (take count lines) text last × AppendsFront old new text)
IsBroken at lines kept old new before now OutOfMemory =
    (count : ℕ) × (text : List ℕ) × (last : Moment) × Lead 1 at (take count lines) text last × (new ≡ append_known old text) × IsPast lines count last kept
IsBroken at lines kept old new before now other = ⊥

-- what holds of each moment that is stood for
abbrev pub FromEach : OnDesk → (Moment → Type 0) → Type 0
FromEach kept P = (at : Moment) → IsDeskMoment kept at → P at
