-- What a trace script is, line by line, and its first fault.
use Rattle.std.specs.Prelude.{◌≡◌, ℕ, ◌≤◌, Bool, false, true, List, [], ◌∷◌, ◌++◌, Option, Some, None, unwrap_or, Result, Ok, Err, ◌⊎◌, nat_le, if◌then◌else◌, codes, IsTrue, IsFalse, IsUtf8}
use Rattle.std.specs.Fmt.{decimal}
use Rattle.line_text.specs.Words.{words_of}
use Rattle.line_text.specs.Scripts.{is_skipped}
use Rattle.script_lang.specs.LineByLine.{AreRead, ForFault, fault_at}
use Rattle.line_text.specs.ReadNumbers.{small_number}
use Rattle.line_text.specs.Lists.{spaced}
use Rattle.std.specs.Str.{bytes_eq}
use Rattle.omx_types.specs.declared.fault.ScriptWhy.TheVariants as whys
use Rattle.script_lang.specs.Forms.{form_words, IsForm}
use Rattle.script_lang.specs.Known.{introduced, is_known, is_new}
use Rattle.script_lang.specs.declared.form.TraceForm.{TraceForm}
use Rattle.script_lang.specs.declared.form.TraceLine.{TraceLine}
use Rattle.script_lang.specs.declared.saying.Said.{Said}
use Rattle.script_lang.specs.declared.saying.Said.TheVariants.{Nothing, Units, Act, Fault}
use Rattle.script_lang.specs.declared.saying.Reading.{Reading}
use Rattle.script_lang.specs.declared.script.Script.{Script}
use Rattle.script_lang.specs.declared.script.Script.TheVariants.{Play, Trace}
use Rattle.script_lang.specs.declared.script.ScriptError.{ScriptError}
use Rattle.script_lang.specs.declared.script.ScriptFault.{ScriptFault}

-- what the earlier lines said
pub record Before : Type 0 where
  pub units : Option ℕ
  pub lines : List TraceLine

-- the units may stand before every act, once
abbrev pub MayHaveUnits : Before → Type 0
MayHaveUnits before = (before.units ≡ None) × (before.lines ≡ [])

abbrev pub few_units : Option ℕ → Option ℕ
few_units None = None
few_units (Some n) = if nat_le n 1000 then Some n else None

-- the units that words say
abbrev pub units_of : List (List ℕ) → Option ℕ
units_of (first ∷ number ∷ []) = if bytes_eq first (codes "units") then few_units (small_number number) else None
units_of words = None

-- a line of units, in its place
pub record IsUnits (before : Before) (words : List (List ℕ)) (n : ℕ) : Type 0 where
  pub may : MayHaveUnits before
  pub spelled : words ≡ codes "units" ∷ decimal n ∷ []
  pub few : n ≤ 1000

pub record IsFormOf (words : List (List ℕ)) (form : TraceForm) : Type 0 where
  pub is : IsForm form
  pub spelled : words ≡ form_words form

-- the words are of no form that may stand here
pub record AreNoForm (before : Before) (words : List (List ℕ)) : Type 0 where
  pub units : (n : ℕ) → IsUnits before words n → ⊥
  pub form : (form : TraceForm) → IsFormOf words form → ⊥

abbrev pub WordsSay : Before → List (List ℕ) → Said → Type 0
WordsSay before words Nothing = IsTrue (is_skipped words)
WordsSay before words (Units n) = IsFalse (is_skipped words) × IsUnits before words n
WordsSay before words (Act form) = IsFalse (is_skipped words) × IsFormOf words form × IsTrue (is_known (introduced before.lines) form) × IsTrue (is_new (introduced before.lines) form)
WordsSay before words (Fault whys.BadWord) = IsFalse (is_skipped words) × AreNoForm before words
WordsSay before words (Fault whys.UnknownName) =
    IsFalse (is_skipped words) × ((form : TraceForm) × IsFormOf words form × IsFalse (is_known (introduced before.lines) form))
WordsSay before words (Fault whys.NameTwice) =
    IsFalse (is_skipped words) × ((form : TraceForm) × IsFormOf words form × IsTrue (is_known (introduced before.lines) form) × IsFalse (is_new (introduced before.lines) form))
WordsSay before words (Fault other) = ⊥

-- what a line says after the earlier ones
abbrev pub Says : Before → List ℕ → Said → Type 0
Says before line said = (IsUtf8 line × WordsSay before (words_of line) said) ⊎ ((IsUtf8 line → ⊥) × (said ≡ Fault whys.NotText))

abbrev pub with_units : Before → ℕ → Before
with_units before n = record { units = Some n; lines = before.lines }

-- what was read so far
abbrev pub seen : Reading → Before
seen reading = record { units = reading.units; lines = reading.lines.items }

abbrev pub line_with : ℕ → List ℕ → TraceForm → TraceLine
line_with number bytes form = record { line = number; form = form; text = spaced (words_of bytes) }

abbrev pub with_act : Before → ℕ → List ℕ → TraceForm → Before
with_act before number bytes form = record { units = before.units; lines = before.lines ++ (line_with number bytes form ∷ []) }

-- what is known behind a line, by what it says
abbrev pub after : Before → ℕ → List ℕ → Said → Result Before ScriptFault
after before number line Nothing = Ok before
after before number line (Units n) = Ok (with_units before n)
after before number line (Act form) = Ok (with_act before number line form)
after before number line (Fault why) = Err (fault_at number why)

-- what a line comes to after the earlier ones
abbrev pub TraceComes : Before → ℕ → List ℕ → Result Before ScriptFault → Type 0
TraceComes before number line step = (said : Said) × Says before line said × (step ≡ after before number line said)

abbrev pub nothing_before : Before
nothing_before = record { units = None; lines = [] }

-- what a text comes to as a trace script
abbrev pub ReadsAs : List ℕ → Result Before ScriptFault → Type 0
ReadsAs text outcome = AreRead TraceComes nothing_before (codes "trace") text outcome

-- the script that the lines say; without a line of units there are 128
abbrev pub script_of : Before → Script
script_of before = Trace (unwrap_or before.units 128) before.lines

-- a script of `play`, or of `trace`
abbrev pub IsOfCommand : Bool → Script → Type 0
IsOfCommand true (Play units parts links) = Unit {0}
IsOfCommand true (Trace units lines) = ⊥
IsOfCommand false (Play units parts links) = ⊥
IsOfCommand false (Trace units lines) = Unit {0}

-- the text is this script
abbrev pub IsScript : List ℕ → Script → Type 0
IsScript text script = (before : Before) × ReadsAs text (Ok before) × (script ≡ script_of before)

-- the error is the first fault, or want of memory
abbrev pub IsRefused : List ℕ → ScriptError → Type 0
IsRefused text error = ForFault error (λ fault. ReadsAs text (Err fault))
