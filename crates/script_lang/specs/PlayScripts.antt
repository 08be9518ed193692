-- What a play script is, line by line, and its first fault.
use Rattle.std.specs.Prelude.{◌≡◌, ℕ, ◌≤◌, List, [], ◌∷◌, ◌++◌, Option, Some, None, unwrap_or, Result, Ok, Err, ◌⊎◌, codes, Bool, true, false, IsTrue, IsFalse, IsUtf8}
use Rattle.std.specs.Fmt.{decimal}
use Rattle.line_text.specs.Words.{words_of}
use Rattle.line_text.specs.Scripts.{is_skipped}
use Rattle.omx_types.specs.declared.fault.ScriptWhy.TheVariants as whys
use Rattle.script_lang.specs.LineByLine.{AreRead, ForFault, fault_at}
use Rattle.script_lang.specs.PlayForms.{play_words, IsPlayForm}
use Rattle.script_lang.specs.PlayKnown.{is_declared, is_free, has_place}
use Rattle.script_lang.specs.Scripts.{IsScript, IsRefused}
use Rattle.script_lang.specs.declared.play_line.PartLine.{PartLine}
use Rattle.script_lang.specs.declared.play_line.LinkLine.{LinkLine}
use Rattle.script_lang.specs.declared.play_form.PlayForm.{PlayForm}
use Rattle.script_lang.specs.declared.play_form.PlayForm.TheVariants.{Part, Link}
use Rattle.script_lang.specs.declared.play_saying.PlaySaid.{PlaySaid}
use Rattle.script_lang.specs.declared.play_saying.PlaySaid.TheVariants.{Nothing, Units, Form, Fault}
use Rattle.script_lang.specs.declared.play_reading.PlayReading.{PlayReading}
use Rattle.script_lang.specs.declared.script.Script.{Script}
use Rattle.script_lang.specs.declared.script.Script.TheVariants.{Play}
use Rattle.script_lang.specs.declared.script.ScriptError.{ScriptError}
use Rattle.script_lang.specs.declared.script.ScriptFault.{ScriptFault}

-- what the earlier lines said
pub record PlayBefore : Type 0 where
  pub units : Option ℕ
  pub parts : List PartLine
  pub links : List LinkLine

-- a line of units, before every other line, once
pub record IsPlayUnits (before : PlayBefore) (words : List (List ℕ)) (n : ℕ) : Type 0 where
  pub once : before.units ≡ None
  pub no_parts : before.parts ≡ []
  pub no_links : before.links ≡ []
  pub spelled : words ≡ codes "units" ∷ decimal n ∷ []
  pub few : n ≤ 1000

pub record IsPlayFormOf (words : List (List ℕ)) (form : PlayForm) : Type 0 where
  pub is : IsPlayForm form
  pub spelled : words ≡ play_words form

-- the words are of no form that may stand here
pub record AreNoPlayForm (before : PlayBefore) (words : List (List ℕ)) : Type 0 where
  pub units : (n : ℕ) → IsPlayUnits before words n → ⊥
  pub form : (form : PlayForm) → IsPlayFormOf words form → ⊥

-- what words say, where the script and the log have these names; the faults of one line in their order
abbrev pub PlayWordsSay : List ℕ → List ℕ → PlayBefore → List (List ℕ) → PlaySaid → Type 0
PlayWordsSay script log before words Nothing = IsTrue (is_skipped words)
PlayWordsSay script log before words (Units n) = IsFalse (is_skipped words) × IsPlayUnits before words n
PlayWordsSay script log before words (Form form) =
    IsFalse (is_skipped words) × IsPlayFormOf words form × IsTrue (is_declared before.parts form) × IsTrue (is_free script log before.parts form) × IsTrue (has_place before.parts form)
PlayWordsSay script log before words (Fault whys.BadWord) = IsFalse (is_skipped words) × AreNoPlayForm before words
PlayWordsSay script log before words (Fault whys.UnknownName) =
    IsFalse (is_skipped words) × ((form : PlayForm) × IsPlayFormOf words form × IsFalse (is_declared before.parts form))
PlayWordsSay script log before words (Fault whys.NameTwice) =
    IsFalse (is_skipped words) × ((form : PlayForm) × IsPlayFormOf words form × IsTrue (is_declared before.parts form) × IsFalse (is_free script log before.parts form))
PlayWordsSay script log before words (Fault whys.TooMany) =
    IsFalse (is_skipped words) × ((form : PlayForm) × IsPlayFormOf words form × IsTrue (is_declared before.parts form) × IsTrue (is_free script log before.parts form) × IsFalse (has_place before.parts form))
PlayWordsSay script log before words (Fault other) = ⊥

-- what a line says after the earlier ones
abbrev pub PlaySays : List ℕ → List ℕ → PlayBefore → List ℕ → PlaySaid → Type 0
PlaySays script log before line said =
    (IsUtf8 line × PlayWordsSay script log before (words_of line) said) ⊎ ((IsUtf8 line → ⊥) × (said ≡ Fault whys.NotText))

abbrev pub with_play_units : PlayBefore → ℕ → PlayBefore
with_play_units before n = record { units = Some n; parts = before.parts; links = before.links }

-- with one line more
abbrev pub with_form : PlayBefore → ℕ → PlayForm → PlayBefore
with_form before number (Part name form) =
    record { units = before.units; parts = before.parts ++ (record { line = number; name = name; form = form } ∷ []); links = before.links }
with_form before number (Link output input count size) =
    record { units = before.units; parts = before.parts; links = before.links ++ (record { line = number; output = output; input = input; count = count; size = size } ∷ []) }

-- what is known behind a line, by what it says
abbrev pub play_after : PlayBefore → ℕ → PlaySaid → Result PlayBefore ScriptFault
play_after before number Nothing = Ok before
play_after before number (Units n) = Ok (with_play_units before n)
play_after before number (Form form) = Ok (with_form before number form)
play_after before number (Fault why) = Err (fault_at number why)

-- what a line comes to after the earlier ones
abbrev pub PlayComes : List ℕ → List ℕ → PlayBefore → ℕ → List ℕ → Result PlayBefore ScriptFault → Type 0
PlayComes script log before number line step =
    (said : PlaySaid) × PlaySays script log before line said × (step ≡ play_after before number said)

abbrev pub no_play : PlayBefore
no_play = record { units = None; parts = []; links = [] }

-- what a text comes to as a play script, where the script and the log have these names
abbrev pub PlayReadsAs : List ℕ → List ℕ → List ℕ → Result PlayBefore ScriptFault → Type 0
PlayReadsAs script log text outcome = AreRead (PlayComes script log) no_play (codes "play") text outcome

-- the script that the lines say; without a line of units there are 128
abbrev pub play_of : PlayBefore → Script
play_of before = Play (unwrap_or before.units 128) before.parts before.links

-- what was read so far
abbrev pub play_seen : PlayReading → PlayBefore
play_seen reading = record { units = reading.units; parts = reading.parts.items; links = reading.links.items }

-- the text is this script of a play
abbrev pub IsPlayScript : List ℕ → List ℕ → List ℕ → Script → Type 0
IsPlayScript script log text read = (before : PlayBefore) × PlayReadsAs script log text (Ok before) × (read ≡ play_of before)

-- the error is the first fault, or want of memory
abbrev pub IsPlayRefused : List ℕ → List ℕ → List ℕ → ScriptError → Type 0
IsPlayRefused script log text error = ForFault error (λ fault. PlayReadsAs script log text (Err fault))

-- the text is this script of the command that is asked for
abbrev pub IsScriptOf : Bool → List ℕ → List ℕ → List ℕ → Script → Type 0
IsScriptOf true script log text read = IsPlayScript script log text read
IsScriptOf false script log text read = IsScript text read

abbrev pub IsRefusedOf : Bool → List ℕ → List ℕ → List ℕ → ScriptError → Type 0
IsRefusedOf true script log text error = IsPlayRefused script log text error
IsRefusedOf false script log text error = IsRefused text error
