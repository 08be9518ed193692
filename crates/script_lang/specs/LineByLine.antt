-- A script line by line. A line comes to what is known behind it, or to its fault; Comes says so for the lines of one language.
use Rattle.std.specs.Prelude.{◌≡◌, ◌≢◌, ℕ, ◌+◌, ◌<◌, ◌≤◌, List, [], ◌∷◌, Result, Ok, Err, ◌⊎◌, length, IsUtf8}
use Rattle.line_text.specs.Words.{words_of}
use Rattle.line_text.specs.Lines.{lines_of}
use Rattle.line_text.specs.Scripts.{first_words}
use Rattle.omx_types.specs.declared.fault.ScriptWhy.{ScriptWhy}
use Rattle.omx_types.specs.declared.fault.ScriptWhy.TheVariants as whys
use Rattle.script_lang.specs.declared.script.ScriptError.{ScriptError}
use Rattle.script_lang.specs.declared.script.ScriptError.TheVariants as Errors
use Rattle.script_lang.specs.declared.script.ScriptFault.{ScriptFault}

abbrev pub fault_at : ℕ → ScriptWhy → ScriptFault
fault_at number why = record { line = number; why = why }

-- after a line that is no fault the next one counts
abbrev pub GoOn : {B : Type 0} → (B → Type 0) → Result B ScriptFault → Result B ScriptFault → Type 0
GoOn Next (Ok next) outcome = Next next
GoOn Next (Err fault) outcome = outcome ≡ Err fault

-- what the lines from a number on come to: all that they say, or the first fault
abbrev pub ComeTo : {B : Type 0} → (B → ℕ → List ℕ → Result B ScriptFault → Type 0) → B → ℕ → List (List ℕ) → Result B ScriptFault → Type 0
ComeTo Comes before number [] outcome = outcome ≡ Ok before
ComeTo {B} Comes before number (line ∷ lines) outcome =
    (step : Result B ScriptFault) × Comes before number line step × GoOn (λ next. ComeTo Comes next (number + 1) lines outcome) step outcome

-- the first line is that of the command, and then the others count
abbrev pub Begin : {B : Type 0} → (B → ℕ → List ℕ → Result B ScriptFault → Type 0) → B → List ℕ → List (List ℕ) → Result B ScriptFault → Type 0
Begin Comes nothing command [] outcome = outcome ≡ Err (fault_at 1 whys.FirstLine)
Begin Comes nothing command (line ∷ lines) outcome =
    ((IsUtf8 line → ⊥) × (outcome ≡ Err (fault_at 1 whys.NotText)))
    ⊎ (IsUtf8 line × (words_of line ≢ first_words command) × (outcome ≡ Err (fault_at 1 whys.FirstLine)))
    ⊎ (IsUtf8 line × (words_of line ≡ first_words command) × ComeTo Comes nothing 2 lines outcome)

-- what a text comes to as a script of the command
abbrev pub AreRead : {B : Type 0} → (B → ℕ → List ℕ → Result B ScriptFault → Type 0) → B → List ℕ → List ℕ → Result B ScriptFault → Type 0
AreRead Comes nothing command text outcome =
    ((65536 < length text) × (outcome ≡ Err (fault_at 0 whys.TooLong)))
    ⊎ ((length text ≤ 65536) × Begin Comes nothing command (lines_of text) outcome)

-- the text begins with the command's first line, and this stands behind it
pub record IsBehind (command text rest : List ℕ) : Type 0 where
  pub first : List ℕ
  pub short : length text ≤ 65536
  pub lines : lines_of text ≡ first ∷ lines_of rest
  pub readable : IsUtf8 first
  pub words : words_of first ≡ first_words command

-- the first line isn't that of the command
abbrev pub IsNoFirst : List ℕ → List ℕ → ScriptFault → Type 0
IsNoFirst command first fault =
    ((IsUtf8 first → ⊥) × (fault ≡ fault_at 1 whys.NotText))
    ⊎ (IsUtf8 first × (words_of first ≢ first_words command) × (fault ≡ fault_at 1 whys.FirstLine))

-- the text ends the reading before its second line, whatever the language
abbrev pub IsNoBegin : List ℕ → List ℕ → ScriptFault → Type 0
IsNoBegin command text fault =
    ((65536 < length text) × (fault ≡ fault_at 0 whys.TooLong))
    ⊎ ((length text ≤ 65536) × ((lines_of text ≡ []) × (fault ≡ fault_at 1 whys.FirstLine)))
    ⊎ ((length text ≤ 65536) × ((first : List ℕ) × (others : List (List ℕ)) × (lines_of text ≡ first ∷ others) × IsNoFirst command first fault))

-- P of the fault; want of memory says nothing
abbrev pub ForFault : ScriptError → (ScriptFault → Type 0) → Type 0
ForFault (Errors.Fault fault) P = P fault
ForFault Errors.OutOfMemory P = Unit {0}

-- after a line that is no fault, what the later lines come to is what it and they come to
abbrev pub GoesOn : {B : Type 0} → (B → ℕ → List ℕ → Result B ScriptFault → Type 0) → B → ℕ → List ℕ → B → Type 0
GoesOn {B} Comes before number line next =
    (lines : List (List ℕ)) (outcome : Result B ScriptFault) → ComeTo Comes next (number + 1) lines outcome → ComeTo Comes before number (line ∷ lines) outcome

-- the line ends the reading with its fault, or memory was wanting
abbrev pub IsEnded : {B : Type 0} → (B → ℕ → List ℕ → Result B ScriptFault → Type 0) → B → ℕ → List ℕ → ScriptError → Type 0
IsEnded Comes before number line error = ForFault error (λ fault. (lines : List (List ℕ)) → ComeTo Comes before number (line ∷ lines) (Err fault))
