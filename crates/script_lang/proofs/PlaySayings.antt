-- What a line of a play says, and what it comes to.
use Rattle.std.proofs.Common.{◌≡◌, ℕ, List, ◌∷◌, refl, ap, ◌∙◌, inl, inr, IsTrue, Option, Some, None, IfNone, Ok, Err}
use Rattle.omx_types.specs.declared.fault.ScriptWhy.{ScriptWhy}
use Rattle.omx_types.specs.declared.fault.ScriptWhy.TheVariants as whys
use Rattle.script_lang.specs.PlayKnown.{has_place}
use Rattle.script_lang.specs.LineByLine.{ComeTo, GoesOn, fault_at}
use Rattle.script_lang.specs.Scripts.{units_of}
use Rattle.script_lang.specs.PlayScripts.{PlayBefore, PlaySays, PlayComes, IsPlayUnits, with_play_units, with_form}
use Rattle.script_lang.specs.declared.play_form.PlayForm.{PlayForm}
use Rattle.script_lang.specs.declared.play_saying.PlaySaid.TheVariants.{Nothing, Units, Form, Fault}
use Rattle.script_lang.proofs.FormsAgain.{units-again}
use Rattle.script_lang.proofs.Sayings.{none-some}

pub play_units-none : (before : PlayBefore) (words : List (List ℕ)) (r : Option ℕ) → r ≡ units_of words → IfNone r ((n : ℕ) → IsPlayUnits before words n → ⊥)
play_units-none before words (Some n) is = tt
play_units-none before words None is = λ n units. none-some n (is ∙ ap units_of units.spelled ∙ units-again n units.few)

pub play-nothing : (script log : List ℕ) (before : PlayBefore) (number : ℕ) (line : List ℕ) → PlaySays script log before line Nothing → GoesOn (PlayComes script log) before number line before
play-nothing script log before number line says = λ lines outcome come. (Ok before, (Nothing, says, refl), come)

pub play-said_units : (script log : List ℕ) (before : PlayBefore) (number : ℕ) (line : List ℕ) (n : ℕ) → PlaySays script log before line (Units n) → GoesOn (PlayComes script log) before number line (with_play_units before n)
play-said_units script log before number line n says = λ lines outcome come. (Ok (with_play_units before n), (Units n, says, refl), come)

pub play-said_form : (script log : List ℕ) (before : PlayBefore) (number : ℕ) (line : List ℕ) (form : PlayForm) → PlaySays script log before line (Form form) → GoesOn (PlayComes script log) before number line (with_form before number form)
play-said_form script log before number line form says = λ lines outcome come. (Ok (with_form before number form), (Form form, says, refl), come)

pub play-said_fault : (script log : List ℕ) (before : PlayBefore) (number : ℕ) (line : List ℕ) (why : ScriptWhy) → PlaySays script log before line (Fault why) → (lines : List (List ℕ)) → ComeTo (PlayComes script log) before number (line ∷ lines) (Err (fault_at number why))
play-said_fault script log before number line why says lines = (Err (fault_at number why), (Fault why, says, refl), refl)

-- a form that is said has a place
pub form-placed : (script log : List ℕ) (before : PlayBefore) (line : List ℕ) (form : PlayForm) → PlaySays script log before line (Form form) → IsTrue (has_place before.parts form)
form-placed script log before line form (inl (_, (_, _, _, _, place))) = place
form-placed script log before line form (inr (_, is)) = absurd (let e : Form form ≡ Fault whys.NotText = is in cc)
