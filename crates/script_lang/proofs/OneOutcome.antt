-- A text comes to one outcome.
use Rattle.std.proofs.Common.{◌≡◌, ◌⊎◌, inl, inr, ℕ, IsTrue, IsFalse, if◌then◌else◌, List, refl, sym, ap, ◌∙◌, Option, Some, None, Result, codes}
use Rattle.std.specs.Fmt.{decimal}
use Rattle.std.proofs.lemmas.Bool.{both_ways}
use Rattle.act_text.specs.declared.name.PortName.{PortName}
use Rattle.act_text.specs.ReadActs.{of_two}
use Rattle.act_text.specs.Reading.{name_of, port_of}
use Rattle.line_text.specs.Words.{words_of}
use Rattle.omx_types.specs.declared.fault.ScriptWhy.TheVariants as whys
use Rattle.script_lang.specs.Known.{introduced, is_known, is_new}
use Rattle.script_lang.specs.ReadForms.{form_of, act_form}
use Rattle.script_lang.specs.Scripts.{Before, WordsSay, Says, TraceComes, ReadsAs, after, nothing_before, IsUnits, IsFormOf, AreNoForm, units_of}
use Rattle.line_text.specs.Scripts.{is_skipped}
use Rattle.script_lang.specs.declared.form.TraceForm.{TraceForm}
use Rattle.script_lang.specs.declared.saying.Said.{Said}
use Rattle.script_lang.specs.declared.saying.Said.TheVariants.{Nothing, Units, Act, Fault}
use Rattle.script_lang.specs.declared.script.ScriptFault.{ScriptFault}
use Rattle.script_lang.proofs.OneByOne.{read-once}
use Rattle.script_lang.proofs.FormsAgain.{form-again, units-again}

-- ---- words are one form, or one number of units, or neither

same-some : {T : Type 0} (x y : T) (found : Option T) → found ≡ Some x → found ≡ Some y → x ≡ y
same-some x y found p q = let e : Some x ≡ Some y = sym p ∙ q in cc

none-some : {T : Type 0} (x : T) (found : Option T) → found ≡ None → found ≡ Some x → ⊥
none-some x found p q = let e : None ≡ Some x = sym p ∙ q in cc

form-found : (words : List (List ℕ)) (form : TraceForm) → IsFormOf words form → form_of words ≡ Some form
form-found words form is = ap form_of is.spelled ∙ form-again form is.is

units-found : (before : Before) (words : List (List ℕ)) (n : ℕ) → IsUnits before words n → units_of words ≡ Some n
units-found before words n is = ap units_of is.spelled ∙ units-again n is.few

units-no_act : (name : Option (List ℕ)) (port : Option PortName) → act_form (of_two (codes "units") name port) ≡ None
units-no_act (Some component) port = refl
units-no_act None (Some port) = refl
units-no_act None None = refl

units-no_form : (before : Before) (words : List (List ℕ)) (n : ℕ) (form : TraceForm) → IsUnits before words n → IsFormOf words form → ⊥
units-no_form before words n form units is =
    none-some form (form_of words) (ap form_of units.spelled ∙ units-no_act (name_of (decimal n)) (port_of (decimal n))) (form-found words form is)

-- ---- a line says one thing

-- what a form says, by the names in it
abbrev said_of : Before → TraceForm → Said
said_of before form = if is_known (introduced before.lines) form then (if is_new (introduced before.lines) form then Act form else Fault whys.NameTwice) else Fault whys.UnknownName

abbrev SaysUnits : Before → List (List ℕ) → Said → Type 0
SaysUnits before words said = (n : ℕ) × IsUnits before words n × (said ≡ Units n)

abbrev SaysForm : Before → List (List ℕ) → Said → Type 0
SaysForm before words said = (form : TraceForm) × IsFormOf words form × (said ≡ said_of before form)

abbrev SaysNone : Before → List (List ℕ) → Said → Type 0
SaysNone before words said = AreNoForm before words × (said ≡ Fault whys.BadWord)

abbrev Means : Before → List (List ℕ) → Said → Type 0
Means before words said =
    (IsTrue (is_skipped words) × (said ≡ Nothing))
    ⊎ (IsFalse (is_skipped words) × (SaysUnits before words said ⊎ SaysForm before words said ⊎ SaysNone before words said))

means : (before : Before) (words : List (List ℕ)) (said : Said) → WordsSay before words said → Means before words said
means before words Nothing says = inl (says, refl)
means before words (Units n) (counts, is) = inr (counts, inl (n, is, refl))
means before words (Act form) (counts, is, known, new) = inr (counts, inr (inl (form, is, sym (rw (known, new) refl))))
means before words (Fault whys.BadWord) (counts, none) = inr (counts, inr (inr (none, refl)))
means before words (Fault whys.UnknownName) (counts, (form, is, unknown)) = inr (counts, inr (inl (form, is, sym (rw unknown refl))))
means before words (Fault whys.NameTwice) (counts, (form, is, known, old)) = inr (counts, inr (inl (form, is, sym (rw (known, old) refl))))
means before words (Fault whys.TooLong) says = absurd says
means before words (Fault whys.NotText) says = absurd says
means before words (Fault whys.FirstLine) says = absurd says
means before words (Fault whys.TooMany) says = absurd says
means before words (Fault whys.PortTwice) says = absurd says
means before words (Fault whys.OpenPort) says = absurd says
means before words (Fault whys.TooManyBlocks) says = absurd says
means before words (Fault whys.Cycle) says = absurd says
means before words (Fault whys.Wrong) says = absurd says
means before words (Fault whys.Small) says = absurd says
means before words (Fault whys.Differ) says = absurd says

means-once : (before : Before) (words : List (List ℕ)) (one other : Said) → Means before words one → Means before words other → one ≡ other
means-once before words one other (inl (_, is)) (inl (_, also)) = is ∙ sym also
means-once before words one other (inl (skipped, _)) (inr (counts, _)) = absurd (both_ways _ counts skipped)
means-once before words one other (inr (counts, _)) (inl (skipped, _)) = absurd (both_ways _ counts skipped)
means-once before words one other (inr (_, inl (n, a, is))) (inr (_, inl (m, b, also))) =
    is ∙ ap Units (same-some n m (units_of words) (units-found before words n a) (units-found before words m b)) ∙ sym also
means-once before words one other (inr (_, inl (n, a, is))) (inr (_, inr (inl (form, b, also)))) = absurd (units-no_form before words n form a b)
means-once before words one other (inr (_, inl (n, a, is))) (inr (_, inr (inr (none, also)))) = absurd (none.units n a)
means-once before words one other (inr (_, inr (inl (form, a, is)))) (inr (_, inl (n, b, also))) = absurd (units-no_form before words n form b a)
means-once before words one other (inr (_, inr (inl (form, a, is)))) (inr (_, inr (inl (next, b, also)))) =
    is ∙ ap (said_of before) (same-some form next (form_of words) (form-found words form a) (form-found words next b)) ∙ sym also
means-once before words one other (inr (_, inr (inl (form, a, is)))) (inr (_, inr (inr (none, also)))) = absurd (none.form form a)
means-once before words one other (inr (_, inr (inr (none, is)))) (inr (_, inl (n, b, also))) = absurd (none.units n b)
means-once before words one other (inr (_, inr (inr (none, is)))) (inr (_, inr (inl (form, b, also)))) = absurd (none.form form b)
means-once before words one other (inr (_, inr (inr (_, is)))) (inr (_, inr (inr (_, also)))) = is ∙ sym also

says-once : (before : Before) (line : List ℕ) (one other : Said) → Says before line one → Says before line other → one ≡ other
says-once before line one other (inl (_, a)) (inl (_, b)) = means-once before (words_of line) one other (means before (words_of line) one a) (means before (words_of line) other b)
says-once before line one other (inl (text, _)) (inr (never, _)) = absurd (never text)
says-once before line one other (inr (never, _)) (inl (text, _)) = absurd (never text)
says-once before line one other (inr (_, is)) (inr (_, also)) = is ∙ sym also

-- ---- a line comes to one thing

pub trace-once : (before : Before) (number : ℕ) (line : List ℕ) (one other : Result Before ScriptFault) → TraceComes before number line one → TraceComes before number line other → one ≡ other
trace-once before number line one other (said, says, is) (again, says', also) =
    is ∙ ap (after before number line) (says-once before line said again says says') ∙ sym also

pub one-outcome : (text : List ℕ) (one other : Result Before ScriptFault) → ReadsAs text one → ReadsAs text other → one ≡ other
one-outcome text one other a b = read-once TraceComes trace-once nothing_before (codes "trace") text one other a b
