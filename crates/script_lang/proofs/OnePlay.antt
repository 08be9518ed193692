-- A text comes to one outcome as a play script.
use Rattle.std.proofs.Common.{◌≡◌, ◌⊎◌, inl, inr, ℕ, IsTrue, IsFalse, if◌then◌else◌, List, [], get_or, refl, sym, ap, ◌∙◌, Option, Some, None, Result, codes}
use Rattle.std.proofs.lemmas.Bool.{both_ways}
use Rattle.line_text.specs.Words.{words_of}
use Rattle.line_text.specs.Scripts.{is_skipped}
use Rattle.omx_types.specs.declared.fault.ScriptWhy.TheVariants as whys
use Rattle.script_lang.specs.PlayKnown.{is_declared, is_free, has_place}
use Rattle.script_lang.specs.PlayScripts.{PlayBefore, PlayWordsSay, PlaySays, PlayComes, PlayReadsAs, IsPlayUnits, IsPlayFormOf, AreNoPlayForm, play_after, no_play}
use Rattle.script_lang.specs.ReadPlayForms.{play_form_of}
use Rattle.script_lang.specs.Scripts.{units_of}
use Rattle.script_lang.specs.declared.play_form.PlayForm.{PlayForm}
use Rattle.script_lang.specs.declared.play_saying.PlaySaid.{PlaySaid}
use Rattle.script_lang.specs.declared.play_saying.PlaySaid.TheVariants.{Nothing, Units, Form, Fault}
use Rattle.script_lang.specs.declared.script.ScriptFault.{ScriptFault}
use Rattle.script_lang.proofs.FormsAgain.{units-again}
use Rattle.script_lang.proofs.OneByOne.{read-once}
use Rattle.script_lang.proofs.PlayFormsAgain.{play-found, play-units}

same-some : {T : Type 0} (x y : T) (found : Option T) → found ≡ Some x → found ≡ Some y → x ≡ y
same-some x y found p q = let e : Some x ≡ Some y = sym p ∙ q in cc

none-some : {T : Type 0} (x : T) (found : Option T) → found ≡ None → found ≡ Some x → ⊥
none-some x found p q = let e : None ≡ Some x = sym p ∙ q in cc

same-units : (before : PlayBefore) (words : List (List ℕ)) (n m : ℕ) → IsPlayUnits before words n → IsPlayUnits before words m → n ≡ m
same-units before words n m a b = same-some n m (units_of words) (ap units_of a.spelled ∙ units-again n a.few) (ap units_of b.spelled ∙ units-again m b.few)

same-form : (words : List (List ℕ)) (one other : PlayForm) → IsPlayFormOf words one → IsPlayFormOf words other → one ≡ other
same-form words one other a b = same-some one other (play_form_of (Some (get_or words 2 [])) words) (play-found words one a) (play-found words other b)

units-no_form : (before : PlayBefore) (words : List (List ℕ)) (n : ℕ) (form : PlayForm) → IsPlayUnits before words n → IsPlayFormOf words form → ⊥
units-no_form before words n form units is =
    none-some form (play_form_of (Some (get_or words 2 [])) words)
    (ap (λ (ws : List (List ℕ)). play_form_of (Some (get_or words 2 [])) ws) units.spelled ∙ play-units (Some (get_or words 2 [])) n)
    (play-found words form is)

-- what a form says, by the names and files in it
abbrev said_of : List ℕ → List ℕ → PlayBefore → PlayForm → PlaySaid
said_of script log before form =
    if is_declared before.parts form
    then (if is_free script log before.parts form then (if has_place before.parts form then Form form else Fault whys.TooMany) else Fault whys.NameTwice)
    else Fault whys.UnknownName

abbrev SaysUnits : PlayBefore → List (List ℕ) → PlaySaid → Type 0
SaysUnits before words said = (n : ℕ) × IsPlayUnits before words n × (said ≡ Units n)

abbrev SaysForm : List ℕ → List ℕ → PlayBefore → List (List ℕ) → PlaySaid → Type 0
SaysForm script log before words said = (form : PlayForm) × IsPlayFormOf words form × (said ≡ said_of script log before form)

abbrev SaysNone : PlayBefore → List (List ℕ) → PlaySaid → Type 0
SaysNone before words said = AreNoPlayForm before words × (said ≡ Fault whys.BadWord)

abbrev Means : List ℕ → List ℕ → PlayBefore → List (List ℕ) → PlaySaid → Type 0
Means script log before words said =
    (IsTrue (is_skipped words) × (said ≡ Nothing))
    ⊎ (IsFalse (is_skipped words) × (SaysUnits before words said ⊎ SaysForm script log before words said ⊎ SaysNone before words said))

means : (script log : List ℕ) (before : PlayBefore) (words : List (List ℕ)) (said : PlaySaid) → PlayWordsSay script log before words said → Means script log before words said
means script log before words Nothing says = inl (says, refl)
means script log before words (Units n) (counts, is) = inr (counts, inl (n, is, refl))
means script log before words (Form form) (counts, is, known, free, place) = inr (counts, inr (inl (form, is, sym (rw (known, free, place) refl))))
means script log before words (Fault whys.BadWord) (counts, none) = inr (counts, inr (inr (none, refl)))
means script log before words (Fault whys.UnknownName) (counts, (form, is, unknown)) = inr (counts, inr (inl (form, is, sym (rw unknown refl))))
means script log before words (Fault whys.NameTwice) (counts, (form, is, known, old)) = inr (counts, inr (inl (form, is, sym (rw (known, old) refl))))
means script log before words (Fault whys.TooMany) (counts, (form, is, known, free, full)) = inr (counts, inr (inl (form, is, sym (rw (known, free, full) refl))))
means script log before words (Fault whys.TooLong) says = absurd says
means script log before words (Fault whys.NotText) says = absurd says
means script log before words (Fault whys.FirstLine) says = absurd says
means script log before words (Fault whys.PortTwice) says = absurd says
means script log before words (Fault whys.OpenPort) says = absurd says
means script log before words (Fault whys.TooManyBlocks) says = absurd says
means script log before words (Fault whys.Cycle) says = absurd says
means script log before words (Fault whys.Wrong) says = absurd says
means script log before words (Fault whys.Small) says = absurd says
means script log before words (Fault whys.Differ) says = absurd says

means-once : (script log : List ℕ) (before : PlayBefore) (words : List (List ℕ)) (one other : PlaySaid) → Means script log before words one → Means script log before words other → one ≡ other
means-once script log before words one other (inl (_, is)) (inl (_, also)) = is ∙ sym also
means-once script log before words one other (inl (skipped, _)) (inr (counts, _)) = absurd (both_ways _ counts skipped)
means-once script log before words one other (inr (counts, _)) (inl (skipped, _)) = absurd (both_ways _ counts skipped)
means-once script log before words one other (inr (_, inl (n, a, is))) (inr (_, inl (m, b, also))) = is ∙ ap Units (same-units before words n m a b) ∙ sym also
means-once script log before words one other (inr (_, inl (n, a, is))) (inr (_, inr (inl (form, b, also)))) = absurd (units-no_form before words n form a b)
means-once script log before words one other (inr (_, inl (n, a, is))) (inr (_, inr (inr (none, also)))) = absurd (none.units n a)
means-once script log before words one other (inr (_, inr (inl (form, a, is)))) (inr (_, inl (n, b, also))) = absurd (units-no_form before words n form b a)
means-once script log before words one other (inr (_, inr (inl (form, a, is)))) (inr (_, inr (inl (next, b, also)))) =
    is ∙ ap (said_of script log before) (same-form words form next a b) ∙ sym also
means-once script log before words one other (inr (_, inr (inl (form, a, is)))) (inr (_, inr (inr (none, also)))) = absurd (none.form form a)
means-once script log before words one other (inr (_, inr (inr (none, is)))) (inr (_, inl (n, b, also))) = absurd (none.units n b)
means-once script log before words one other (inr (_, inr (inr (none, is)))) (inr (_, inr (inl (form, b, also)))) = absurd (none.form form b)
means-once script log before words one other (inr (_, inr (inr (_, is)))) (inr (_, inr (inr (_, also)))) = is ∙ sym also

says-once : (script log : List ℕ) (before : PlayBefore) (line : List ℕ) (one other : PlaySaid) → PlaySays script log before line one → PlaySays script log before line other → one ≡ other
says-once script log before line one other (inl (_, a)) (inl (_, b)) =
    means-once script log before (words_of line) one other (means script log before (words_of line) one a) (means script log before (words_of line) other b)
says-once script log before line one other (inl (text, _)) (inr (never, _)) = absurd (never text)
says-once script log before line one other (inr (never, _)) (inl (text, _)) = absurd (never text)
says-once script log before line one other (inr (_, is)) (inr (_, also)) = is ∙ sym also

play-once : (script log : List ℕ) (before : PlayBefore) (number : ℕ) (line : List ℕ) (one other : Result PlayBefore ScriptFault)
    → PlayComes script log before number line one → PlayComes script log before number line other → one ≡ other
play-once script log before number line one other (said, says, is) (again, says', also) =
    is ∙ ap (play_after before number) (says-once script log before line said again says says') ∙ sym also

pub one-play : (script log text : List ℕ) (one other : Result PlayBefore ScriptFault) → PlayReadsAs script log text one → PlayReadsAs script log text other → one ≡ other
one-play script log text one other a b = read-once (PlayComes script log) (play-once script log) no_play (codes "play") text one other a b
