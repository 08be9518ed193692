-- What a line says, and what it comes to.
use Rattle.std.proofs.Common.{◌≡◌, ℕ, ◌<◌, ◌≤◌, List, ◌∷◌, length, refl, ap, ◌∙◌, subst, arith, Option, Some, None, IfNone, Ok, Err}
use Rattle.omx_types.specs.declared.fault.ScriptWhy.{ScriptWhy}
use Rattle.script_lang.specs.ReadForms.{form_of}
use Rattle.script_lang.specs.LineByLine.{ComeTo, GoesOn, fault_at}
use Rattle.script_lang.specs.Scripts.{Before, Says, TraceComes, IsUnits, AreNoForm, units_of, with_units, with_act}
use Rattle.script_lang.specs.declared.form.TraceForm.{TraceForm}
use Rattle.script_lang.specs.declared.saying.Said.TheVariants.{Nothing, Units, Act, Fault}
use Rattle.script_lang.proofs.FormsAgain.{form-again, form-short, units-again}

abbrev IsNothing : {T : Type 0} → Option T → Type 0
IsNothing None = Unit {0}
IsNothing (Some _) = ⊥

pub none-some : {T : Type 0} (x : T) → None ≡ Some x → ⊥
none-some {T} x e = subst (λ (o : Option T). IsNothing o) e tt

pub units-none : (before : Before) (words : List (List ℕ)) (r : Option ℕ) → r ≡ units_of words → IfNone r ((n : ℕ) → IsUnits before words n → ⊥)
units-none before words (Some n) is = tt
units-none before words None is = λ n units. none-some n (is ∙ ap units_of units.spelled ∙ units-again n units.few)

pub no-form : (before : Before) (words : List (List ℕ)) → None ≡ form_of words → ((n : ℕ) → IsUnits before words n → ⊥) → AreNoForm before words
no-form before words none no_units = record {
  units = no_units;
  form = λ form is. none-some form (none ∙ ap form_of is.spelled ∙ form-again form is.is);
}

pub long-no-form : (before : Before) (words : List (List ℕ)) → 16 < length words → AreNoForm before words
long-no-form before words long = record {
  units = λ n is. two long (ap length is.spelled);
  form = λ form is. eight long (ap length is.spelled) (form-short form);
}
  where
    two : 16 < length words → length words ≡ 2 → ⊥
    two long is = omega arith

    eight : {n : ℕ} → 16 < length words → length words ≡ n → n ≤ 8 → ⊥
    eight long is short = omega arith

pub said-nothing : (before : Before) (number : ℕ) (line : List ℕ) → Says before line Nothing → GoesOn TraceComes before number line before
said-nothing before number line says = λ lines outcome come. (Ok before, (Nothing, says, refl), come)

pub said-units : (before : Before) (number : ℕ) (line : List ℕ) (n : ℕ) → Says before line (Units n) → GoesOn TraceComes before number line (with_units before n)
said-units before number line n says = λ lines outcome come. (Ok (with_units before n), (Units n, says, refl), come)

pub said-act : (before : Before) (number : ℕ) (line : List ℕ) (form : TraceForm) → Says before line (Act form) → GoesOn TraceComes before number line (with_act before number line form)
said-act before number line form says = λ lines outcome come. (Ok (with_act before number line form), (Act form, says, refl), come)

pub said-fault : (before : Before) (number : ℕ) (line : List ℕ) (why : ScriptWhy) → Says before line (Fault why) → (lines : List (List ℕ)) → ComeTo TraceComes before number (line ∷ lines) (Err (fault_at number why))
said-fault before number line why says lines = (Err (fault_at number why), (Fault why, says, refl), refl)
