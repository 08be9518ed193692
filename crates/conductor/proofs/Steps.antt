-- The first link that passes a test, and that no two steps are due at once.
use Rattle.std.proofs.Common.{◌≡◌, ◌⊎◌, inl, inr, ℕ, zero, suc, ◌<◌, ◌&&◌, not, Bool, true, false, List, [], ◌∷◌, Some, refl, sym, ◌∙◌, ap, subst, arith, rules, tests}
use Rattle.std.specs.Prelude.{nat_lt, slice_get}
use Rattle.std.specs.List.{list_any}
use Rattle.std.proofs.lemmas.Bool.{cases_lt}
use Rattle.il_machine.specs.declared.answer.Progress.{Progress}
use Rattle.conductor.specs.declared.phase.ChangeStep.{ChangeStep}
use Rattle.conductor.specs.declared.phase.ChangeStep.TheVariants.{Disable, Retune, Enable}
use Rattle.conductor.specs.declared.phase.LateLink.{LateLink}
use Rattle.conductor.specs.Changing.{HasNoStep, IsNextStep, NoneDue}
use Rattle.conductor.specs.Phases.{IsStep, NoneBefore, has_half, has_settings, is_changed, is_half, is_ready}
use Rattle.play_forms.proofs.Places.{Some_same, and_both, both, either, not_true}

-- ---- tests over a list

pub any_at : {A : Type 0} (test : A → Bool) (xs : List A) (k : ℕ) (x : A) → slice_get xs k ≡ Some x → test x ≡ true → list_any test xs ≡ true
any_at test [] k x e passes = absurd cc
any_at test (y ∷ xs) zero x e passes = let same : y ≡ x = Some_same y x e in rw same (rw passes refl)
any_at test (y ∷ xs) (suc k) x e passes = either (test y) (λ h. rw h refl) (λ h. rw h (any_at test xs k x e passes))

pub none_any : {A : Type 0} (test : A → Bool) (xs : List A) → ((k : ℕ) (x : A) → slice_get xs k ≡ Some x → test x ≡ false) → list_any test xs ≡ false
none_any test [] none = refl
none_any test (x ∷ xs) none = rw (none 0 x refl) (none_any test xs (λ k y e. none (suc k) y e))

pub none_at : {A : Type 0} (test : A → Bool) (xs : List A) (k : ℕ) (x : A) → slice_get xs k ≡ Some x → list_any test xs ≡ false → test x ≡ false
none_at test xs k x e none = either (test x) (λ h. both (list_any test xs) (any_at test xs k x e h) none) (λ h. h)

-- the one before the other, or they are one
order_of : (n m : ℕ) → (n < m) ⊎ ((n ≡ m) ⊎ (m < n))
order_of n m = elim (cases_lt n m) [ inl less ↦ inl less | inr h ↦ elim (cases_lt m n) [ inl more ↦ inr (inr more) | inr h' ↦ inr (inl (omega arith)) ] ]

-- two first ones are one
pub one_first : (test : LateLink → Bool) (lates : List LateLink) (n m : ℕ) (one other : LateLink) → slice_get lates n ≡ Some one → slice_get lates m ≡ Some other
    → test one ≡ true → test other ≡ true → NoneBefore test lates n → NoneBefore test lates m → n ≡ m
one_first test lates n m one other there there' passes passes' none none' =
    elim (order_of n m) [
      | inl less ↦ both (test one) passes (none' n one less there)
      | inr rest ↦ elim rest [ inl same ↦ same | inr more ↦ both (test other) passes' (none m other more there') ]
    ]

-- ---- the tests of a late source's link

positive : (steps : ℕ) → nat_lt 0 steps ≡ true → 0 < steps
positive zero e = absurd cc
positive (suc steps) e = omega arith

below_suc : (steps : ℕ) → nat_lt 0 (suc steps) ≡ true
below_suc steps = search (rules, tests)

and_true_right : (a : Bool) → (a && true) ≡ a
and_true_right true = refl
and_true_right false = refl

true_not : true ≡ false → ⊥
true_not e = both true refl e

untouched : (steps : ℕ) (changed : Bool) → changed ≡ false → (nat_lt 0 steps && not changed) ≡ false → steps ≡ 0
untouched zero changed e f = refl
untouched (suc steps) true e f = absurd (true_not e)
untouched (suc steps) false e f = both (nat_lt 0 (suc steps)) (below_suc steps) (sym (and_true_right (nat_lt 0 (suc steps))) ∙ f)

-- a link that isn't half done and whose change isn't done has taken no step
pub ready_untouched : (late : LateLink) → is_half late ≡ false → is_changed late ≡ false → late.steps ≡ 0
ready_untouched late half changed = untouched late.steps (is_changed late) changed half

-- ---- the step that is due

-- where one is half done, a step that is due is its next one
pub next_step_of : (told : List Progress) (lates : List LateLink) (number other : ℕ) (late link : LateLink) (step : ChangeStep) → slice_get lates number ≡ Some late
    → is_half late ≡ true → NoneBefore is_half lates number → slice_get lates other ≡ Some link → IsStep told lates other link step → IsNextStep late step
next_step_of told lates number other late link Disable there half none there' is = both (has_half lates) (any_at is_half lates number late there half) is.0
next_step_of told lates number other late link Retune there half none there' is =
    let at : number ≡ other = one_first is_half lates number other late link there there' half is.0 none is.1 in
    let same : late ≡ link = Some_same late link (sym there ∙ ap (slice_get lates) at ∙ there') in
    subst (λ l. IsNextStep l Retune) (sym same) (is.2, is.3)
next_step_of told lates number other late link Enable there half none there' is =
    let at : number ≡ other = one_first is_half lates number other late link there there' half is.0 none is.1 in
    let same : late ≡ link = Some_same late link (sym there ∙ ap (slice_get lates) at ∙ there') in
    subst (λ l. IsNextStep l Enable) (sym same) is.2

pub none_due_half : (told : List Progress) (lates : List LateLink) (number : ℕ) (late : LateLink) → slice_get lates number ≡ Some late
    → is_half late ≡ true → NoneBefore is_half lates number → HasNoStep late → NoneDue told lates
none_due_half told lates number late there half none_before no_step other link step there' is =
    no_step step (next_step_of told lates number other late link step there half none_before there' is)

pub none_due_quiet : (told : List Progress) (lates : List LateLink) → has_half lates ≡ false → list_any (is_ready told) lates ≡ false → NoneDue told lates
none_due_quiet told lates half ready other link Disable there is = both (list_any (is_ready told) lates) (any_at (is_ready told) lates other link there is.1) ready
none_due_quiet told lates half ready other link Retune there is = both (has_half lates) (any_at is_half lates other link there is.0) half
none_due_quiet told lates half ready other link Enable there is = both (has_half lates) (any_at is_half lates other link there is.0) half

-- a step that is due is one of three
pub step_small : (told : List Progress) (lates : List LateLink) (number : ℕ) (late : LateLink) (step : ChangeStep) → slice_get lates number ≡ Some late
    → IsStep told lates number late step → late.steps < 3
step_small told lates number late Disable there is =
    let ready = and_both (has_settings (slice_get told late.source)) (not (is_changed late)) is.1 in
    let none : late.steps ≡ 0 = ready_untouched late (none_at is_half lates number late there is.0) (not_true (is_changed late) ready.1) in
    omega arith
step_small told lates number late Retune there is = let one : late.steps ≡ 1 = is.2 in omega arith
step_small told lates number late Enable there is = let two : late.steps ≡ 2 = is.2 in omega arith
