-- What the lines have told, as a list, and what the steps have.
use Rattle.std.proofs.Common.{◌≡◌, ℕ, zero, suc, ◌<◌, Bool, true, List, [], ◌∷◌, length, slice_get, Option, Some, None, is_some, refl, sym, ◌∙◌, ap, subst, eq-eqb, eqb-true, arith}
use Rattle.std.specs.List.{list_all}
use Rattle.std.proofs.lemmas.Bool.{and_parts}
use Rattle.std.proofs.lemmas.Option.{slice_get_within}
use Rattle.omx_types.specs.declared.command.Completion.{Completion}
use Rattle.omx_types.specs.declared.command.Completion.TheVariants.{Disable, Enable}
use Rattle.omx_types.specs.declared.state.State.{State}
use Rattle.omx_types.specs.Numbers.{state_number}
use Rattle.il_machine.specs.declared.answer.Progress.{Progress}
use Rattle.il_machine.specs.Acts.{Act, Reply}
use Rattle.state_words.proofs.Showing.{one_state}
use Rattle.conductor.specs.Hearing.{is_disable, is_enable, tells_disable, tells_enable}
use Rattle.conductor.specs.Phases.{all_told, has_settings, is_at}
use Rattle.play_world_laws.proofs.Resting.{all_true}
use Rattle.play_log.proofs.Players.{some_same}
use Rattle.play_result_laws.specs.Asked.{told_by}
use Rattle.audit_order.specs.Steps.{has_eos}

-- of so many components the list has what each has told by the steps
pub record AreTold (many : ℕ) (told : List Progress) (steps : List (Act × Reply)) : Type 0 where
  pub many_are : length told ≡ many
  pub each : (place : ℕ) → place < many → slice_get told place ≡ Some (told_by place steps)

passes_each : {X : Type 0} (test : X → Bool) (xs : List X) (k : ℕ) (y : X) → list_all test xs ≡ true → slice_get xs k ≡ Some y → test y ≡ true
passes_each test [] k y t e = absurd cc
passes_each test (x ∷ xs) zero y t e = subst (λ z. test z ≡ true) (some_same x y e) (and_parts (test x) (list_all test xs) t).0
passes_each test (x ∷ xs) (suc k) y t e = passes_each test xs k y (and_parts (test x) (list_all test xs) t).1 e

at_state : (state : State) (o : Option State) → is_at state o ≡ true → o ≡ Some state
at_state state None t = absurd cc
at_state state (Some other) t = ap (λ (s : State). Some s) (one_state other state (eqb-true (state_number other) (state_number state) t))

state_at : (state : State) (o : Option State) → o ≡ Some state → is_at state o ≡ true
state_at state o e = rw e (eq-eqb (state_number state) (state_number state) refl)

disabled_at : (port : ℕ) (o : Option Completion) → is_disable port o ≡ true → o ≡ Some (Disable port)
disabled_at port None t = absurd cc
disabled_at port (Some (Disable other)) t = ap (λ (n : ℕ). Some (Disable n)) (eqb-true other port t)
disabled_at port (Some _) t = absurd cc

disable_at : (port : ℕ) (o : Option Completion) → o ≡ Some (Disable port) → is_disable port o ≡ true
disable_at port o e = rw e (eq-eqb port port refl)

enabled_at : (port : ℕ) (o : Option Completion) → is_enable port o ≡ true → o ≡ Some (Enable port)
enabled_at port None t = absurd cc
enabled_at port (Some (Enable other)) t = ap (λ (n : ℕ). Some (Enable n)) (eqb-true other port t)
enabled_at port (Some _) t = absurd cc

enable_at : (port : ℕ) (o : Option Completion) → o ≡ Some (Enable port) → is_enable port o ≡ true
enable_at port o e = rw e (eq-eqb port port refl)

module _ (many : ℕ) (told : List Progress) (steps : List (Act × Reply)) (T : AreTold many told steps) where
  -- all have told the state
  pub told_states : (state : State) → all_told state told ≡ true → (place : ℕ) → place < many → (told_by place steps).state ≡ Some state
  told_states state t place b = at_state state (told_by place steps).state (passes_each (λ (p : Progress). is_at state p.state) told place (told_by place steps) t (T.each place b))

  pub states_told : (state : State) → ((place : ℕ) → place < many → (told_by place steps).state ≡ Some state) → all_told state told ≡ true
  states_told state A = all_true (λ (p : Progress). is_at state p.state) told (λ place p e.
      let b = slice_get_within told place p e in
      let m = T.many_are in
      let low : place < many = omega (arith, b, m) in
      let is : told_by place steps ≡ p = some_same (told_by place steps) p (sym (T.each place low) ∙ e) in
      subst (λ (y : Progress). is_at state y.state ≡ true) is (state_at state (told_by place steps).state (A place low)))

  pub told_disable : (place port : ℕ) → place < many → tells_disable port (slice_get told place) ≡ true → (told_by place steps).port ≡ Some (Disable port)
  told_disable place port b t = disabled_at port (told_by place steps).port (sym (ap (tells_disable port) (T.each place b)) ∙ t)

  pub disable_told : (place port : ℕ) → place < many → (told_by place steps).port ≡ Some (Disable port) → tells_disable port (slice_get told place) ≡ true
  disable_told place port b e = ap (tells_disable port) (T.each place b) ∙ disable_at port (told_by place steps).port e

  pub told_enable : (place port : ℕ) → place < many → tells_enable port (slice_get told place) ≡ true → (told_by place steps).port ≡ Some (Enable port)
  told_enable place port b t = enabled_at port (told_by place steps).port (sym (ap (tells_enable port) (T.each place b)) ∙ t)

  pub enable_told : (place port : ℕ) → place < many → (told_by place steps).port ≡ Some (Enable port) → tells_enable port (slice_get told place) ≡ true
  enable_told place port b e = ap (tells_enable port) (T.each place b) ∙ enable_at port (told_by place steps).port e

  pub told_settings : (place : ℕ) → place < many → has_settings (slice_get told place) ≡ true → is_some (told_by place steps).settings ≡ true
  told_settings place b t = sym (ap has_settings (T.each place b)) ∙ t

  pub settings_told : (place : ℕ) → place < many → is_some (told_by place steps).settings ≡ true → has_settings (slice_get told place) ≡ true
  settings_told place b e = ap has_settings (T.each place b) ∙ e

  pub told_eos : (place : ℕ) → place < many → has_eos (slice_get told place) ≡ true → (told_by place steps).eos ≡ true
  told_eos place b t = sym (ap has_eos (T.each place b)) ∙ t

  pub eos_told : (place : ℕ) → place < many → (told_by place steps).eos ≡ true → has_eos (slice_get told place) ≡ true
  eos_told place b e = ap has_eos (T.each place b) ∙ e
