-- How many components are numbered: there is a last number.
use Rattle.std.proofs.Common.{◌≡◌, ◌≢◌, ◌<◌, ◌≤◌, ◌+◌, ◌-◌, ◌^◌, ℕ, Bool, true, false, nat_eq, nat_le, is_none, length, eq-eqb, arith, List, [], ◌∷◌, Option, Some, None, Ok, refl, ap}
use Rattle.omx_types.specs.declared.handle.Handle.{Handle}
use Rattle.omx_types.specs.declared.error.OmxError.{OmxError}
use Rattle.omx_types.specs.declared.error.OmxError.TheVariants as errors
use Rattle.omx_types.specs.declared.kind.Kind.{Kind}
use Rattle.il_machine.specs.World.{changed_at, Component, World, no_world}
use Rattle.il_machine.specs.Kinds.{kind_of}
use Rattle.il_machine.specs.Lists.{first_of_these}
use Rattle.il_machine.specs.Look.{look}
use Rattle.il_machine.specs.Answers.{AnswersOrMemory, component_named}
use Rattle.il_machine.specs.Components.{get_handle_refusal, is_bad_name, is_full, with_new_component}
use Rattle.il_machine.specs.Effect.{effect}
use Rattle.il_machine.specs.Acts.{Act, Reply}
use Rattle.il_machine.specs.Acts as acts
use Rattle.il_machine.specs.Run.{Meets, Run, Step}
use Rattle.il_machine.specs.Sound.{Sound}
use Rattle.machine_laws.proofs.Accepting.{not_either, passed}
use Rattle.history_laws.proofs.Naming.{named_below}
use Rattle.history_laws.proofs.Numbered.{Same, closing_same, numbered_step}
use Rattle.history_laws.proofs.Outcome.{turn, Outcome, Nothing, Done}
use Rattle.history_laws.proofs.Steps.{step_comes}
use Rattle.machine_laws.proofs.Steps.{sound_none, sound_run_of, sound_step}

-- ---- the numbers below the last

-- fewer than 2^64 were numbered
abbrev IsNumbered : World → Type 0
IsNumbered w = w.numbered < 2 ^ 64

kept : (w v : World) → Same w v → IsNumbered w → IsNumbered v
kept w v same few = omega (arith, same, few)

made : (w : World) (h : Handle) (kinds : Option Kind) → IsNumbered w → w.numbered ≢ 2 ^ 64 - 1 → IsNumbered (changed_at kinds w (λ kind. with_new_component h kind w))
made w h None few other = few
made w h (Some kind) few other = let next : (with_new_component h kind w).numbered ≡ w.numbered + 1 = refl in omega (arith, few, other, next)

third_passed : {E : Type 0} (a b c : Bool) (x y z : E) → first_of_these ((a, x) ∷ (b, y) ∷ (c, z) ∷ []) ≡ None → c ≡ false
third_passed a b c x y z e = (passed c z None (passed b y _ (passed a x _ e).1).1).0

pub not_last : (w : World) (name : List ℕ) → get_handle_refusal (look w) name ≡ None → w.numbered ≢ 2 ^ 64 - 1
not_last w name none =
    let full = third_passed (is_bad_name name) (is_none (kind_of name)) (is_full (look w)) errors.InvalidComponentName errors.ComponentNotFound errors.InsufficientResources none in
    let other = (not_either (nat_le 32 (length w.components)) (nat_eq w.numbered 18446744073709551615) full).1 in
    λ same. let is : nat_eq w.numbered 18446744073709551615 ≡ true = eq-eqb w.numbered 18446744073709551615 same in absurd cc

given_not_last : (w v : World) (name : List ℕ) (h : Handle) (refusal : Option OmxError) (Accepted : Handle → Type 0) → get_handle_refusal (look w) name ≡ refusal
    → AnswersOrMemory refusal (Ok h) w v Accepted → w.numbered ≢ 2 ^ 64 - 1
given_not_last w v name h None Accepted is answered = not_last w name is
given_not_last w v name h (Some error) Accepted is answered = let no = answered.0 in absurd cc

outcome_numbered : (w : World) (a : Act) (r : Reply) (v : World) → IsNumbered w → IsNumbered (effect w a r) → Outcome w (turn w a r) v → IsNumbered v
outcome_numbered w a r v few after (Nothing e m) = kept w v (ap (λ (x : World). x.numbered) e) few
outcome_numbered w a r v few after (Done C E) = kept (effect w a r) v (closing_same (effect w a r) v C) after

step_numbered : (w : World) (a : Act) (r : Reply) (v : World) → Sound w → Meets w a → Step w a r v → IsNumbered w → IsNumbered v
step_numbered w (acts.GetHandle name) (acts.Got (Ok h)) v S M step few =
    let other = given_not_last w v name h (get_handle_refusal (look w) name) _ refl step in
    outcome_numbered w (acts.GetHandle name) (acts.Got (Ok h)) v few (made w h (kind_of name) few other) (step_comes w (acts.GetHandle name) (acts.Got (Ok h)) v S M step)
step_numbered w a r v S M step few = kept w v (numbered_step w a r v S M step tt) few

runs_numbered : (w v : World) (xs : List (Act × Reply)) → Sound w → IsNumbered w → Run w xs v → IsNumbered v
runs_numbered w v [] S few e = kept w v (ap (λ (x : World). x.numbered) e) few
runs_numbered w v (x ∷ xs) S few (mid, M, h, more) =
    runs_numbered mid v xs (sound_step w mid x.0 x.1 M h S) (step_numbered w x.0 x.1 mid S M h few) more

pub run_numbered : (key units : ℕ) (xs : List (Act × Reply)) (v : World) → Run (no_world key units) xs v → v.numbered < 2 ^ 64
run_numbered key units xs v run = runs_numbered (no_world key units) v xs (sound_none key units) (omega arith) run

none_by : (w : World) (h : Handle) (o : Option Component) → Sound w → w.numbered < 2 ^ 64 → 2 ^ 64 - 1 ≤ h.generation → component_named h w.components ≡ o → o ≡ None
none_by w h None S few last is = refl
none_by w h (Some c) S few last is = let below = named_below w h c S is in absurd (omega (arith, below, few, last))

pub none_named : (key units : ℕ) (xs : List (Act × Reply)) (v : World) (h : Handle) → Run (no_world key units) xs v → 2 ^ 64 - 1 ≤ h.generation → component_named h v.components ≡ None
none_named key units xs v h run last =
    none_by v h (component_named h v.components) (sound_run_of (no_world key units) v xs run (sound_none key units)) (run_numbered key units xs v run) last refl
