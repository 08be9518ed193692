-- What a conductor knows leaves one answer, and one value behind it.
use Rattle.std.proofs.Common.{◌≡◌, ℕ, ◌==◌, ◌&&◌, true, List, Some, None, refl, sym, ◌∙◌, ap, arith}
use Rattle.std.specs.Prelude.{slice_get, slice_set}
use Rattle.std.specs.List.{list_any}
use Rattle.std.proofs.lemmas.Bool.{eqb-true}
use Rattle.il_machine.specs.declared.answer.Progress.{Progress}
use Rattle.omx_types.specs.declared.state.State.{State}
use Rattle.omx_types.specs.declared.state.State.TheVariants.{Executing, Loaded}
use Rattle.conductor.specs.declared.phase.ChangeStep.{ChangeStep}
use Rattle.conductor.specs.declared.phase.ChangeStep.TheVariants.{Disable, Retune, Enable}
use Rattle.conductor.specs.declared.phase.LateLink.{LateLink}
use Rattle.conductor.specs.declared.phase.Phase.{Phase}
use Rattle.conductor.specs.declared.phase.Phase.TheVariants.{Send, Change, Wait, Over, Failed}
use Rattle.conductor.specs.Hearing.{ConductorValue}
use Rattle.conductor.specs.Phases.{Conducts, IsChange, IsChangeDue, IsSendDue, IsStep, all_states, all_told, has_failed, has_half, is_half, is_over, is_ready, may_change, one_step_more}
use Rattle.conductor.proofs.Steps.{any_at, one_first}
use Rattle.play_forms.proofs.Places.{Some_same, and_both, and_of, both}

-- two steps that are due are one
record IsOne (number other : ℕ) (step next : ChangeStep) : Type 0 where
  at : number ≡ other
  step_is : step ≡ next

same_link : (lates : List LateLink) (number other : ℕ) (late link : LateLink) → number ≡ other → slice_get lates number ≡ Some late → slice_get lates other ≡ Some link → late ≡ link
same_link lates number other late link at there there' = Some_same late link (sym there ∙ ap (slice_get lates) at ∙ there')

steps_apart : (lates : List LateLink) (number other : ℕ) (late link : LateLink) {P : Type 0} → number ≡ other → slice_get lates number ≡ Some late → slice_get lates other ≡ Some link
    → late.steps ≡ 1 → link.steps ≡ 2 → P
steps_apart lates number other late link at there there' one two =
    let same : late.steps ≡ link.steps = ap (λ (l : LateLink). l.steps) (same_link lates number other late link at there there') in
    absurd (omega arith)

one_step : (told : List Progress) (lates : List LateLink) (number other : ℕ) (late link : LateLink) (step next : ChangeStep)
    → slice_get lates number ≡ Some late → slice_get lates other ≡ Some link → IsStep told lates number late step → IsStep told lates other link next → IsOne number other step next
one_step told lates number other late link Disable Disable there there' is is' =
    record { at = one_first (is_ready told) lates number other late link there there' is.1 is'.1 is.2 is'.2; step_is = refl }
one_step told lates number other late link Disable Retune there there' is is' = both (has_half lates) (any_at is_half lates other link there' is'.0) is.0
one_step told lates number other late link Disable Enable there there' is is' = both (has_half lates) (any_at is_half lates other link there' is'.0) is.0
one_step told lates number other late link Retune Disable there there' is is' = both (has_half lates) (any_at is_half lates number late there is.0) is'.0
one_step told lates number other late link Enable Disable there there' is is' = both (has_half lates) (any_at is_half lates number late there is.0) is'.0
one_step told lates number other late link Retune Retune there there' is is' =
    record { at = one_first is_half lates number other late link there there' is.0 is'.0 is.1 is'.1; step_is = refl }
one_step told lates number other late link Enable Enable there there' is is' =
    record { at = one_first is_half lates number other late link there there' is.0 is'.0 is.1 is'.1; step_is = refl }
one_step told lates number other late link Retune Enable there there' is is' =
    steps_apart lates number other late link (one_first is_half lates number other late link there there' is.0 is'.0 is.1 is'.1) there there' is.2 is'.2
one_step told lates number other late link Enable Retune there there' is is' =
    steps_apart lates other number link late (one_first is_half lates other number link late there' there is'.0 is.0 is'.1 is.1) there' there is'.2 is.2

-- ---- answers that exclude each other

-- a change is due where no state is
change_no_send : {P : Type 0} (value : ConductorValue) (number : ℕ) (late : LateLink) (step : ChangeStep) (state : State) → IsChangeDue value number late step → IsSendDue value state → P
change_no_send value number late Disable state due send =
    both (may_change value && list_any (is_ready value.told) value.lates)
    (and_of (may_change value) (list_any (is_ready value.told) value.lates) due.now (any_at (is_ready value.told) value.lates number late due.there due.due.1)) send.none_next
change_no_send value number late Retune state due send = both (has_half value.lates) (any_at is_half value.lates number late due.there due.due.0) send.none_half
change_no_send value number late Enable state due send = both (has_half value.lates) (any_at is_half value.lates number late due.there due.due.0) send.none_half

change_no_over : {P : Type 0} (value : ConductorValue) (number : ℕ) (late : LateLink) (step : ChangeStep) → IsChangeDue value number late step → is_over value ≡ true → P
change_no_over value number late step due over =
    let two = eqb-true value.sends 2 (and_both (value.sends == 2) (all_told Executing value.told) due.now).0 in
    let four = eqb-true value.sends 4 (and_both (value.sends == 4) (all_told Loaded value.told) over).0 in
    absurd (omega arith)

send_no_over : {P : Type 0} (value : ConductorValue) (state : State) → IsSendDue value state → is_over value ≡ true → P
send_no_over value state send over =
    let four : value.sends ≡ 4 = eqb-true value.sends 4 (and_both (value.sends == 4) (all_told Loaded value.told) over).0 in
    let none : None ≡ Some state = ap (slice_get all_states) (sym four) ∙ send.next in
    absurd cc

-- two answers are one, and so is what is known then
pub record AreOne (phase answer : Phase) (next other : ConductorValue) : Type 0 where
  pub phase_is : phase ≡ answer
  pub value_is : next ≡ other

one_change : (value next other : ConductorValue) (component place : ℕ) (step turn : ChangeStep) → IsChange value component step next → IsChange value place turn other
    → AreOne (Change component step) (Change place turn) next other
one_change value next other component place step turn c d =
    let one = one_step value.told value.lates c.number d.number c.late d.late step turn c.due.there d.due.there c.due.due d.due.due in
    let same : c.late ≡ d.late = same_link value.lates c.number d.number c.late d.late one.at c.due.there d.due.there in
    let source : component ≡ place = c.its_source ∙ ap (λ (l : LateLink). l.source) same ∙ sym d.its_source in
    record {
      phase_is = ap (λ k. Change k step) source ∙ ap (Change place) one.step_is;
      value_is = c.goes_on ∙ ap (λ n. record value { lates = slice_set value.lates n (one_step_more c.late) }) one.at
          ∙ ap (λ l. record value { lates = slice_set value.lates d.number (one_step_more l) }) same ∙ sym d.goes_on;
    }

pub one_answer : (value next other : ConductorValue) (phase answer : Phase) → Conducts value phase next → Conducts value answer other → AreOne phase answer next other
one_answer value next other Failed Failed c d = record { phase_is = refl; value_is = c.1 ∙ sym d.1 }
one_answer value next other Failed (Change component step) c d = both (has_failed value.told) c.0 d.0
one_answer value next other Failed (Send state) c d = both (has_failed value.told) c.0 d.0
one_answer value next other Failed Over c d = both (has_failed value.told) c.0 d.0
one_answer value next other Failed Wait c d = both (has_failed value.told) c.0 d.0
one_answer value next other (Change component step) Failed c d = both (has_failed value.told) d.0 c.0
one_answer value next other (Change component step) (Change place turn) c d = one_change value next other component place step turn c.1 d.1
one_answer value next other (Change component step) (Send state) c d = change_no_send value c.1.number c.1.late step state c.1.due d.1
one_answer value next other (Change component step) Over c d = change_no_over value c.1.number c.1.late step c.1.due d.1
one_answer value next other (Change component step) Wait c d = absurd (d.1.no_change c.1.number c.1.late step c.1.due)
one_answer value next other (Send state) Failed c d = both (has_failed value.told) d.0 c.0
one_answer value next other (Send state) (Change component step) c d = change_no_send value d.1.number d.1.late step state d.1.due c.1
one_answer value next other (Send state) (Send answer) c d =
    record { phase_is = ap Send (Some_same state answer (sym c.1.next ∙ d.1.next)); value_is = c.2 ∙ sym d.2 }
one_answer value next other (Send state) Over c d = send_no_over value state c.1 d.1
one_answer value next other (Send state) Wait c d = absurd (d.1.no_send state c.1)
one_answer value next other Over Failed c d = both (has_failed value.told) d.0 c.0
one_answer value next other Over (Change component step) c d = change_no_over value d.1.number d.1.late step d.1.due c.1
one_answer value next other Over (Send state) c d = send_no_over value state d.1 c.1
one_answer value next other Over Over c d = record { phase_is = refl; value_is = c.2 ∙ sym d.2 }
one_answer value next other Over Wait c d = both (is_over value) c.1 d.1.not_over
one_answer value next other Wait Failed c d = both (has_failed value.told) d.0 c.0
one_answer value next other Wait (Change component step) c d = absurd (c.1.no_change d.1.number d.1.late step d.1.due)
one_answer value next other Wait (Send state) c d = absurd (c.1.no_send state d.1)
one_answer value next other Wait Over c d = both (is_over value) d.1 c.1.not_over
one_answer value next other Wait Wait c d = record { phase_is = refl; value_is = c.2 ∙ sym d.2 }
