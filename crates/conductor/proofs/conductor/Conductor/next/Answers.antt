use Rattle.std.proofs.Common.{◌≡◌, false, List, sym, ◌∙◌, ap, subst}
use Rattle.il_machine.specs.declared.answer.Progress.{Progress}
use Rattle.conductor.specs.Hearing.{ConductorValue}
use Rattle.conductor.specs.Phases.{IsWaiting, has_failed}
use Rattle.conductor.proofs.conductor.Conductor.next.Goals as goal

pub returns-else-is_over : goal.returns-else-is_over
returns-else-is_over c =
    let told_is : c.as_slice.result.now ≡ c.hear.new.self.told = c.as_slice.ensures.value ∙ ap (λ (value : ConductorValue). value.told) c.self.view_is in
    let quiet : has_failed c.hear.new.self.told ≡ false =
    subst (λ (told : List Progress). has_failed told ≡ false) told_is (sym c.has_failed.ensures ∙ c.if-has_failed.false) in
    let waiting : IsWaiting c.hear.new.self =
    record { no_change = c.in_default.ensures.none; no_send = c.in_default-send_due.ensures.none; not_over = sym c.is_over.ensures ∙ c.if-is_over.false } in
    (subst (λ (value : ConductorValue). has_failed value.told ≡ false) c.hear.ensures quiet, subst IsWaiting c.hear.ensures waiting, c.hear.ensures)
