use Rattle.std.proofs.Common.{sym, ◌∙◌, ap}
use Rattle.il_machine.specs.Headers.{Seen}
use Rattle.il_component.specs.Entries.{component_of}
use Rattle.port_rules.specs.Claiming.{work_idle}
use Rattle.port_rules.proofs.Idling.{busy_is, ended_is, stopped_is, work_is}
use Rattle.port_rules.proofs.claiming.claim_idle.Goals as goal

pub returns-then-is_work_out : goal.returns-then-is_work_out
returns-then-is_work_out g c = λ l h. busy_is l (component_of c.args.component.now) (sym c.is_work_out.ensures ∙ c.if-is_work_out.true)

pub returns-then-not-is_claimable : goal.returns-then-not-is_claimable
returns-then-not-is_claimable g c = λ l h. stopped_is l (component_of c.args.component.now) (sym c.is_work_out.ensures ∙ c.if-is_work_out.false) (sym c.is_claimable.ensures ∙ c.if-not-is_claimable.true)

pub returns-then-is_over : goal.returns-then-is_over
returns-then-is_over g c = λ l h. ended_is l (component_of c.args.component.now) (sym c.is_work_out.ensures ∙ c.if-is_work_out.false) (sym c.is_claimable.ensures ∙ c.if-not-is_claimable.false) (sym c.is_over.ensures ∙ c.if-is_over.true)

pub returns-else-is_over : goal.returns-else-is_over
returns-else-is_over g c = λ l h.
    let k = component_of c.args.component.now in
    c.work_idle.ensures ∙ (ap (λ (s : Seen). work_idle s k) (sym h) ∙ work_is l k (sym c.is_work_out.ensures ∙ c.if-is_work_out.false) (sym c.is_claimable.ensures ∙ c.if-not-is_claimable.false) (sym c.is_over.ensures ∙ c.if-is_over.false))
