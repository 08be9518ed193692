use Rattle.std.proofs.Common.{◌≡◌, ◌⊎◌, inl, inr, List, sym, subst, ◌∙◌}
use Rattle.il_machine.specs.declared.answer.Progress.{Progress}
use Rattle.act_text.specs.declared.act.TextAct.{TextAct}
use Rattle.play_forms.specs.Plans.{PlanValue}
use Rattle.audit_order.specs.Steps.{Admits, BeginsChange, BeginsSend, ChangesOn, OrderValue, SendsOn}
use Rattle.audit_order.proofs.order.Order.admit.Goals as goal

none_of : (plan : PlanValue) (told : List Progress) (act : TextAct) (x next : OrderValue) → (SendsOn plan x act next → ⊥) → (ChangesOn plan told x act next → ⊥) → (BeginsChange plan told x act next → ⊥) → (BeginsSend plan told x act next → ⊥)
    → Admits plan told x act next → ⊥
none_of plan told act x next a b c d (inl H) = a H
none_of plan told act x next a b c d (inr (inl H)) = b H
none_of plan told act x next a b c d (inr (inr (inl H))) = c H
none_of plan told act x next a b c d (inr (inr (inr H))) = d H

pub returns-clause-no : goal.returns-clause-no
returns-clause-no c = λ no.
    let plan = c.args.plan.now in
    let told = c.args.told.now in
    let act = c.args.act.now in
    let first = c.send_on.ensures.no c.if-send_on.false in
    let second = c.change_on.ensures.no c.if-change_on.false in
    let third = c.begin_change.ensures.no c.if-begin_change.false in
    let last = c.begin_send.ensures.no no in
    let two = second.0 ∙ first.0 in
    let three = third.0 ∙ two in (
      last.0 ∙ three,
      λ next A. none_of plan told act c.args.self.now next (first.1 next)
          (λ H. second.1 next (subst (λ v. ChangesOn plan told v act next) (sym first.0) H))
          (λ H. third.1 next (subst (λ v. BeginsChange plan told v act next) (sym two) H))
          (λ H. last.1 next (subst (λ v. BeginsSend plan told v act next) (sym three) H)) A,
    )
